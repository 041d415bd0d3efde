use Rattle.std.proofs.Common.{subst, ◌∙◌}
use Rattle.scen_defs.specs.Lists.{Each}
use Rattle.interval_form.specs.Rows.{HasForm}
use Rattle.node_lp.specs.Fits.{HaveCutForms}
use Rattle.node_lp.proofs.FitLemmas.{fits_exactly, same_parts}
use Rattle.node_lp.proofs.fitting.fits.Goals as goal

pub returns-clause-exact : goal.returns-clause-exact
returns-clause-exact c =
    fits_exactly c.args.task.now c.parts_fit.result c.bounds.ensures.datum
    (record { rows = subst (Each HasForm) c.rows.ensures c.keep_row_orders.ensures; cuts = subst (Each HaveCutForms) c.deref.ensures.value c.keep_child_orders.ensures })
    (c.parts_fit.ensures ∙ same_parts c.args.task.now _ _ _ _ c.is_priced.ensures c.bounds.ensures.bounds c.shares.ensures c.deref-2.ensures.value)
