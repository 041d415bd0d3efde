use Rattle.std.proofs.Common.{Ok, Err, ap, subst, sym, ◌∙◌}
use Rattle.scen_defs.specs.Program.{content, view_of}
use Rattle.scen_defs.specs.Values.{at}
use Rattle.scen_model.specs.Walks.{costs_of}
use Rattle.scen_model.specs.Gathered.{Finishes}
use Rattle.scen_model.proofs.QuickLemmas.{totals_done, dual_is}
use Rattle.scen_model.proofs.quick.quick_value.Goals as goal

pub returns-in-Ok : goal.returns-in-Ok
returns-in-Ok c =
    let v = view_of (content c.args.program.now) in
    subst (λ walk. Finishes walk c.add_reduced.result)
    (dual_is (costs_of c.args.costs v) v (at c.args.values.now) (Ok c.in-Ok.sum) (totals_done c.args.program.now c.in_ok-totals.totals.items c.in_ok-totals.ensures.length c.in_ok-totals.ensures.totals) (sym c.in-Ok.is ∙ c.add_all_rows.ensures))
    c.add_reduced.ensures

pub returns-in-Err-Decided : goal.returns-in-Err-Decided
returns-in-Err-Decided c =
    let v = view_of (content c.args.program.now) in
    sym (dual_is (costs_of c.args.costs v) v (at c.args.values.now) (Err c.in-Err-Decided.field-0) (totals_done c.args.program.now c.in_ok-totals.totals.items c.in_ok-totals.ensures.length c.in_ok-totals.ensures.totals) (sym c.in-Err-Decided.is ∙ c.add_all_rows.ensures))
    ∙ ap Err c.in-Err-Decided.field-0-is
