use Rattle.std.proofs.Common.{◌≡◌, ◌∙◌, Ok, sym, subst}
use Rattle.rationals.specs.Sparse.{Ascending}
use Rattle.lp_defs.specs.Phases.{priced}
use Rattle.simplex_core.proofs.Solves.{renamed, priced_is, second_ready, second_is}
use Rattle.simplex_core.proofs.solver.second_phase.Goals as goal

pub price-requires : goal.price-requires
price-requires c = subst (Ascending 0) (sym (c.terms.ensures ∙ c.cost.ensures)) c.columns-columns.ensures.is_program.cost.form.rises

pub finish-requires-clause-ready : goal.finish-requires-clause-ready
finish-requires-clause-ready c =
    let e : priced c.args.program.now.cost c.args.tableau.rows c.args.program.now.cost ≡ Ok c.in-Ok.objective = priced_is c.args.program.now.cost c.terms.result.now c.args.tableau.rows c.rows.result.now c.in-Ok.objective (c.terms.ensures ∙ c.cost.ensures) c.rows.ensures c.in-Ok.ensures in
    second_ready c.args.program.now c.args.tableau c.with_objective-tableau.result c.in-Ok.objective c.columns-columns.ensures.is_program c.requires.ready e c.with_objective-tableau.ensures

pub returns-in-Ok : goal.returns-in-Ok
returns-in-Ok c =
    let e : priced c.args.program.now.cost c.args.tableau.rows c.args.program.now.cost ≡ Ok c.in-Ok.objective = priced_is c.args.program.now.cost c.terms.result.now c.args.tableau.rows c.rows.result.now c.in-Ok.objective (c.terms.ensures ∙ c.cost.ensures) c.rows.ensures c.in-Ok.ensures in
    renamed _ _ c.finish.result (second_is c.args.program.now c.args.pivots c.args.made c.args.tableau c.with_objective-tableau.result c.in-Ok.objective e c.with_objective-tableau.ensures) c.finish.ensures
