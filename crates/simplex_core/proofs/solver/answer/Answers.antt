use Rattle.std.proofs.Common.{◌≡◌, Ok, length, refl, ◌∙◌}
use Rattle.lp_defs.specs.Phases.{priced, unit_costs}
use Rattle.lp_defs.specs.Solution.{first_rows, first_cost}
use Rattle.simplex_core.proofs.Solves.{renamed, priced_is, rows_are, cost_is, begins_rise, begins_below, begins_basic, first_ready, solution_is}
use Rattle.simplex_core.proofs.solver.answer.Goals as goal

pub first_objective-requires-clause-rise : goal.first_objective-requires-clause-rise
first_objective-requires-clause-rise c =
    begins_rise c.args.program.now c.as_slice.result.now c.columns-columns.ensures.is_program
    (c.as_slice.ensures.value ∙ rows_are c.args.program.now c.columns-columns.result c.rows-2.result.now c.right.result.now c.in_ok-rows.rows.items c.columns-columns.ensures.same c.rows-2.ensures c.right.ensures c.in_ok-rows.ensures)

pub first_objective-requires-clause-below : goal.first_objective-requires-clause-below
first_objective-requires-clause-below c =
    begins_below c.args.program.now c.columns-columns.result (length c.rows.result.now) c.rows.result.now c.as_slice.result.now c.columns-columns.ensures.is_program c.columns-columns.ensures.same c.rows.ensures refl
    (c.as_slice.ensures.value ∙ rows_are c.args.program.now c.columns-columns.result c.rows-2.result.now c.right.result.now c.in_ok-rows.rows.items c.columns-columns.ensures.same c.rows-2.ensures c.right.ensures c.in_ok-rows.ensures)

pub first_objective-requires-clause-basic : goal.first_objective-requires-clause-basic
first_objective-requires-clause-basic c =
    begins_basic c.args.program.now c.columns-columns.result (length c.rows.result.now) c.rows.result.now c.as_slice.result.now c.columns-columns.ensures.same c.rows.ensures refl
    (c.as_slice.ensures.value ∙ rows_are c.args.program.now c.columns-columns.result c.rows-2.result.now c.right.result.now c.in_ok-rows.rows.items c.columns-columns.ensures.same c.rows-2.ensures c.right.ensures c.in_ok-rows.ensures)

pub first_phase-requires : goal.first_phase-requires
first_phase-requires c =
    let r : c.in_ok-rows.rows.items ≡ first_rows c.args.program.now = rows_are c.args.program.now c.columns-columns.result c.rows-2.result.now c.right.result.now c.in_ok-rows.rows.items c.columns-columns.ensures.same c.rows-2.ensures c.right.ensures c.in_ok-rows.ensures in
    let k : unit_costs c.columns-columns.result (length c.rows.result.now) ≡ first_cost c.args.program.now = cost_is c.args.program.now c.columns-columns.result (length c.rows.result.now) c.rows.result.now c.columns-columns.ensures.same c.rows.ensures refl in
    let e : priced (first_cost c.args.program.now) (first_rows c.args.program.now) (first_cost c.args.program.now) ≡ Ok c.in-Ok.objective =
    priced_is (first_cost c.args.program.now) (unit_costs c.columns-columns.result (length c.rows.result.now)) (first_rows c.args.program.now) c.as_slice.result.now c.in-Ok.objective k (c.as_slice.ensures.value ∙ r) c.in-Ok.ensures in
    first_ready c.args.program.now c.new-tableau.result c.in_ok-rows.rows.items c.in-Ok.objective c.columns-columns.ensures.is_program r e c.new-tableau.ensures

pub returns-in-Ok : goal.returns-in-Ok
returns-in-Ok c =
    let r : c.in_ok-rows.rows.items ≡ first_rows c.args.program.now = rows_are c.args.program.now c.columns-columns.result c.rows-2.result.now c.right.result.now c.in_ok-rows.rows.items c.columns-columns.ensures.same c.rows-2.ensures c.right.ensures c.in_ok-rows.ensures in
    let k : unit_costs c.columns-columns.result (length c.rows.result.now) ≡ first_cost c.args.program.now = cost_is c.args.program.now c.columns-columns.result (length c.rows.result.now) c.rows.result.now c.columns-columns.ensures.same c.rows.ensures refl in
    let e : priced (first_cost c.args.program.now) (first_rows c.args.program.now) (first_cost c.args.program.now) ≡ Ok c.in-Ok.objective =
    priced_is (first_cost c.args.program.now) (unit_costs c.columns-columns.result (length c.rows.result.now)) (first_rows c.args.program.now) c.as_slice.result.now c.in-Ok.objective k (c.as_slice.ensures.value ∙ r) c.in-Ok.ensures in
    renamed _ _ c.first_phase.result (solution_is c.args.program.now c.args.pivots c.new-tableau.result c.in_ok-rows.rows.items c.in-Ok.objective r e c.new-tableau.ensures) c.first_phase.ensures
