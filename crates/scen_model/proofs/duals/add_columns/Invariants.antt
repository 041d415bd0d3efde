use Rattle.std.proofs.Common.{◌≡◌, eqb}
use Rattle.scen_defs.specs.declared.program.Column.{Column}
use Rattle.scen_defs.specs.Values.{at}
use Rattle.scen_defs.specs.Program.{content, view_of}
use Rattle.scen_model.specs.Walks.{fold_walk, costs_of, column_step, columns_step}
use Rattle.scen_model.proofs.PlaceSteps.{places_from}
use Rattle.scen_model.proofs.duals.add_columns.Given as goal

abbrev pub invariant-loop-place : goal.invariant-loop-place
invariant-loop-place l =
    let v = view_of (content l.program) in
    fold_walk (column_step (costs_of l.costs v) v (at l.values) l.node) l.sum (places_from (λ (c : Column). eqb c.stage (v.stage l.node)) l.place l.program.columns.items)
    ≡ columns_step (costs_of l.costs v) v (at l.values) l.fn.start l.node
