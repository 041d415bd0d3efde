use Rattle.std.proofs.Common.{◌≡◌, eqb}
use Rattle.scen_defs.specs.declared.program.Column.{Column}
use Rattle.scen_defs.specs.Values.{at}
use Rattle.scen_defs.specs.Program.{content, view_of}
use Rattle.scen_model.specs.Walks.{fold_walk, end_of, is_between, test, bounds_test}
use Rattle.scen_model.proofs.PlaceSteps.{places_from}
use Rattle.scen_model.proofs.feasibility.test_bounds.Given as goal

abbrev pub invariant-loop-place : goal.invariant-loop-place
invariant-loop-place l =
    let v = view_of (content l.program) in
    fold_walk (λ _ j. test (is_between (end_of l.ends (v.lower j)) (end_of l.ends (v.upper j)) (at l.values l.node j))) tt (places_from (λ (c : Column). eqb c.stage (v.stage l.node)) l.place l.program.columns.items)
    ≡ bounds_test (end_of l.ends) v (at l.values) l.node
