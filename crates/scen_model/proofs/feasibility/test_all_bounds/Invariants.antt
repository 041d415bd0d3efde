use Rattle.std.proofs.Common.{◌≡◌}
use Rattle.scen_defs.specs.Values.{at}
use Rattle.scen_defs.specs.Program.{content, view_of}
use Rattle.scen_model.specs.Walks.{fold_walk, end_of, bounds_test, all_bounds_test}
use Rattle.scen_model.proofs.NodeSteps.{live_from}
use Rattle.scen_model.proofs.feasibility.test_all_bounds.Given as goal

abbrev pub invariant-loop-place : goal.invariant-loop-place
invariant-loop-place l =
    let v = view_of (content l.program) in
    fold_walk (λ _ n. bounds_test (end_of l.ends) v (at l.values) n) tt (live_from l.place l.program.nodes.items) ≡ all_bounds_test (end_of l.ends) v (at l.values)
