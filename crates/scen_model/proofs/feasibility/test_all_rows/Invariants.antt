use Rattle.std.proofs.Common.{◌≡◌}
use Rattle.scen_defs.specs.Values.{at}
use Rattle.scen_defs.specs.Flat.{along}
use Rattle.scen_defs.specs.Program.{content, view_of}
use Rattle.scen_model.specs.Walks.{fold_walk, end_of, rows_test, all_rows_test}
use Rattle.scen_model.proofs.NodeSteps.{live_from}
use Rattle.scen_model.proofs.feasibility.test_all_rows.Given as goal

abbrev pub invariant-loop-place : goal.invariant-loop-place
invariant-loop-place l =
    let v = view_of (content l.program) in
    fold_walk (λ _ n. rows_test (end_of l.ends) (along v (at l.values) n) (v.rows n)) tt (live_from l.place l.program.nodes.items) ≡ all_rows_test (end_of l.ends) v (at l.values)
