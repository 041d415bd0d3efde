use Rattle.std.proofs.Common.{◌≡◌}
use Rattle.scen_defs.specs.Values.{at}
use Rattle.scen_defs.specs.Program.{content, view_of}
use Rattle.scen_model.specs.Walks.{fold_walk, rows_from, all_rows}
use Rattle.scen_model.proofs.NodeSteps.{live_from}
use Rattle.scen_model.proofs.rows.add_all_rows.Given as goal

abbrev pub invariant-loop-place : goal.invariant-loop-place
invariant-loop-place l =
    let v = view_of (content l.program) in
    fold_walk (λ s n. rows_from (at l.values n) s (v.rows n)) l.sum (live_from l.place l.program.nodes.items) ≡ all_rows v (at l.values)
