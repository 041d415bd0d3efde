use Rattle.std.proofs.Common.{◌≡◌}
use Rattle.scen_defs.specs.Values.{at}
use Rattle.scen_defs.specs.Program.{content, view_of}
use Rattle.scen_model.specs.Walks.{fold_walk, less_step, less_all}
use Rattle.scen_model.proofs.NodeSteps.{live_from}
use Rattle.scen_model.proofs.duals.less_below.Given as goal

abbrev pub invariant-loop-place : goal.invariant-loop-place
invariant-loop-place l =
    let v = view_of (content l.program) in
    fold_walk (less_step v (at l.values) l.top l.column) l.rest (live_from l.place l.program.nodes.items) ≡ less_all v (at l.values) l.top l.column l.fn.start
