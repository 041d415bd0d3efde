use Rattle.scen_defs.specs.Lists.{Each}
use Rattle.scen_defs.specs.Values.{at}
use Rattle.scen_defs.specs.Program.{content, view_of}
use Rattle.scen_model.proofs.NodeSteps.{live_from}
use Rattle.rounded_ends.specs.Met.{BoundsMet}
use Rattle.rounded_ends.proofs.meets.are_all_bounds_met.Given as goal

abbrev pub invariant-loop-place : goal.invariant-loop-place
invariant-loop-place l =
    let v = view_of (content l.program) in
    Each (BoundsMet v (at l.values)) (live_from l.place l.program.nodes.items) → Each (BoundsMet v (at l.values)) v.live
