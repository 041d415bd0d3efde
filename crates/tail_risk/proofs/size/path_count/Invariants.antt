use Rattle.std.proofs.Common.{◌≡◌, ◌+◌, ◌-◌, [], length}
use Rattle.scen_defs.specs.Program.{content}
use Rattle.tail_risk.specs.TailRow.{costs_up, path_costs}
use Rattle.tail_risk.proofs.size.path_count.Given as goal

abbrev pub invariant-loop-up : goal.invariant-loop-up
invariant-loop-up l = l.count + length (costs_up (content l.program).nodes [] (l.stages - l._up) l.at) ≡ length (path_costs (content l.program).nodes l.node)
