use Rattle.std.proofs.Common.{◌≡◌, ◌-◌}
use Rattle.scen_defs.specs.Program.{content}
use Rattle.tail_risk.specs.TailRow.{costs_up, path_costs}
use Rattle.tail_risk.specs.Paths.{MeetApart}
use Rattle.tail_risk.proofs.path.path_costs.Given as goal

abbrev pub invariant-loop-up : goal.invariant-loop-up
invariant-loop-up l = record {
  apart : MeetApart (content l.program).nodes l.form (l.count - l._up) l.at;
  kept : costs_up (content l.program).nodes l.form (l.count - l._up) l.at ≡ path_costs (content l.program).nodes l.node;
}
