use Rattle.std.proofs.Common.{◌≡◌, [], replicate}
use Rattle.node_data.specs.Frames.{stage_lists}
use Rattle.node_data.proofs.frame.no_columns.Given as goal

abbrev pub invariant-loop-stage : goal.invariant-loop-stage
invariant-loop-stage l = stage_lists l.all.items ≡ replicate l._stage []
