use Rattle.std.proofs.Common.{◌≡◌, length, ◌-◌, ◌≤◌, take}
use Rattle.smps_io.specs.Faults.{RoseBy}
use Rattle.smps_io.specs.Puts.{Appends}
use Rattle.smps_io.proofs.sink.write_all.Given as goal

abbrev pub invariant-loop-at : goal.invariant-loop-at
invariant-loop-at g l = (l.at ≤ length l.bytes) × Appends (g.K.Sink.written l.fn.sink) (take l.at l.bytes) (g.K.Sink.written l.sink) × (g.K.Sink.faults l.fn.sink ≤ g.K.Sink.faults l.sink) × RoseBy (g.K.Sink.taken l.fn.sink) l.at (g.K.Sink.taken l.sink)

abbrev pub decreases-loop-at : goal.decreases-loop-at
decreases-loop-at g l = length l.bytes - l.at
