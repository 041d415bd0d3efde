use Rattle.std.proofs.Common.{length, ◌≤◌, take}
use Rattle.std.specs.List.{flat_map}
use Rattle.smps_io.specs.Faults.{RoseBy}
use Rattle.smps_io.specs.Puts.{Appends}
use Rattle.smps_cli.specs.Solved.{told_text}
use Rattle.smps_cli.proofs.write.write_reports.Given as goal

abbrev pub invariant-loop-told : goal.invariant-loop-told
invariant-loop-told g l = Appends (g.K.Sink.written l.fn.sink) (flat_map told_text (take l.told-index l.tolds)) (g.K.Sink.written l.sink)
    × (g.K.Sink.faults l.fn.sink ≤ g.K.Sink.faults l.sink)
    × RoseBy (g.K.Sink.taken l.fn.sink) (length (flat_map told_text (take l.told-index l.tolds))) (g.K.Sink.taken l.sink)
