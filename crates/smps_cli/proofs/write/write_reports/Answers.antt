use Rattle.std.proofs.Common.{rules}
use Rattle.smps_cli.proofs.WriteLemmas.{some_texts, some_and_part}
use Rattle.smps_cli.proofs.write.write_reports.Goals as goal

pub returns-in_err-write_all-clause-prefix : goal.returns-in_err-write_all-clause-prefix
returns-in_err-write_all-clause-prefix g c =
    some_and_part c.args.tolds.now c.loop-told.told-index c.told-item.result c.loop-told-test.true c.told-item.is
    (g.K.Sink.written c.args.sink.now) (g.K.Sink.written c.loop-told.sink) (g.K.Sink.written c.write_all.new.sink) c.loop-told.invariant.0 (search rules)

pub returns-clause-prefix : goal.returns-clause-prefix
returns-clause-prefix g c =
    some_texts c.args.tolds.now c.loop-told.told-index (g.K.Sink.written c.args.sink.now) (g.K.Sink.written c.loop-told.sink) c.loop-told.invariant.0
