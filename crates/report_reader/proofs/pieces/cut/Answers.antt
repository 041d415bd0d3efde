use Rattle.std.proofs.Common.{◌+◌, add-one, arith}
use Rattle.std.proofs.lemmas.List.{take_rest}
use Rattle.report_reader.proofs.PieceLemmas.{cut_at, cut_none}
use Rattle.report_reader.proofs.pieces.cut.Goals as goal

pub returns-then-first-byte-clause-cut : goal.returns-then-first-byte-clause-cut
returns-then-first-byte-clause-cut c =
    rw (take_rest c.args.text.now (c.loop-end.end + 1), add-one) (cut_at c.args.byte c.args.text.now c.loop-end.end c.loop-end.invariant c.loop-end-test.true c.if-first-byte.true)

pub returns-clause-cut : goal.returns-clause-cut
returns-clause-cut c = cut_none c.args.byte c.args.text.now (λ k below. c.loop-end.invariant k (omega arith))
