-- A number above a million.
use Rattle.edit_script.proofs.Counts.{past}
use Rattle.edit_script.proofs.numbers.count_of.Goals as goal

pub returns-then-number-gt1000000-clause-count : goal.returns-then-number-gt1000000-clause-count
returns-then-number-gt1000000-clause-count c =
    past c.args.word.now c.loop-byte.number c.loop-byte.byte-index c.saturating_sub.result c.loop-byte.invariant.number c.loop-byte-test.true c.saturating_sub.ensures c.if-number-gt1000000.true
