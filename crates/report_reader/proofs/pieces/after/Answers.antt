use Rattle.std.proofs.Common.{sym, ◌∙◌, arith}
use Rattle.report_reader.proofs.PieceLemmas.{none_left}
use Rattle.report_reader.proofs.pieces.after.Goals as goal

pub returns-in-empty : goal.returns-in-empty
returns-in-empty c = sym c.loop-byte.invariant ∙ none_left c.args.word.now c.loop-byte.byte-index c.loop-byte.rest.now (omega arith) (omega (arith, c.in-empty.len_below))
