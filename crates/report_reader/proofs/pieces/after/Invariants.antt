use Rattle.std.proofs.Common.{◌≡◌, drop}
use Rattle.report_reader.specs.Pieces.{after}
use Rattle.report_reader.proofs.pieces.after.Given as goal

abbrev pub invariant-loop-byte : goal.invariant-loop-byte
invariant-loop-byte l = after (drop l.byte-index l.word) l.rest ≡ after l.word l.text
