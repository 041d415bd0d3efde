use Rattle.std.proofs.Common.{◌≡◌, ◌<◌, ◌^◌, true, drop}
use Rattle.frac128.specs.Numbers.{number_from}
use Rattle.command_words.specs.Words.{are_digits}
use Rattle.command_words.proofs.value.number_of_digits.Given as goal

abbrev pub invariant-loop-byte : goal.invariant-loop-byte
invariant-loop-byte l = (are_digits (drop l.byte-index l.word) ≡ true) × (number_from l.number (drop l.byte-index l.word) ≡ number_from 0 l.word) × (l.number < 10 ^ l.byte-index)
