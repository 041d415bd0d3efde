-- The digits so far are a number, and those that are left go on from it.
use Rattle.std.proofs.Common.{◌≡◌, ◌≤◌, drop}
use Rattle.frac128.specs.Numbers.{after_digits, number, number_from}
use Rattle.edit_script.proofs.numbers.count_of.Given as goal

abbrev pub invariant-loop-byte : goal.invariant-loop-byte
invariant-loop-byte l = record {
  number : number_from l.number (drop l.byte-index l.word) ≡ number l.word;
  digits : after_digits (drop l.byte-index l.word) ≡ after_digits l.word;
  few : l.number ≤ 1000000;
}
