use Rattle.std.proofs.Common.{◌≡◌, drop}
use Rattle.command_words.specs.Words.{flag_among}
use Rattle.command_words.proofs.flag.flag_among.Given as goal

abbrev pub invariant-loop-flag : goal.invariant-loop-flag
invariant-loop-flag l = flag_among l.word (drop l.flag-index l.flags) ≡ flag_among l.word l.flags
