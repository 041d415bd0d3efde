use Rattle.std.proofs.Common.{◌≡◌, drop}
use Rattle.command_words.specs.Words.{has_flag}
use Rattle.command_words.proofs.flag.has_flag.Given as goal

abbrev pub invariant-loop-other : goal.invariant-loop-other
invariant-loop-other l = has_flag l.flag (drop l.other-index l.flags) ≡ has_flag l.flag l.flags
