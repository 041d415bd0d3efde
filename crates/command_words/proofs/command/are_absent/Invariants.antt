use Rattle.std.proofs.Common.{◌≡◌, drop}
use Rattle.command_words.specs.Commands.{are_absent}
use Rattle.command_words.specs.Views.{all_given}
use Rattle.command_words.proofs.command.are_absent.Given as goal

abbrev pub invariant-loop-flag : goal.invariant-loop-flag
invariant-loop-flag l = are_absent (all_given l.settings) (drop l.flag-index l.flags) ≡ are_absent (all_given l.settings) l.flags
