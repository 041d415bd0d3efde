use Rattle.std.proofs.Common.{◌≡◌, drop}
use Rattle.command_words.specs.Commands.{are_there}
use Rattle.command_words.specs.Views.{all_given}
use Rattle.command_words.proofs.command.are_there.Given as goal

abbrev pub invariant-loop-flag : goal.invariant-loop-flag
invariant-loop-flag l = are_there (all_given l.settings) (drop l.flag-index l.flags) ≡ are_there (all_given l.settings) l.flags
