use Rattle.std.proofs.Common.{◌≡◌, drop}
use Rattle.command_words.specs.Commands.{all_allowed}
use Rattle.command_words.specs.Views.{all_given}
use Rattle.command_words.proofs.command.all_allowed.Given as goal

abbrev pub invariant-loop-setting : goal.invariant-loop-setting
invariant-loop-setting l = all_allowed l.verb (all_given (drop l.setting-index l.settings)) ≡ all_allowed l.verb (all_given l.settings)
