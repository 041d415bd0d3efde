use Rattle.std.proofs.Common.{◌≡◌, drop}
use Rattle.command_words.specs.Commands.{go_together}
use Rattle.command_words.specs.Views.{all_given}
use Rattle.command_words.proofs.command.go_together.Given as goal

abbrev pub invariant-loop-setting : goal.invariant-loop-setting
invariant-loop-setting l =
    go_together (all_given l.settings) (all_given (drop l.setting-index l.settings)) ≡ go_together (all_given l.settings) (all_given l.settings)
