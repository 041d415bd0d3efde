use Rattle.std.proofs.Common.{◌≡◌, drop}
use Rattle.command_words.specs.Words.{value_with}
use Rattle.command_words.specs.Views.{all_given}
use Rattle.command_words.proofs.settings.value_with.Given as goal

abbrev pub invariant-loop-setting : goal.invariant-loop-setting
invariant-loop-setting l = value_with l.flag (all_given (drop l.setting-index l.settings)) ≡ value_with l.flag (all_given l.settings)
