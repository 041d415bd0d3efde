use Rattle.std.proofs.Common.{◌≡◌, drop}
use Rattle.command_words.specs.Words.{are_once}
use Rattle.command_words.specs.Views.{all_given}
use Rattle.command_words.proofs.settings.are_once.Given as goal

abbrev pub invariant-loop-place : goal.invariant-loop-place
invariant-loop-place l = are_once (all_given (drop l.place l.settings)) ≡ are_once (all_given l.settings)
