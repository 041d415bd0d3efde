use Rattle.std.proofs.Common.{◌≡◌, [], length, map, string_bytes}
use Rattle.command_words.specs.Words.{settings_from}
use Rattle.command_words.specs.Views.{all_given}
use Rattle.command_words.proofs.settings.settings.Given as goal

abbrev pub invariant-loop-rest : goal.invariant-loop-rest
invariant-loop-rest l = settings_from (all_given l.settings.items) (map string_bytes l.rest) ≡ settings_from [] (map string_bytes l.words)

abbrev pub decreases-loop-rest : goal.decreases-loop-rest
decreases-loop-rest l = length l.rest
