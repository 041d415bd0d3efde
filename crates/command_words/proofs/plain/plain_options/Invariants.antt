use Rattle.std.proofs.Common.{◌≡◌, ◌++◌, drop, map, string_bytes}
use Rattle.command_words.specs.Words.{plain_word}
use Rattle.command_words.specs.Views.{all_given}
use Rattle.command_words.proofs.plain.plain_options.Given as goal

abbrev pub invariant-loop-setting : goal.invariant-loop-setting
invariant-loop-setting l =
    map string_bytes l.options.items ++ map plain_word (all_given (drop l.setting-index l.settings)) ≡ map plain_word (all_given l.settings)
