-- What plain words say.
use Rattle.std.specs.Prelude.{Option, map, string_bytes}
use Rattle.command_words.specs.declared.plain.PlainWords.{PlainWords}
use Rattle.command_words.specs.Commands.{Asked, command_by}

-- what the words ask for
abbrev pub plain_view : PlainWords → Option Asked
plain_view plain = command_by plain.verb (map string_bytes plain.options.items)
