-- The options of a verb, as the library for command lines reads them.
use Rattle.std.specs.Prelude.{ℕ, true, List, [], ◌∷◌, Some, if◌then◌else◌, codes}
use Rattle.clap.specs.Words.{App, Rule, new_app, new_rule, with_rule}
use Rattle.clap.specs.Simple.{on_top}
use Rattle.clap.specs.declared.builder.action.ArgAction.TheVariants.{Set}
use Rattle.command_words.specs.declared.flag.Flag.{Flag}
use Rattle.command_words.specs.declared.command.Verb.{Verb}
use Rattle.command_words.specs.Table.{all_flags, flag_text}
use Rattle.command_words.specs.Commands.{allows}

-- an option of this name, which takes one value
abbrev pub option_rule : List ℕ → Rule
option_rule name = record (new_rule name) { long = Some name; action = Some Set }

-- no option yet, not that of help either, and no program's name before the words
abbrev pub no_options : App
no_options = on_top (λ s. record s { no_binary_name = true; disable_help_flag = true }) (new_app (codes "tidzgheba"))

-- with those of some options that go with the verb
unfoldable pub with_options : Verb → App → List Flag → App
with_options verb app [] = app
with_options verb app (flag ∷ flags) =
    with_options verb (if allows verb flag then with_rule app (option_rule (flag_text flag)) else app) flags

abbrev pub reader_of : Verb → App
reader_of verb = with_options verb no_options all_flags
