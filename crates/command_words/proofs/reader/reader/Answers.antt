use Rattle.std.proofs.Common.{◌≡◌, ◌∙◌, ap, ap₂, rules, true}
use Rattle.std.proofs.lemmas.Result.{IfOk-weaker}
use Rattle.clap.specs.Words.{App, app_of}
use Rattle.clap.specs.Simple.{app_of_fields, on_top}
use Rattle.command_words.specs.Table.{all_flags}
use Rattle.command_words.specs.Options.{no_options, with_options}
use Rattle.command_words.proofs.reader.reader.Goals as goal

abbrev nameless : App → App
nameless = on_top (λ s. record s { no_binary_name = true })

abbrev helpless : App → App
helpless = on_top (λ s. record s { disable_help_flag = true })

pub returns : goal.returns
returns c =
    let named : app_of c.no_binary_name.result ≡ nameless (app_of c.new.result) = ap app_of_fields c.no_binary_name.ensures in
    let helped : app_of c.disable_help_flag-command.result ≡ helpless (app_of c.no_binary_name.result) = ap app_of_fields c.disable_help_flag-command.ensures in
    let start : app_of c.disable_help_flag-command.result ≡ no_options = helped ∙ ap helpless (named ∙ ap nameless c.new.ensures.app) in
    let flags : c.as_slice.result.now ≡ all_flags = search rules in
    IfOk-weaker c.with_options.result _ _ (λ made e. e ∙ ap₂ (with_options c.args.verb) start flags) c.with_options.ensures
