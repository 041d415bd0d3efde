use Rattle.std.proofs.Common.{◌≡◌, ◌∙◌, ap, rules}
use Rattle.command_words.specs.Table.{all_flags}
use Rattle.command_words.specs.Words.{flag_among}
use Rattle.command_words.proofs.flag.flag_named.Goals as goal

pub returns : goal.returns
returns c =
    let flags : c.as_slice.result.now ≡ all_flags = search rules in
    c.flag_among.ensures ∙ ap (flag_among c.args.word.now) flags
