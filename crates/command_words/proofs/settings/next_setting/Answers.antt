use Rattle.std.proofs.Common.{rules, ◌≡◌, None, map, string_bytes, ap, ◌∙◌, ◌∷◌}
use Rattle.command_words.specs.Views.{given}
use Rattle.command_words.specs.Words.{setting_of}
use Rattle.command_words.proofs.WordLemmas.{alone, joined, apart}
use Rattle.command_words.proofs.settings.next_setting.Goals as goal

pub returns-in-Some-clause-some : goal.returns-in-Some-clause-some
returns-in-Some-clause-some c = λ done. joined done c.args.word.now (given c.in_ok-setting.setting) (map string_bytes c.args.after.now) (c.in-Some.name.now, c.in-Some.value.now) c.in-Some.ensures c.in_ok-setting.ensures

pub returns-in-Some-switch-clause-some : goal.returns-in-Some-switch-clause-some
returns-in-Some-switch-clause-some c = λ done. alone done c.args.word.now (given c.in-Some-switch.alone) (map string_bytes c.args.after.now) c.in_default.ensures c.in-Some-switch.ensures

pub returns-clause-some : goal.returns-clause-some
returns-clause-some c = λ done.
    let split : c.args.after.now ≡ c.in_ok-value.value.now ∷ c.in_ok-value.behind.now = search rules in
    rw split (apart done c.args.word.now (given c.in_ok-setting-2.setting) (string_bytes c.in_ok-value.value.now) (map string_bytes c.in_ok-value.behind.now)
    c.in_default.ensures c.in_default-switch.ensures (c.in_ok-setting-2.ensures ∙ ap (setting_of c.args.word.now) c.as_str.ensures.value))
