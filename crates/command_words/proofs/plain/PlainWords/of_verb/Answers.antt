use Rattle.std.proofs.Common.{◌≡◌, map, string_bytes, Some, true, false, is_some, rules}
use Rattle.command_words.specs.Words.{settings_of, plain_word}
use Rattle.command_words.specs.Commands.{command_with}
use Rattle.command_words.specs.Views.{all_given}
use Rattle.command_words.proofs.PlainLemmas.{no_command, plain_words}
use Rattle.command_words.proofs.plain.PlainWords.of_verb.Goals as goal

pub returns-then-not-is_command-clause-none : goal.returns-then-not-is_command-clause-none
returns-then-not-is_command-clause-none c =
    let settings = all_given c.in-Some.settings.items in
    let read : Some settings ≡ settings_of (map string_bytes c.args.words.now) = search rules in
    let none : false ≡ is_some (command_with c.args.verb settings) = search rules in
    no_command c.args.verb (map string_bytes c.args.words.now) settings read none

pub invariant_of-result : goal.invariant_of-result
invariant_of-result c =
    let settings = all_given c.in-Some.settings.items in
    let read : Some settings ≡ settings_of (map string_bytes c.args.words.now) = search rules in
    let some : true ≡ is_some (command_with c.args.verb settings) = search rules in
    let are : map string_bytes c.in_ok-options.options.items ≡ map plain_word settings = search rules in
    let plain = plain_words c.args.verb (map string_bytes c.args.words.now) settings read (map string_bytes c.in_ok-options.options.items) are some in
    record { plain = plain.0; is_command = plain.1 }

pub returns-clause-some : goal.returns-clause-some
returns-clause-some c =
    let settings = all_given c.in-Some.settings.items in
    let read : Some settings ≡ settings_of (map string_bytes c.args.words.now) = search rules in
    let some : true ≡ is_some (command_with c.args.verb settings) = search rules in
    let are : map string_bytes c.in_ok-options.options.items ≡ map plain_word settings = search rules in
    (plain_words c.args.verb (map string_bytes c.args.words.now) settings read (map string_bytes c.in_ok-options.options.items) are some).2
