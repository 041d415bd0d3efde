use Rattle.std.proofs.Common.{◌≡◌, true, false, map, string_bytes, Some, None, refl, sym}
use Rattle.command_words.specs.Views.{asked}
use Rattle.command_words.proofs.RangeLemmas.{command_has}
use Rattle.command_words.proofs.ReaderLemmas.{found_is, is_found}
use Rattle.command_words.proofs.plain.PlainWords.command.Goals as goal

pub returns-in-Some-clause-asks : goal.returns-in-Some-clause-asks
returns-in-Some-clause-asks c =
    let self = c.args.self.now in
    found_is self.verb (map string_bytes self.options.items) self.plain self.is_command c.in-Ok.matches c.in-Ok.ensures.values
    (Some c.in-Some.command) c.in-Some.ensures c.in-Some.command refl

pub returns-in-Some-clause-range : goal.returns-in-Some-clause-range
returns-in-Some-clause-range c =
    let self = c.args.self.now in
    command_has self.verb (map string_bytes self.options.items) (asked c.in-Some.command)
    (sym (found_is self.verb (map string_bytes self.options.items) self.plain self.is_command c.in-Ok.matches c.in-Ok.ensures.values
    (Some c.in-Some.command) c.in-Some.ensures c.in-Some.command refl))

pub unreachable-requires : goal.unreachable-requires
unreachable-requires c =
    let self = c.args.self.now in
    let has : false ≡ true = is_found self.verb (map string_bytes self.options.items) self.plain self.is_command c.in-Ok.matches c.in-Ok.ensures.values
    None c.in-None.ensures in
    absurd (cc)
