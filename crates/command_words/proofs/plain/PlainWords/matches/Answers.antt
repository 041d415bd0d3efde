use Rattle.std.proofs.Common.{◌≡◌, ap, map, string_bytes, rules}
use Rattle.std.proofs.lemmas.Result.{IfErr-weaker, IfOk-weaker}
use Rattle.clap.specs.Words.{app_of}
use Rattle.command_words.specs.Options.{reader_of}
use Rattle.command_words.proofs.ReaderLemmas.{finds_values, takes_words}
use Rattle.command_words.proofs.plain.PlainWords.matches.Goals as goal

pub returns-clause-values : goal.returns-clause-values
returns-clause-values c =
    let self = c.args.self.now in
    let words = map string_bytes self.options.items in
    let is : app_of c.in_ok-reader.reader ≡ reader_of self.verb = search rules in
    let are : map string_bytes c.as_slice.result.now ≡ words = ap (map string_bytes) c.as_slice.ensures.value in
    IfOk-weaker c.try_get_matches_from.result _ _
    (λ m has. finds_values self.verb words self.plain self.is_command (app_of c.in_ok-reader.reader) (map string_bytes c.as_slice.result.now) is are m has)
    c.try_get_matches_from.ensures.matches

pub returns-clause-memory : goal.returns-clause-memory
returns-clause-memory c =
    let self = c.args.self.now in
    let words = map string_bytes self.options.items in
    let is : app_of c.in_ok-reader.reader ≡ reader_of self.verb = search rules in
    let are : map string_bytes c.as_slice.result.now ≡ words = ap (map string_bytes) c.as_slice.ensures.value in
    IfErr-weaker c.try_get_matches_from.result _ _
    (λ error kind. kind (takes_words self.verb words self.plain self.is_command (app_of c.in_ok-reader.reader) (map string_bytes c.as_slice.result.now) is are))
    c.try_get_matches_from.ensures.passes
