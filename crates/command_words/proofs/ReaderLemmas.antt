-- What the library for command lines makes of plain words.
use Rattle.std.proofs.Common.{◌≡◌, ◌∙◌, ◌⊎◌, inl, inr, ◌&&◌, ◌||◌, ℕ, Bool, true, false, not, cond, List, [], ◌∷◌, ◌++◌, map, is_some, is_none}
use Rattle.std.proofs.Common.{Option, Some, None, option_map, refl, sym, ap, ap₂, subst, rules, append-nil, append_assoc, codes}
use Rattle.std.specs.Option.{IsSome}
use Rattle.std.specs.List.{filter, fold, list_all, list_any}
use Rattle.std.specs.Str.{bytes_eq}
use Rattle.clap.specs.declared.parser.matches.ArgMatches.{ArgMatches}
use Rattle.clap.specs.declared.parser.matches.ValueSource.TheVariants.{CommandLine}
use Rattle.clap.specs.Lexer.{long_of}
use Rattle.clap.specs.Words.{App, HasMatchesOf, Row, Rule, Shape, first_of, first_value, found_of, is_simple, matches_of, rows_of, takes}
use Rattle.clap.specs.Walk.{Walk, arg_by_long, at_row, finished, has_row, more_values, nothing_held, reading_by, rows_after, used, walk, walk_from, walked, with_default}
use Rattle.clap.specs.Simple.{filled, new_shape, with_index}
use Rattle.clap.specs.Takes.{built_takes, default_passes, is_given, is_valid, level_passes, turn_passes, walk_passes}
use Rattle.clap.proofs.TakesLemmas.{leaf_takes}
use Rattle.clap.proofs.WalkLemmas.{both, first_value-rows}
use Rattle.command_words.specs.declared.flag.Flag.{Flag}
use Rattle.command_words.specs.declared.flag.Flag.TheVariants.{Core, Time, Stoch, Edits, Report, Whole, Number, Form, Solves, Pivots, Workers, Quiet}
use Rattle.command_words.specs.declared.flag.Flag.TheVariants.{Start, Stages, Branches, Size, Text, Tail, Weight, Basis, Measures}
use Rattle.command_words.specs.declared.command.Command.{Command}
use Rattle.command_words.specs.declared.command.Verb.{Verb}
use Rattle.command_words.specs.declared.command.Verb.TheVariants.{Solve, Check, Table, Show, Flat, Value, Make}
use Rattle.command_words.specs.Table.{all_flags, flag_text}
use Rattle.command_words.specs.Words.{Given, are_once, plain_word, same_flag, settings_of, value_with}
use Rattle.command_words.specs.Commands.{all_allowed, allows, are_options, asked_with, command_by, command_with}
use Rattle.command_words.specs.Views.{asked}
use Rattle.command_words.specs.Options.{option_rule, reader_of, with_options}
use Rattle.command_words.proofs.PlainLemmas.{both_true, same_is}

-- ---- the command as it is built

-- an option as building leaves it
abbrev built_rule : Flag → Rule
built_rule flag = with_index 1 (filled (option_rule (flag_text flag)))

abbrev flags_for : Verb → List Flag
flags_for verb = filter (allows verb) all_flags

-- a built command with these options
abbrev shape_with : List Flag → Shape
shape_with flags = record (new_shape (codes "tidzgheba")) {
  rules = map built_rule flags;
  no_binary_name = true;
  disable_help_flag = true;
  disable_help_subcommand = true;
  is_built = true;
}

reader_is_simple : (verb : Verb) → is_simple (reader_of verb) ≡ true
unfolding with_options
reader_is_simple Solve = refl
reader_is_simple Check = refl
reader_is_simple Table = refl
reader_is_simple Show = refl
reader_is_simple Flat = refl
reader_is_simple Value = refl
reader_is_simple Make = refl

reader_takes : (verb : Verb) (words : List (List ℕ))
    → takes (reader_of verb) words ≡ built_takes (record { top = shape_with (flags_for verb); subs = [] }) nothing_held words
unfolding with_options
reader_takes Solve words = refl
reader_takes Check words = refl
reader_takes Table words = refl
reader_takes Show words = refl
reader_takes Flat words = refl
reader_takes Value words = refl
reader_takes Make words = refl

reader_matches : (verb : Verb) (words : List (List ℕ)) → matches_of (reader_of verb) words ≡ rows_after (map built_rule (flags_for verb)) [] words
unfolding with_options
reader_matches Solve words = refl
reader_matches Check words = refl
reader_matches Table words = refl
reader_matches Show words = refl
reader_matches Flat words = refl
reader_matches Value words = refl
reader_matches Make words = refl

same_refl : (flag : Flag) → same_flag flag flag ≡ true
same_refl Core = refl
same_refl Time = refl
same_refl Stoch = refl
same_refl Edits = refl
same_refl Report = refl
same_refl Whole = refl
same_refl Number = refl
same_refl Form = refl
same_refl Solves = refl
same_refl Pivots = refl
same_refl Workers = refl
same_refl Quiet = refl
same_refl Start = refl
same_refl Stages = refl
same_refl Branches = refl
same_refl Size = refl
same_refl Text = refl
same_refl Tail = refl
same_refl Weight = refl
same_refl Basis = refl
same_refl Measures = refl

is_there : (flag : Flag) → list_any (λ x. same_flag x flag) all_flags ≡ true
is_there Core = refl
is_there Time = refl
is_there Stoch = refl
is_there Edits = refl
is_there Report = refl
is_there Whole = refl
is_there Number = refl
is_there Form = refl
is_there Solves = refl
is_there Pivots = refl
is_there Workers = refl
is_there Quiet = refl
is_there Start = refl
is_there Stages = refl
is_there Branches = refl
is_there Size = refl
is_there Text = refl
is_there Tail = refl
is_there Weight = refl
is_there Basis = refl
is_there Measures = refl

-- the option of a name is found among those that pass a test
found_among : (p : Flag → Bool) (flags : List Flag) (flag : Flag) → p flag ≡ true → list_any (λ x. same_flag x flag) flags ≡ true
    → arg_by_long (map built_rule (filter p flags)) (flag_text flag) ≡ Some (built_rule flag)
found_among p [] flag passes e = cc
found_among p (x ∷ flags) flag passes e = go (same_flag x flag) refl e (found_among p flags flag passes)
  where
    pass : (b : Bool) → p x ≡ b → same_flag x flag ≡ false → arg_by_long (map built_rule (filter p flags)) (flag_text flag) ≡ Some (built_rule flag)
        → arg_by_long (map built_rule (filter p (x ∷ flags))) (flag_text flag) ≡ Some (built_rule flag)
    pass true t other rest = rw (t, other) rest
    pass false t other rest = rw t rest

    go : (b : Bool) → same_flag x flag ≡ b → (b || list_any (λ x. same_flag x flag) flags) ≡ true
        → (list_any (λ x. same_flag x flag) flags ≡ true → arg_by_long (map built_rule (filter p flags)) (flag_text flag) ≡ Some (built_rule flag))
        → arg_by_long (map built_rule (filter p (x ∷ flags))) (flag_text flag) ≡ Some (built_rule flag)
    go true t h rec =
        let is : x ≡ flag = same_is x flag t in
        let here : p x ≡ true = ap p is ∙ passes in
        rw (here, t) (ap (λ y. Some (built_rule y)) is)
    go false t h rec = pass (p x) refl t (rec h)

found : (verb : Verb) (flag : Flag) → allows verb flag ≡ true → arg_by_long (map built_rule (flags_for verb)) (flag_text flag) ≡ Some (built_rule flag)
found verb flag e = found_among (allows verb) all_flags flag e (is_there flag)

-- ---- one word

plain_is_long : (flag : Flag) (value : List ℕ) → long_of (45 ∷ 45 ∷ (flag_text flag ++ 61 ∷ value)) ≡ Some (flag_text flag, Some value)
plain_is_long Core value = refl
plain_is_long Time value = refl
plain_is_long Stoch value = refl
plain_is_long Edits value = refl
plain_is_long Report value = refl
plain_is_long Whole value = refl
plain_is_long Number value = refl
plain_is_long Form value = refl
plain_is_long Solves value = refl
plain_is_long Pivots value = refl
plain_is_long Workers value = refl
plain_is_long Quiet value = refl
plain_is_long Start value = refl
plain_is_long Stages value = refl
plain_is_long Branches value = refl
plain_is_long Size value = refl
plain_is_long Text value = refl
plain_is_long Tail value = refl
plain_is_long Weight value = refl
plain_is_long Basis value = refl
plain_is_long Measures value = refl

plain_is_no_end : (flag : Flag) (value : List ℕ) → bytes_eq (45 ∷ 45 ∷ (flag_text flag ++ 61 ∷ value)) (45 ∷ 45 ∷ []) ≡ false
plain_is_no_end Core value = refl
plain_is_no_end Time value = refl
plain_is_no_end Stoch value = refl
plain_is_no_end Edits value = refl
plain_is_no_end Report value = refl
plain_is_no_end Whole value = refl
plain_is_no_end Number value = refl
plain_is_no_end Form value = refl
plain_is_no_end Solves value = refl
plain_is_no_end Pivots value = refl
plain_is_no_end Workers value = refl
plain_is_no_end Quiet value = refl
plain_is_no_end Start value = refl
plain_is_no_end Stages value = refl
plain_is_no_end Branches value = refl
plain_is_no_end Size value = refl
plain_is_no_end Text value = refl
plain_is_no_end Tail value = refl
plain_is_no_end Weight value = refl
plain_is_no_end Basis value = refl
plain_is_no_end Measures value = refl

-- where the walk over the words stands once these rows are found
abbrev at : List Row → Walk
at rows = walk_from (record { rows = rows; pending = None; skip = 0 })

abbrev row_by : Given → Row
row_by g = record { id = flag_text g.flag; values = g.value ∷ []; count = None; source = Some CommandLine; reading = reading_by (built_rule g.flag) }

at_row-new : (id : List ℕ) (change : Row → List Row) (missing rows : List Row) → has_row id rows ≡ false → at_row id change missing rows ≡ rows ++ missing
at_row-new id change missing [] e = refl
at_row-new id change missing (r ∷ rows) e = go (bytes_eq r.id id) e (at_row-new id change missing rows)
  where
    go : (b : Bool) → (b || has_row id rows) ≡ false → (has_row id rows ≡ false → at_row id change missing rows ≡ rows ++ missing)
        → cond b (change r ++ rows) (r ∷ at_row id change missing rows) ≡ r ∷ (rows ++ missing)
    go true h rec = cc
    go false h rec = ap (λ rs. r ∷ rs) (rec h)

-- the first use of an option adds a row
used_first : (flag : Flag) (value : List ℕ) (rows : List Row) → has_row (flag_text flag) rows ≡ false
    → used (built_rule flag) (value ∷ []) rows ≡ rows ++ row_by (record { flag = flag; value = value }) ∷ []
used_first flag value rows new =
    let same = at_row-new (flag_text flag) (λ _. []) [] rows new ∙ append-nil rows in
    let row = row_by (record { flag = flag; value = value }) in
    rw same (at_row-new (flag_text flag) (more_values CommandLine (value ∷ [])) (row ∷ []) rows new)

step : (c : List Rule) (word name value : List ℕ) (flag : Flag) (rows after : List Row) → bytes_eq word (45 ∷ 45 ∷ []) ≡ false → long_of word ≡ Some (name, Some value)
    → arg_by_long c name ≡ Some (built_rule flag) → used (built_rule flag) (value ∷ []) rows ≡ after → walked c [] (at rows) word ≡ at after
unfolding walked
step c word name value flag rows after more long here uses = rw (more, long, here, uses) refl

step_passes_here : (s : Shape) (word name value : List ℕ) (flag : Flag) (rows : List Row) → bytes_eq word (45 ∷ 45 ∷ []) ≡ false → long_of word ≡ Some (name, Some value)
    → arg_by_long s.rules name ≡ Some (built_rule flag) → has_row (flag_text flag) rows ≡ false → turn_passes s [] (at rows) word ≡ true
step_passes_here s word name value flag rows more long here new = rw (more, long, here, new) refl

-- ---- all words

-- what has a row already is not among the settings to come
abbrev AreNew : List Given → List Row → Type 0
AreNew gs rows = (flag : Flag) → has_row (flag_text flag) rows ≡ true → value_with flag gs ≡ None

none_of : {X : Type 0} (o : Option X) → is_none o ≡ true → o ≡ None
none_of None e = refl
none_of (Some x) e = cc

is_new : (g : Given) (gs : List Given) (rows : List Row) → AreNew (g ∷ gs) rows → has_row (flag_text g.flag) rows ≡ false
is_new g gs rows new = go (has_row (flag_text g.flag) rows) refl
  where
    go : (b : Bool) → has_row (flag_text g.flag) rows ≡ b → b ≡ false
    go true t =
        let none : Some g.value ≡ None = rw (same_refl g.flag) at (new g.flag t) in
        cc
    go false t = refl

any_push : {X : Type 0} (p : X → Bool) (xs : List X) (x : X) → list_any p (xs ++ x ∷ []) ≡ true → (list_any p xs ≡ true) ⊎ (p x ≡ true)
any_push p [] x e = go (p x) e
  where
    go : (b : Bool) → (b || false) ≡ true → (false ≡ true) ⊎ (b ≡ true)
    go true h = inr refl
    go false h = inl h
any_push p (y ∷ xs) x e = go (p y) e (any_push p xs x)
  where
    go : (b : Bool) → (b || list_any p (xs ++ x ∷ [])) ≡ true → (list_any p (xs ++ x ∷ []) ≡ true → (list_any p xs ≡ true) ⊎ (p x ≡ true))
        → ((b || list_any p xs) ≡ true) ⊎ (p x ≡ true)
    go true h rec = inl refl
    go false h rec = rec h

stay_new : (g : Given) (gs : List Given) (rows : List Row) → is_none (value_with g.flag gs) ≡ true → AreNew (g ∷ gs) rows → AreNew gs (rows ++ row_by g ∷ [])
stay_new g gs rows once new flag has = elim (any_push (λ (r : Row). bytes_eq r.id (flag_text flag)) rows (row_by g) has) [
  | inl h ↦ go (same_flag g.flag flag) (new flag h)
  | inr h ↦
      let is : g.flag ≡ flag = same_is g.flag flag h in
      subst (λ (x : Flag). value_with x gs ≡ None) is (none_of (value_with g.flag gs) once)
]
  where
    go : (b : Bool) → cond b (Some g.value) (value_with flag gs) ≡ None → value_with flag gs ≡ None
    go true e = cc
    go false e = e

-- the walk takes each word, and adds its row
goes : (s : Shape) (verb : Verb) → ((flag : Flag) → allows verb flag ≡ true → arg_by_long s.rules (flag_text flag) ≡ Some (built_rule flag))
    → (gs : List Given) (rows : List Row) → all_allowed verb gs ≡ true → are_once gs ≡ true → AreNew gs rows
    → (fold (walked s.rules []) (at rows) (map plain_word gs) ≡ at (rows ++ map row_by gs)) × (walk_passes s [] (at rows) (map plain_word gs) ≡ true)
unfolding walk_passes
goes s verb finds [] rows allowed once new = (ap at (sym (append-nil rows)), refl)
goes s verb finds (g ∷ gs) rows allowed once new =
    let word = plain_word g in
    let here = finds g.flag (both _ _ allowed).0 in
    let more = plain_is_no_end g.flag g.value in
    let long = plain_is_long g.flag g.value in
    let first = is_new g gs rows new in
    let one : walked s.rules [] (at rows) word ≡ at (rows ++ row_by g ∷ []) =
    step s.rules word (flag_text g.flag) g.value g.flag rows _ more long here (used_first g.flag g.value rows first) in
    let rest = goes s verb finds gs (rows ++ row_by g ∷ []) (both _ _ allowed).1 (both _ _ once).1 (stay_new g gs rows (both _ _ once).0 new) in (
      ap (λ w. fold (walked s.rules []) w (map plain_word gs)) one ∙ rest.0 ∙ ap at (append_assoc rows (row_by g ∷ []) (map row_by gs)),
      both_true _ _ (step_passes_here s word (flag_text g.flag) g.value g.flag rows more long here first)
          (ap (λ w. walk_passes s [] w (map plain_word gs)) one ∙ rest.1),
    )

-- ---- after the walk

cond_same : {X : Type 0} (b : Bool) (x : X) → cond b x x ≡ x
cond_same true x = refl
cond_same false x = refl

no_defaults : (flags : List Flag) (rows : List Row) → fold with_default rows (map built_rule flags) ≡ rows
no_defaults [] rows = refl
no_defaults (flag ∷ flags) rows = ap (λ rs. fold with_default rs (map built_rule flags)) (cond_same (has_row (flag_text flag) rows) rows) ∙ no_defaults flags rows

each_rule : (p : Rule → Bool) → ((flag : Flag) → p (built_rule flag) ≡ true) → (flags : List Flag) → list_all p (map built_rule flags) ≡ true
each_rule p passes [] = refl
each_rule p passes (flag ∷ flags) = both_true _ _ (passes flag) (each_rule p passes flags)

valid : (flags : List Flag) (rows : List Row) → is_valid (shape_with flags) rows false ≡ true
valid flags rows =
    let free = each_rule (λ a. a.is_free) (λ flag. refl) flags in
    let optional = each_rule (λ a. not a.required || is_given a.id rows) (λ flag. refl) flags in
    rw (free, optional) refl

level : (flags : List Flag) (words : List (List ℕ)) (rows : List Row) → walk (map built_rule flags) [] nothing_held words ≡ at rows
    → walk_passes (shape_with flags) [] (walk_from nothing_held) words ≡ true → level_passes (shape_with flags) [] nothing_held words false ≡ true
level flags words rows ends passes =
    let defaults = each_rule default_passes (λ flag. refl) flags in
    rw (ends, passes, defaults) (valid flags (finished (map built_rule flags) (at rows).held))

module _ (verb : Verb) (gs : List Given) (allowed : all_allowed verb gs ≡ true) (once : are_once gs ≡ true) where
  goes_all : (fold (walked (map built_rule (flags_for verb)) []) (at []) (map plain_word gs) ≡ at (map row_by gs))
      × (walk_passes (shape_with (flags_for verb)) [] (at []) (map plain_word gs) ≡ true)
  goes_all = goes (shape_with (flags_for verb)) verb (found verb) gs [] allowed once (λ flag has. cc)

  takes_plain : takes (reader_of verb) (map plain_word gs) ≡ true
  takes_plain = reader_takes verb (map plain_word gs) ∙ leaf_takes (record { top = shape_with (flags_for verb); subs = [] }) nothing_held (map plain_word gs) refl
      (level (flags_for verb) (map plain_word gs) (map row_by gs) goes_all.0 goes_all.1)

  matches_plain : matches_of (reader_of verb) (map plain_word gs) ≡ map row_by gs
  matches_plain = reader_matches verb (map plain_word gs) ∙ ap (λ w. finished (map built_rule (flags_for verb)) w.held) goes_all.0
      ∙ no_defaults (flags_for verb) (map row_by gs)

-- the first value of an option in the rows
row_of_flag : (gs : List Given) (flag : Flag) → first_of (flag_text flag) (map row_by gs) ≡ value_with flag gs
row_of_flag [] flag = refl
row_of_flag (g ∷ gs) flag = go (same_flag g.flag flag) refl (row_of_flag gs flag)
  where
    go : (b : Bool) → same_flag g.flag flag ≡ b → first_of (flag_text flag) (map row_by gs) ≡ value_with flag gs
        → first_of (flag_text flag) (map row_by (g ∷ gs)) ≡ value_with flag (g ∷ gs)
    go true t rec = rw t refl
    go false t rec = rw t rec

-- ---- what the words were made of

are_options_of : (verb : Verb) (gs : List Given) → is_some (command_with verb gs) ≡ true → are_options verb gs ≡ true
are_options_of verb gs e = go (are_options verb gs) e
  where
    go : (b : Bool) → is_some (cond b (asked_with verb (λ flag. value_with flag gs)) None) ≡ true → b ≡ true
    go true h = refl
    go false h = cc

allowed_once : (verb : Verb) (gs : List Given) → is_some (command_with verb gs) ≡ true → (all_allowed verb gs && are_once gs) ≡ true
allowed_once verb gs e = (both (all_allowed verb gs && are_once gs) _ (are_options_of verb gs e)).0

-- plain words of a command are those of some settings
module _ (verb : Verb) (words : List (List ℕ)) (plain : option_map (map plain_word) (settings_of words) ≡ Some words) (command : is_some (command_by verb words) ≡ true) where
  made_of : (gs : List Given) → settings_of words ≡ Some gs → (map plain_word gs ≡ words) × (is_some (command_with verb gs) ≡ true)
  made_of gs e =
      let same : Some (map plain_word gs) ≡ Some words = rw e at plain in
      (cc, rw e at command)

  some_settings : (gs : List Given) × (settings_of words ≡ Some gs)
  some_settings = go (settings_of words) refl
    where
      go : (o : Option (List Given)) → settings_of words ≡ o → (gs : List Given) × (settings_of words ≡ Some gs)
      go None e = let none : None ≡ Some words = rw e at plain in cc
      go (Some gs) e = (gs, e)

  -- words that are these, for an app that is the reader of the verb
  module _ (app : App) (given : List (List ℕ)) (is : app ≡ reader_of verb) (are : given ≡ words) where
    pub takes_words : takes app given ≡ true
    takes_words =
        let made = made_of some_settings.0 some_settings.1 in
        let ok = both (all_allowed verb some_settings.0) _ (allowed_once verb some_settings.0 made.1) in
        ap₂ takes is (are ∙ sym made.0) ∙ takes_plain verb some_settings.0 ok.0 ok.1

    pub finds_values : (m : ArgMatches) → HasMatchesOf app given m
        → (gs : List Given) → settings_of words ≡ Some gs → (flag : Flag) → first_value (found_of m) (flag_text flag) ≡ value_with flag gs
    finds_values m has gs e flag =
        let made = made_of gs e in
        let ok = both (all_allowed verb gs) _ (allowed_once verb gs made.1) in
        let rows : rows_of (found_of m) ≡ matches_of app given = (has (ap is_simple is ∙ reader_is_simple verb)).0 in
        let those : matches_of app given ≡ map row_by gs = ap₂ matches_of is (are ∙ sym made.0) ∙ matches_plain verb gs ok.0 ok.1 in
        first_value-rows (found_of m) (flag_text flag) ∙ ap (first_of (flag_text flag)) (rows ∙ those) ∙ row_of_flag gs flag

  pub asks_same : (m : ArgMatches) → ((gs : List Given) → settings_of words ≡ Some gs → (flag : Flag) → first_value (found_of m) (flag_text flag) ≡ value_with flag gs)
      → asked_with verb (λ flag. first_value (found_of m) (flag_text flag)) ≡ command_by verb words
  asks_same m finds =
      let gs = some_settings.0 in
      let made = made_of gs some_settings.1 in
      let ok = are_options_of verb gs made.1 in
      let same : (flag : Flag) → first_value (found_of m) (flag_text flag) ≡ value_with flag gs = finds gs some_settings.1 in
      (λ i. asked_with verb (λ flag. same flag i)) ∙ rw (some_settings.1, ok) refl

  -- what is asked for by what is found
  module _ (m : ArgMatches)
      (finds : (gs : List Given) → settings_of words ≡ Some gs → (flag : Flag) → first_value (found_of m) (flag_text flag) ≡ value_with flag gs)
      (found : Option Command) (asks : option_map asked found ≡ asked_with verb (λ flag. first_value (found_of m) (flag_text flag))) where
    pub is_found : IsSome found
    is_found = go found (ap is_some (asks ∙ asks_same m finds) ∙ command)
      where
        go : (o : Option Command) → is_some (option_map asked o) ≡ true → IsSome o
        go None e = cc
        go (Some x) e = search rules

    pub found_is : (x : Command) → found ≡ Some x → Some (asked x) ≡ command_by verb words
    found_is x e = ap (option_map asked) (sym e) ∙ asks ∙ asks_same m finds
