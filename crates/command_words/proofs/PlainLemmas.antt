-- Plain words are read as what they were made of.
use Rattle.std.proofs.Common.{◌≡◌, ◌∙◌, ◌+◌, ◌&&◌, ◌||◌, ◌==◌, ℕ, suc, Bool, true, false, not, cond, List, [], ◌∷◌, ◌++◌, length, take, drop, map}
use Rattle.std.proofs.Common.{Option, Some, None, is_some, refl, sym, ap, arith, length-append, append-nil, append_assoc, lt-ltb, codes}
use Rattle.std.specs.Prelude.{ltb}
use Rattle.std.specs.List.{list_all, list_any, position_or_len}
use Rattle.std.proofs.lemmas.List.{take_at, drop_at, length_push}
use Rattle.std.proofs.lemmas.Slice.Eq.{bytes_eq-Decides}
use Rattle.clap.proofs.WalkLemmas.{both}
use Rattle.command_words.specs.declared.flag.Flag.{Flag}
use Rattle.command_words.specs.declared.flag.Flag.TheVariants.{Core, Time, Stoch, Edits, Report, Whole, Number, Form, Solves, Pivots, Workers, Quiet}
use Rattle.command_words.specs.declared.flag.Flag.TheVariants.{Start, Stages, Branches, Size, Text, Tail, Weight, Basis, Measures}
use Rattle.command_words.specs.declared.command.Verb.{Verb}
use Rattle.command_words.specs.Table.{flag_text}
use Rattle.command_words.specs.declared.table.ValueKind.{ValueKind}
use Rattle.command_words.specs.declared.table.ValueKind.TheVariants as kind
use Rattle.command_words.specs.Table.{value_kind}
use Rattle.command_words.specs.Words.{ArePlain, Given, after_cut, after_switch, cut, flag_named, is_equals, is_value, plain_word, same_flag}
use Rattle.command_words.specs.Words.{setting_of, settings_from, settings_of, switch_among, switch_by_kind, switch_of, then_some, valued}
use Rattle.command_words.specs.Commands.{Asked, command_by, command_with}
use Rattle.command_words.proofs.WordLemmas.{joined}

-- ---- names

pub named : (flag : Flag) → flag_named (45 ∷ 45 ∷ flag_text flag) ≡ Some flag
named Core = refl
named Time = refl
named Stoch = refl
named Edits = refl
named Report = refl
named Whole = refl
named Number = refl
named Form = refl
named Solves = refl
named Pivots = refl
named Workers = refl
named Quiet = refl
named Start = refl
named Stages = refl
named Branches = refl
named Size = refl
named Text = refl
named Tail = refl
named Weight = refl
named Basis = refl
named Measures = refl

lacks_equals : (flag : Flag) → list_any is_equals (45 ∷ 45 ∷ flag_text flag) ≡ false
lacks_equals Core = refl
lacks_equals Time = refl
lacks_equals Stoch = refl
lacks_equals Edits = refl
lacks_equals Report = refl
lacks_equals Whole = refl
lacks_equals Number = refl
lacks_equals Form = refl
lacks_equals Solves = refl
lacks_equals Pivots = refl
lacks_equals Workers = refl
lacks_equals Quiet = refl
lacks_equals Start = refl
lacks_equals Stages = refl
lacks_equals Branches = refl
lacks_equals Size = refl
lacks_equals Text = refl
lacks_equals Tail = refl
lacks_equals Weight = refl
lacks_equals Basis = refl
lacks_equals Measures = refl

-- options of one name are one
pub same_is : (one other : Flag) → same_flag one other ≡ true → one ≡ other
same_is one other same =
    let text : flag_text one ≡ flag_text other = (bytes_eq-Decides (flag_text one) (flag_text other)).0 same in
    let found : Some one ≡ Some other = sym (named one) ∙ ap (λ t. flag_named (45 ∷ 45 ∷ t)) text ∙ named other in
    cc

-- ---- one word

place : (name value : List ℕ) → list_any is_equals name ≡ false → position_or_len is_equals (name ++ 61 ∷ value) ≡ length name
place [] value lacks = refl
place (x ∷ name) value lacks = go (x == 61) lacks (place name value)
  where
    go : (b : Bool) → (b || list_any is_equals name) ≡ false
        → (list_any is_equals name ≡ false → position_or_len is_equals (name ++ 61 ∷ value) ≡ length name)
        → cond (not b) (1 + position_or_len is_equals (name ++ 61 ∷ value)) 0 ≡ suc (length name)
    go true e rec = cc
    go false e rec = let more : 1 + length name ≡ suc (length name) = omega arith in ap (λ n. 1 + n) (rec e) ∙ more

-- a name that has no `=`, and a value behind the first one
cut_at : (name value : List ℕ) → list_any is_equals name ≡ false → cut (name ++ 61 ∷ value) ≡ Some (name, value)
cut_at name value lacks =
    let at = place name value lacks in
    let inside : ltb (length name) (length (name ++ 61 ∷ value)) ≡ true = lt-ltb _ _ (simp length-append (omega arith)) in
    let before : take (length name) (name ++ 61 ∷ value) ≡ name = take_at name (61 ∷ value) (length name) refl in
    let after : drop (length name + 1) (name ++ 61 ∷ value) ≡ value =
    ap (drop (length name + 1)) (sym (append_assoc name (61 ∷ []) value)) ∙ drop_at (name ++ 61 ∷ []) value (length name + 1) (length_push name 61) in
    rw (at, inside, before, after) refl

cut_plain : (g : Given) → cut (plain_word g) ≡ Some (45 ∷ 45 ∷ flag_text g.flag, g.value)
cut_plain g = cut_at (45 ∷ 45 ∷ flag_text g.flag) g.value (lacks_equals g.flag)

setting_plain : (g : Given) → is_value g.value ≡ true → setting_of (45 ∷ 45 ∷ flag_text g.flag) g.value ≡ Some g
setting_plain g e = rw (named g.flag, e) refl

-- ---- all of them

abbrev pub have_values : List Given → Bool
have_values = list_all (λ g. is_value g.value)

plain_from : (done gs : List Given) → have_values gs ≡ true → settings_from done (map plain_word gs) ≡ Some (done ++ gs)
plain_from done [] e = ap (λ (xs : List Given). Some xs) (sym (append-nil done))
plain_from done (g ∷ gs) e =
    joined done (plain_word g) g (map plain_word gs) (45 ∷ 45 ∷ flag_text g.flag, g.value) (sym (cut_plain g)) (sym (setting_plain g (both _ _ e).0))
    ∙ plain_from (done ++ g ∷ []) gs (both _ _ e).1 ∙ ap (λ (xs : List Given). Some xs) (append_assoc done (g ∷ []) gs)

pub plain_settings : (gs : List Given) → have_values gs ≡ true → settings_of (map plain_word gs) ≡ Some gs
plain_settings gs e = plain_from [] gs e

-- ---- what is read has values

abbrev made : Flag → List ℕ → Given
made flag value = record { flag = flag; value = value }

valued_has : (flag : Option Flag) (value : List ℕ) (g : Given) → valued flag value ≡ Some g → is_value g.value ≡ true
valued_has None value g e = cc
valued_has (Some flag) value g e = go (is_value value) refl e
  where
    go : (b : Bool) → is_value value ≡ b → cond b (Some (made flag value)) None ≡ Some g → is_value g.value ≡ true
    go true t f = let same : made flag value ≡ g = cc in ap (λ (x : Given). is_value x.value) (sym same) ∙ t
    go false t f = cc

switch_kind_has : (flag : Flag) (kind : ValueKind) (g : Given) → switch_by_kind flag kind ≡ Some g → is_value g.value ≡ true
switch_kind_has flag kind.File g e = cc
switch_kind_has flag (kind.Number least most) g e = cc
switch_kind_has flag kind.Page g e = cc
switch_kind_has flag kind.Form g e = cc
switch_kind_has flag kind.Level g e = cc
switch_kind_has flag kind.Weight g e = cc
switch_kind_has flag kind.Yes g e = let same : made flag (codes "yes") ≡ g = cc in ap (λ (x : Given). is_value x.value) (sym same)

switch_has : (flag : Option Flag) (g : Given) → switch_among flag ≡ Some g → is_value g.value ≡ true
switch_has None g e = cc
switch_has (Some flag) g e = switch_kind_has flag (value_kind flag) g e

pub both_true : (a b : Bool) → a ≡ true → b ≡ true → (a && b) ≡ true
both_true true b x y = y
both_true false b x y = x

push_has : (done : List Given) (g : Given) → have_values done ≡ true → is_value g.value ≡ true → have_values (done ++ g ∷ []) ≡ true
push_has [] g d e = both_true (is_value g.value) true e refl
push_has (x ∷ done) g d e = both_true (is_value x.value) (have_values (done ++ g ∷ [])) (both _ _ d).0 (push_has done g (both _ _ d).1 e)

-- the setting is there, and what comes of it
then_gives : {X : Type 0} (o : Option Given) (f : Given → Option X) (x : X) → then_some o f ≡ Some x → (g : Given) × (o ≡ Some g) × (f g ≡ Some x)
then_gives None f x e = cc
then_gives (Some g) f x e = (g, refl, e)

from_has : (done : List Given) (words : List (List ℕ)) (gs : List Given) → have_values done ≡ true → settings_from done words ≡ Some gs → have_values gs ≡ true
from_has done [] gs d e = let same : done ≡ gs = cc in ap have_values (sym same) ∙ d
from_has done (word ∷ []) gs d e = go (cut word) e
  where
    alone : (s : Option Given) → switch_of word ≡ s → after_switch s None (λ s. Some (done ++ s ∷ [])) ≡ Some gs → have_values gs ≡ true
    alone None is f = cc
    alone (Some g) is f =
        let same : done ++ g ∷ [] ≡ gs = cc in
        ap have_values (sym same) ∙ push_has done g d (switch_has (flag_named word) g is)

    go : (parts : Option (List ℕ × List ℕ)) → after_cut parts (after_switch (switch_of word) None (λ s. Some (done ++ s ∷ []))) (λ s. Some (done ++ s ∷ [])) ≡ Some gs
        → have_values gs ≡ true
    go None f = alone (switch_of word) refl f
    go (Some parts) f =
        let found = then_gives (setting_of parts.0 parts.1) (λ s. Some (done ++ s ∷ [])) gs f in
        let ends : Some (done ++ found.0 ∷ []) ≡ Some gs = found.2 in
        let same : done ++ found.0 ∷ [] ≡ gs = cc in
        ap have_values (sym same) ∙ push_has done found.0 d (valued_has (flag_named parts.0) parts.1 found.0 found.1)
from_has done (word ∷ next ∷ words) gs d e = go (cut word) e (λ g. from_has (done ++ g ∷ []) words gs) (λ g. from_has (done ++ g ∷ []) (next ∷ words) gs)
  where
    uncut : (s : Option Given) → switch_of word ≡ s
        → after_switch s (then_some (setting_of word next) (λ s. settings_from (done ++ s ∷ []) words)) (λ s. settings_from (done ++ s ∷ []) (next ∷ words)) ≡ Some gs
        → ((g : Given) → have_values (done ++ g ∷ []) ≡ true → settings_from (done ++ g ∷ []) words ≡ Some gs → have_values gs ≡ true)
        → ((g : Given) → have_values (done ++ g ∷ []) ≡ true → settings_from (done ++ g ∷ []) (next ∷ words) ≡ Some gs → have_values gs ≡ true)
        → have_values gs ≡ true
    uncut None is f apart one =
        let found = then_gives (setting_of word next) (λ s. settings_from (done ++ s ∷ []) words) gs f in
        apart found.0 (push_has done found.0 d (valued_has (flag_named word) next found.0 found.1)) found.2
    uncut (Some g) is f apart one = one g (push_has done g d (switch_has (flag_named word) g is)) f

    go : (parts : Option (List ℕ × List ℕ))
        → after_cut parts
        (after_switch (switch_of word) (then_some (setting_of word next) (λ s. settings_from (done ++ s ∷ []) words))
        (λ s. settings_from (done ++ s ∷ []) (next ∷ words)))
        (λ s. settings_from (done ++ s ∷ []) (next ∷ words)) ≡ Some gs
        → ((g : Given) → have_values (done ++ g ∷ []) ≡ true → settings_from (done ++ g ∷ []) words ≡ Some gs → have_values gs ≡ true)
        → ((g : Given) → have_values (done ++ g ∷ []) ≡ true → settings_from (done ++ g ∷ []) (next ∷ words) ≡ Some gs → have_values gs ≡ true)
        → have_values gs ≡ true
    go None f apart one = uncut (switch_of word) refl f apart one
    go (Some parts) f apart one =
        let found = then_gives (setting_of parts.0 parts.1) (λ s. settings_from (done ++ s ∷ []) (next ∷ words)) gs f in
        one found.0 (push_has done found.0 d (valued_has (flag_named parts.0) parts.1 found.0 found.1)) found.2

pub settings_have : (words : List (List ℕ)) (gs : List Given) → settings_of words ≡ Some gs → have_values gs ≡ true
settings_have words gs e = from_has [] words gs refl e

-- ---- plain words of a verb

module _ (verb : Verb) (words : List (List ℕ)) (gs : List Given) (e : Some gs ≡ settings_of words) where
  pub no_command : false ≡ is_some (command_with verb gs) → command_by verb words ≡ None
  no_command none = rw (← e) (go (command_with verb gs) none)
    where
      go : (o : Option Asked) → false ≡ is_some o → o ≡ None
      go None f = refl
      go (Some x) f = cc

  pub plain_words : (plain : List (List ℕ)) → plain ≡ map plain_word gs → true ≡ is_some (command_with verb gs)
      → ArePlain plain × (is_some (command_by verb plain) ≡ true) × (command_by verb plain ≡ command_by verb words)
  plain_words plain is some =
      let read : settings_of plain ≡ Some gs = ap settings_of is ∙ plain_settings gs (settings_have words gs (sym e)) in
      let same : command_by verb plain ≡ command_by verb words = rw (read, ← e) refl in (
        rw read (ap (λ (ws : List (List ℕ)). Some ws) (sym is)),
        rw read (sym some),
        same,
      )
