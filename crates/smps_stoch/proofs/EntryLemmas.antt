-- What an index set and an index map find, and what the definitions find.
use Rattle.std.proofs.Common.{◌≡◌, ◌+◌, ◌∙◌, ◌++◌, ap, ℕ, Bool, true, false, List, [], ◌∷◌, Option, Some, None, refl, if◌then◌else◌}
use Rattle.std.specs.List.{list_any, position, position_from}
use Rattle.std.proofs.lemmas.Iterator.Adapters.{position_from-zero}
use Rattle.smps_words.specs.declared.entry.Entry.{Entry}
use Rattle.stoch_defs.specs.Entries.{same_entry}
use Rattle.scenario_paths.proofs.EntryLemmas.{derived, derived_is}
use Rattle.stoch_defs.specs.Stated.{entry_from, place_of_entry}

place_from_is : (start : ℕ) (entries : List Entry) (entry : Entry) → position_from (derived entry) start entries ≡ entry_from start entries entry
place_from_is start [] entry = refl
place_from_is start (first ∷ entries) entry = rw (derived_is entry first, place_from_is (start + 1) entries entry) refl

pub place_is : (entries : List Entry) (entry : Entry) → position (derived entry) entries ≡ place_of_entry entries entry
place_is entries entry = position_from-zero (derived entry) entries ∙ place_from_is 0 entries entry

either : (here : Bool) (start : ℕ) (rest : Option ℕ) → (if here then Some start else rest) ≡ None → (here ≡ false) × (rest ≡ None)
either false start rest e = (refl, e)
either true start rest e = cc

absent : (start : ℕ) (entries : List Entry) (entry : Entry) → entry_from start entries entry ≡ None → list_any (derived entry) entries ≡ false
absent start [] entry none = refl
absent start (first ∷ entries) entry none =
    let both : (same_entry entry first ≡ false) × (entry_from (start + 1) entries entry ≡ None) = either (same_entry entry first) start (entry_from (start + 1) entries entry) none in
    rw (derived_is entry first ∙ both.0) (absent (start + 1) entries entry both.1)

-- an entry that isn't there goes last
pub added : (entries new view : List Entry) (entry : Entry) → new ≡ (if list_any (derived entry) entries then entries else entries ++ entry ∷ []) → entries ≡ view → place_of_entry view entry ≡ None → new ≡ view ++ entry ∷ []
added entries new view entry is_new is none =
    let gone : list_any (derived entry) entries ≡ false = absent 0 entries entry (ap (λ all. place_of_entry all entry) is ∙ none) in
    let last : new ≡ entries ++ entry ∷ [] = rw gone at is_new in
    last ∙ ap (λ front. front ++ entry ∷ []) is
