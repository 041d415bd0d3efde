-- The first place where a test holds, and tables that are read at it.
use Rattle.std.proofs.Common.{◌≡◌, ◌∙◌, ap, ℕ, ◌+◌, ◌<◌, Bool, true, false, List, [], ◌∷◌, ◌++◌, Option, Some, None, map, length, get_or, refl, sym, add-zero, arith, if◌then◌else◌}
use Rattle.std.specs.Prelude.{option_map}
use Rattle.std.proofs.Math.ListN.{get_or-append}
use Rattle.std.proofs.Math.Seq.{get_or-append_seam}
use Rattle.std.proofs.lemmas.List.{map-append, length-map}
use Rattle.smps_words.specs.Names.{same_name, place_from}
use Rattle.smps_words.specs.declared.entry.Entry.{Entry}
use Rattle.stoch_defs.specs.Entries.{same_entry}
use Rattle.stoch_defs.specs.Means.{Owner, same_owner, number_from}
use Rattle.stoch_defs.specs.Stated.{entry_from}

abbrev pub first_true : ℕ → List Bool → Option ℕ
first_true n [] = None
first_true n (b ∷ bs) = if b then Some n else first_true (n + 1) bs

abbrev pub or_else : Option ℕ → Option ℕ → Option ℕ
or_else (Some x) other = Some x
or_else None other = other

abbrev pub some_if : Bool → ℕ → Option ℕ
some_if b n = if b then Some n else None

abbrev pub seen : List ℕ → Option ℕ → Option ℕ
seen table o = option_map (λ (k : ℕ). get_or table k 0) o

pub or_none : (o : Option ℕ) → or_else o None ≡ o
or_none (Some x) = refl
or_none None = refl

first_snoc : (n : ℕ) (bs : List Bool) (b : Bool) → first_true n (bs ++ b ∷ []) ≡ or_else (first_true n bs) (some_if b (n + length bs))
first_snoc n [] b = ap (some_if b) (sym (add-zero n))
first_snoc n (true ∷ bs) b = refl
first_snoc n (false ∷ bs) b =
    let at : (n + 1) + length bs ≡ n + length (false ∷ bs) = omega arith in
    first_snoc (n + 1) bs b ∙ ap (λ (m : ℕ). or_else (first_true (n + 1) bs) (some_if b m)) at

some_is : (n m : ℕ) → Some n ≡ Some m → n ≡ m
some_is n m e = cc

first_below : (n : ℕ) (bs : List Bool) (k : ℕ) → first_true n bs ≡ Some k → k < n + length bs
first_below n [] k e = cc
first_below n (true ∷ bs) k e = let at : n ≡ k = some_is n k e in omega (arith, at)
first_below n (false ∷ bs) k e = let below : k < (n + 1) + length bs = first_below (n + 1) bs k e in omega (arith, below)

seen_more : (table : List ℕ) (v : ℕ) (o : Option ℕ) (b : Bool) (n : ℕ) → n ≡ length table → ((k : ℕ) → o ≡ Some k → k < length table) →
    seen (table ++ v ∷ []) (or_else o (some_if b n)) ≡ or_else (seen table o) (some_if b v)
seen_more table v (Some k) b n is below = ap Some (get_or-append table (v ∷ []) 0 k (below k refl))
seen_more table v None true n is below = ap (λ (m : ℕ). Some (get_or (table ++ v ∷ []) m 0)) is ∙ ap Some (get_or-append_seam table v [] 0)
seen_more table v None false n is below = refl

table_snoc : (bs : List Bool) (table : List ℕ) (b : Bool) (v : ℕ) → length bs ≡ length table →
    seen (table ++ v ∷ []) (first_true 0 (bs ++ b ∷ [])) ≡ or_else (seen table (first_true 0 bs)) (some_if b v)
table_snoc bs table b v long =
    let at : 0 + length bs ≡ length table = omega (arith, long) in
    ap (seen (table ++ v ∷ [])) (first_snoc 0 bs b)
    ∙ seen_more table v (first_true 0 bs) b (0 + length bs) at (λ k e. let below : k < 0 + length bs = first_below 0 bs k e in omega (arith, below, long))

-- ---- entries, names and owners

entry_first : (n : ℕ) (entries : List Entry) (q : Entry) → entry_from n entries q ≡ first_true n (map (same_entry q) entries)
entry_first n [] q = refl
entry_first n (first ∷ entries) q = ap (λ (o : Option ℕ). if same_entry q first then Some n else o) (entry_first (n + 1) entries q)

name_first : (n : ℕ) (names : List (List ℕ)) (q : List ℕ) → place_from n names q ≡ first_true n (map (same_name q) names)
name_first n [] q = refl
name_first n (first ∷ names) q = ap (λ (o : Option ℕ). if same_name q first then Some n else o) (name_first (n + 1) names q)

owner_first : (n : ℕ) (owners : List Owner) (q : Owner) → number_from n owners q ≡ first_true n (map (same_owner q) owners)
owner_first n [] q = refl
owner_first n (first ∷ owners) q = ap (λ (o : Option ℕ). if same_owner q first then Some n else o) (owner_first (n + 1) owners q)

pub entry_snoc : (singles : List Entry) (table : List ℕ) (last q : Entry) (v : ℕ) → length singles ≡ length table →
    seen (table ++ v ∷ []) (entry_from 0 (singles ++ last ∷ []) q) ≡ or_else (seen table (entry_from 0 singles q)) (some_if (same_entry q last) v)
entry_snoc singles table last q v long =
    ap (seen (table ++ v ∷ [])) (entry_first 0 (singles ++ last ∷ []) q ∙ ap (first_true 0) (map-append (same_entry q) singles (last ∷ [])))
    ∙ table_snoc (map (same_entry q) singles) table (same_entry q last) v (length-map singles (same_entry q) ∙ long)
    ∙ ap (λ (o : Option ℕ). or_else (seen table o) (some_if (same_entry q last) v)) (sym (entry_first 0 singles q))

pub name_snoc : (names : List (List ℕ)) (table : List ℕ) (last q : List ℕ) (v : ℕ) → length names ≡ length table →
    seen (table ++ v ∷ []) (place_from 0 (names ++ last ∷ []) q) ≡ or_else (seen table (place_from 0 names q)) (some_if (same_name q last) v)
name_snoc names table last q v long =
    ap (seen (table ++ v ∷ [])) (name_first 0 (names ++ last ∷ []) q ∙ ap (first_true 0) (map-append (same_name q) names (last ∷ [])))
    ∙ table_snoc (map (same_name q) names) table (same_name q last) v (length-map names (same_name q) ∙ long)
    ∙ ap (λ (o : Option ℕ). or_else (seen table o) (some_if (same_name q last) v)) (sym (name_first 0 names q))

pub owner_snoc : (owners : List Owner) (last q : Owner) →
    number_from 0 (owners ++ last ∷ []) q ≡ or_else (number_from 0 owners q) (some_if (same_owner q last) (length owners))
owner_snoc owners last q =
    let at : 0 + length (map (same_owner q) owners) ≡ length owners = omega (arith, length-map owners (same_owner q)) in
    owner_first 0 (owners ++ last ∷ []) q ∙ ap (first_true 0) (map-append (same_owner q) owners (last ∷ []))
    ∙ first_snoc 0 (map (same_owner q) owners) (same_owner q last)
    ∙ ap (λ (m : ℕ). or_else (first_true 0 (map (same_owner q) owners)) (some_if (same_owner q last) m)) at
    ∙ ap (λ (o : Option ℕ). or_else o (some_if (same_owner q last) (length owners))) (sym (owner_first 0 owners q))

-- ---- lists with one more

pub joined : {X : Type 0} (xs ys : List X) (x y : X) → xs ≡ ys → x ≡ y → xs ++ x ∷ [] ≡ ys ++ y ∷ []
joined xs ys x y es e = ap (λ (l : List _). l ++ x ∷ []) es ∙ ap (λ last. ys ++ last ∷ []) e

-- a list of images with one more
pub mapped : {A X : Type 0} (f : A → X) (xs : List X) (items : List A) (x : X) (a : A) → xs ≡ map f items → x ≡ f a → xs ++ x ∷ [] ≡ map f (items ++ a ∷ [])
mapped f xs items x a es e = joined xs (map f items) x (f a) es e ∙ sym (map-append f items (a ∷ []))
