-- Nodes by their numbers: each stands on a path at its stage.
use Rattle.std.proofs.Common.{◌≡◌, ◌∙◌, ap, sym, refl, subst, ℕ, zero, suc, ◌+◌, ◌<◌, ◌≤◌, Bool, true, false, ◌&&◌, ◌||◌, not, cond, List, [], ◌∷◌, ◌++◌, length, get_or, nat_eq, nat_lt, append_assoc, append-nil, arith, if◌then◌else◌}
use Rattle.std.proofs.Math.Seq.{get_or-append_seam}
use Rattle.std.proofs.lemmas.List.{get_or_append_left, length-append, length_push}
use Rattle.std.proofs.lemmas.Bool.Decides.{nat_tests}
use Rattle.scen_defs.specs.Lists.{Each}
use Rattle.tree_build.specs.declared.numbering.Debut.{Debut}
use Rattle.tree_build.specs.Numbering.{same_key, has_key, number_of, key_of, keys_of, with_debut, debuts_from, numbers_from, row_debuts, all_debuts, paths_from}
use Rattle.tree_build.specs.Finish.{no_debut}
use Rattle.tree_build.specs.Walks.{debuts_of, paths_of}
use Rattle.tree_build.proofs.NumberLemmas.{debuts_append}

-- ---- lists of nodes that grow

pub record Extends (seen all : List Debut) : Type 0 where
  pub more : List Debut
  pub is : all ≡ seen ++ more

pub itself : (seen : List Debut) → Extends seen seen
itself seen = record { more = []; is = sym (append-nil seen) }

pub through : (one two three : List Debut) → Extends one two → Extends two three → Extends one three
through one two three a b = record { more = a.more ++ b.more; is = b.is ∙ ap (λ (xs : List Debut). xs ++ b.more) a.is ∙ append_assoc one a.more b.more }

pub extends_one : (seen : List Debut) (debut : Debut) → Extends seen (with_debut seen debut)
extends_one seen debut = go (has_key (keys_of seen) (key_of debut))
  where
    go : (b : Bool) → Extends seen (if b then seen else seen ++ debut ∷ [])
    go true = itself seen
    go false = record { more = debut ∷ []; is = refl }

pub extends_all : (seen debuts : List Debut) → Extends seen (debuts_from seen debuts)
extends_all seen [] = itself seen
extends_all seen (debut ∷ debuts) = through seen (with_debut seen debut) (debuts_from (with_debut seen debut) debuts) (extends_one seen debut) (extends_all (with_debut seen debut) debuts)

pub kept : (seen all : List Debut) (n : ℕ) → Extends seen all → n < length seen → get_or all n no_debut ≡ get_or seen n no_debut
kept seen all n e below = ap (λ (xs : List Debut). get_or xs n no_debut) e.is ∙ get_or_append_left seen e.more no_debut n below

pub longer : (seen all : List Debut) → Extends seen all → length seen ≤ length all
longer seen all e = omega (arith, ap length e.is, length-append seen e.more)

-- ---- the number of a node

both : (a b : Bool) → (a && b) ≡ true → a ≡ true
both true b e = refl
both false b e = cc

same_stage : (n m : ℕ) → nat_eq n m ≡ true → m ≡ n
same_stage n m e = grind (arith, nat_tests, e)

pub found_at : (seen : List Debut) (debut : Debut) → has_key (keys_of seen) (key_of debut) ≡ true →
    (number_of (keys_of seen) (key_of debut) < length seen) × ((get_or seen (number_of (keys_of seen) (key_of debut)) no_debut).stage ≡ debut.stage)
found_at [] debut h = cc
found_at (first ∷ seen) debut h = go (same_key (key_of debut) (key_of first)) refl h (found_at seen debut)
  where
    later : (m : ℕ) → m ≡ suc (number_of (keys_of seen) (key_of debut)) →
        (number_of (keys_of seen) (key_of debut) < length seen) × ((get_or seen (number_of (keys_of seen) (key_of debut)) no_debut).stage ≡ debut.stage) →
        (m < suc (length seen)) × ((get_or (first ∷ seen) m no_debut).stage ≡ debut.stage)
    later m e h = (omega (arith, e, h.0), ap (λ (k : ℕ). (get_or (first ∷ seen) k no_debut).stage) e ∙ h.1)

    go : (b : Bool) → same_key (key_of debut) (key_of first) ≡ b → (b || has_key (keys_of seen) (key_of debut)) ≡ true →
        (has_key (keys_of seen) (key_of debut) ≡ true → (number_of (keys_of seen) (key_of debut) < length seen) × ((get_or seen (number_of (keys_of seen) (key_of debut)) no_debut).stage ≡ debut.stage)) →
        (cond (not b) (1 + number_of (keys_of seen) (key_of debut)) 0 < suc (length seen)) × ((get_or (first ∷ seen) (cond (not b) (1 + number_of (keys_of seen) (key_of debut)) 0) no_debut).stage ≡ debut.stage)
    go true is h rest = (omega arith, same_stage debut.stage first.stage (both (nat_eq debut.stage first.stage) (nat_eq debut.key first.key) is))
    go false is h rest = later (1 + number_of (keys_of seen) (key_of debut)) (omega arith) (rest h)

pub not_found : (seen : List Debut) (debut : Debut) → has_key (keys_of seen) (key_of debut) ≡ false → number_of (keys_of seen) (key_of debut) ≡ length seen
not_found [] debut h = refl
not_found (first ∷ seen) debut h = go (same_key (key_of debut) (key_of first)) h (not_found seen debut)
  where
    go : (b : Bool) → (b || has_key (keys_of seen) (key_of debut)) ≡ false → (has_key (keys_of seen) (key_of debut) ≡ false → number_of (keys_of seen) (key_of debut) ≡ length seen) →
        cond (not b) (1 + number_of (keys_of seen) (key_of debut)) 0 ≡ suc (length seen)
    go true h rest = cc
    go false h rest = omega (arith, rest h)

-- node n is there, and of this stage
pub record IsNumber (all : List Debut) (stage n : ℕ) : Type 0 where
  pub within : n < length all
  pub stage_is : (get_or all n no_debut).stage ≡ stage

pub new_at : (seen all : List Debut) (debut : Debut) (n : ℕ) → Extends (seen ++ debut ∷ []) all → n ≡ length seen → get_or all n no_debut ≡ debut
new_at seen all debut n e is =
    ap (λ (k : ℕ). get_or all k no_debut) is
    ∙ kept (seen ++ debut ∷ []) all (length seen) e (omega (arith, length_push seen debut))
    ∙ get_or-append_seam seen debut [] no_debut

numbered : (seen all : List Debut) (debut : Debut) → Extends (with_debut seen debut) all → IsNumber all debut.stage (number_of (keys_of seen) (key_of debut))
numbered seen all debut e = go (has_key (keys_of seen) (key_of debut)) refl e
  where
    go : (b : Bool) → has_key (keys_of seen) (key_of debut) ≡ b → Extends (if b then seen else seen ++ debut ∷ []) all → IsNumber all debut.stage (number_of (keys_of seen) (key_of debut))
    go true is e =
        let found = found_at seen debut is in
        record {
          within = omega (arith, found.0, longer seen all e);
          stage_is = ap (λ (d : Debut). d.stage) (kept seen all (number_of (keys_of seen) (key_of debut)) e found.0) ∙ found.1;
        }
    go false is e =
        let last = not_found seen debut is in
        record {
          within = omega (arith, last, longer (seen ++ debut ∷ []) all e, length_push seen debut);
          stage_is = ap (λ (d : Debut). d.stage) (new_at seen all debut (number_of (keys_of seen) (key_of debut)) e last);
        }

-- ---- paths

-- from stage k on, a node of each stage
abbrev pub Stands : List Debut → ℕ → List ℕ → Type 0
Stands all k [] = Unit {0}
Stands all k (n ∷ path) = IsNumber all k n × Stands all (suc k) path

pub stands_at : (all : List Debut) (k : ℕ) (path : List ℕ) (i : ℕ) → Stands all k path → i < length path → IsNumber all (k + i) (get_or path i 0)
stands_at all k [] i stands below = absurd (omega (arith, below))
stands_at all k (n ∷ path) zero stands below = subst (λ (s : ℕ). IsNumber all s n) (let e : k ≡ k + 0 = omega arith in e) stands.0
stands_at all k (n ∷ path) (suc i) stands below =
    subst (λ (s : ℕ). IsNumber all s (get_or path i 0)) (let e : suc k + i ≡ k + suc i = omega arith in e) (stands_at all (suc k) path i stands.1 (omega (arith, below)))

abbrev pub the_debut : ℕ → ℕ → ℕ → Debut
the_debut scenario stage key = record { scenario = scenario; stage = stage; key = key }

row_stands : (seen all : List Debut) (s k : ℕ) (row : List ℕ) → Extends (debuts_from seen (row_debuts s k row)) all → Stands all k (numbers_from seen (row_debuts s k row))
row_stands seen all s k [] e = tt
row_stands seen all s k (key ∷ keys) e =
    let next = with_debut seen (the_debut s k key) in (
      numbered seen all (the_debut s k key) (through next (debuts_from next (row_debuts s (suc k) keys)) all (extends_all next (row_debuts s (suc k) keys)) e),
      row_stands next all s (suc k) keys e,
    )

pub split : (seen all : List Debut) (s : ℕ) (row : List ℕ) (rows : List (List ℕ)) → Extends (debuts_from seen (all_debuts s (row ∷ rows))) all →
    Extends (debuts_from (debuts_from seen (row_debuts s 0 row)) (all_debuts (suc s) rows)) all
split seen all s row rows e = subst (λ (xs : List Debut). Extends xs all) (debuts_append seen (row_debuts s 0 row) (all_debuts (suc s) rows)) e

paths_stand : (seen all : List Debut) (s : ℕ) (rows : List (List ℕ)) → Extends (debuts_from seen (all_debuts s rows)) all → Each (Stands all 0) (paths_from seen s rows)
paths_stand seen all s [] e = tt
paths_stand seen all s (row ∷ rows) e =
    let next = debuts_from seen (row_debuts s 0 row) in
    let rest = split seen all s row rows e in (
      row_stands seen all s 0 row (through next (debuts_from next (all_debuts (suc s) rows)) all (extends_all next (all_debuts (suc s) rows)) rest),
      paths_stand next all (suc s) rows rest,
    )

numbers_length : (seen : List Debut) (s k : ℕ) (row : List ℕ) → length (numbers_from seen (row_debuts s k row)) ≡ length row
numbers_length seen s k [] = refl
numbers_length seen s k (key ∷ keys) = ap suc (numbers_length (with_debut seen (the_debut s k key)) s (suc k) keys)

pub paths_length : (seen : List Debut) (s : ℕ) (rows : List (List ℕ)) → length (paths_from seen s rows) ≡ length rows
paths_length seen s [] = refl
paths_length seen s (row ∷ rows) = ap suc (paths_length (debuts_from seen (row_debuts s 0 row)) (suc s) rows)

pub paths_long : (seen : List Debut) (s count : ℕ) (rows : List (List ℕ)) → Each (λ (row : List ℕ). length row ≡ count) rows → Each (λ (path : List ℕ). length path ≡ count) (paths_from seen s rows)
paths_long seen s count [] all = tt
paths_long seen s count (row ∷ rows) all = (numbers_length seen s 0 row ∙ all.0, paths_long (debuts_from seen (row_debuts s 0 row)) (suc s) count rows all.1)

-- ---- where a node first appears

pub record Appears (path : List ℕ) (k : ℕ) (debut : Debut) (n : ℕ) : Type 0 where
  pub place : ℕ
  pub stage : debut.stage ≡ k + place
  pub within : place < length path
  pub number : get_or path place 0 ≡ n
  -- the nodes before it on the path have smaller numbers
  pub earlier : (i : ℕ) → i < place → get_or path i 0 < n

pub record IsOn (paths : List (List ℕ)) (s : ℕ) (debut : Debut) (n : ℕ) : Type 0 where
  pub place : ℕ
  pub scenario : debut.scenario ≡ s + place
  pub within : place < length paths
  pub appears : Appears (get_or paths place []) 0 debut n
  -- so have the nodes of all paths before it
  pub sooner : (i j : ℕ) → i < place → j < length (get_or paths i []) → get_or (get_or paths i []) j 0 < n

abbrev pub after : List Debut → ℕ → ℕ → ℕ → List Debut
after seen s k key = with_debut seen (the_debut s k key)

abbrev IsNew : List Debut → List ℕ → ℕ → ℕ → ℕ → Type 0
IsNew all path s k n = ((get_or all n no_debut).scenario ≡ s) × Appears path k (get_or all n no_debut) n

row_new : (seen all : List Debut) (s k : ℕ) (row : List ℕ) (n : ℕ) → Extends (debuts_from seen (row_debuts s k row)) all → length seen ≤ n → n < length (debuts_from seen (row_debuts s k row)) →
    IsNew all (numbers_from seen (row_debuts s k row)) s k n
row_new seen all s k [] n e low high = absurd (omega (arith, low, high))
row_new seen all s k (key ∷ keys) n e low high = choose (nat_lt n (length (after seen s k key))) refl (λ past. row_new (after seen s k key) all s (suc k) keys n e past high)
  where
    here : (b : Bool) → has_key (keys_of seen) (key_of (the_debut s k key)) ≡ b → Extends (if b then seen else seen ++ the_debut s k key ∷ []) all →
        n < length (if b then seen else seen ++ the_debut s k key ∷ []) → IsNew all (numbers_from seen (row_debuts s k (key ∷ keys))) s k n
    here true is ext small = absurd (omega (arith, low, small))
    here false is ext small =
        let last : n ≡ length seen = omega (arith, low, small, length_push seen (the_debut s k key)) in
        let read = new_at seen all (the_debut s k key) n ext last in (
          ap (λ (d : Debut). d.scenario) read,
          record {
            place = 0;
            stage = ap (λ (d : Debut). d.stage) read ∙ (let z : k ≡ k + 0 = omega arith in z);
            within = omega arith;
            number = not_found seen (the_debut s k key) is ∙ sym last;
            earlier = λ i below. absurd (omega (arith, below));
          },
        )

    before : (place : ℕ) → length (after seen s k key) ≤ n → ((i : ℕ) → i < place → get_or (numbers_from (after seen s k key) (row_debuts s (suc k) keys)) i 0 < n) →
        (i : ℕ) → i < suc place → get_or (numbers_from seen (row_debuts s k (key ∷ keys))) i 0 < n
    before place past rest zero below = let first = numbered seen (after seen s k key) (the_debut s k key) (itself (after seen s k key)) in omega (arith, first.within, past)
    before place past rest (suc i) below = rest i (omega (arith, below))

    later : length (after seen s k key) ≤ n → IsNew all (numbers_from (after seen s k key) (row_debuts s (suc k) keys)) s (suc k) n → IsNew all (numbers_from seen (row_debuts s k (key ∷ keys))) s k n
    later past h = (
      h.0,
      record {
        place = suc h.1.place;
        stage = h.1.stage ∙ (let z : suc k + h.1.place ≡ k + suc h.1.place = omega arith in z);
        within = omega (arith, h.1.within);
        number = h.1.number;
        earlier = before h.1.place past h.1.earlier;
      },
    )

    choose : (b : Bool) → nat_lt n (length (after seen s k key)) ≡ b →
        (length (after seen s k key) ≤ n → IsNew all (numbers_from (after seen s k key) (row_debuts s (suc k) keys)) s (suc k) n) → IsNew all (numbers_from seen (row_debuts s k (key ∷ keys))) s k n
    choose true is more =
        here (has_key (keys_of seen) (key_of (the_debut s k key))) refl
        (through (after seen s k key) (debuts_from (after seen s k key) (row_debuts s (suc k) keys)) all (extends_all (after seen s k key) (row_debuts s (suc k) keys)) e)
        (grind (arith, nat_tests, is))
    choose false is more = let past : length (after seen s k key) ≤ n = grind (arith, nat_tests, is) in later past (more past)

all_new : (seen all : List Debut) (s : ℕ) (rows : List (List ℕ)) (n : ℕ) → Extends (debuts_from seen (all_debuts s rows)) all → length seen ≤ n → n < length (debuts_from seen (all_debuts s rows)) →
    IsOn (paths_from seen s rows) s (get_or all n no_debut) n
all_new seen all s [] n e low high = absurd (omega (arith, low, high))
all_new seen all s (row ∷ rows) n e low high =
    choose (nat_lt n (length (debuts_from seen (row_debuts s 0 row)))) refl
    (λ past. all_new (debuts_from seen (row_debuts s 0 row)) all (suc s) rows n (split seen all s row rows e) past
    (subst (λ (xs : List Debut). n < length xs) (debuts_append seen (row_debuts s 0 row) (all_debuts (suc s) rows)) high))
  where
    before : length (debuts_from seen (row_debuts s 0 row)) ≤ n → (place : ℕ) →
        ((i j : ℕ) → i < place → j < length (get_or (paths_from (debuts_from seen (row_debuts s 0 row)) (suc s) rows) i []) → get_or (get_or (paths_from (debuts_from seen (row_debuts s 0 row)) (suc s) rows) i []) j 0 < n) →
        (i j : ℕ) → i < suc place → j < length (get_or (paths_from seen s (row ∷ rows)) i []) → get_or (get_or (paths_from seen s (row ∷ rows)) i []) j 0 < n
    before past place rest zero j low inside =
        let number = stands_at (debuts_from seen (row_debuts s 0 row)) 0 (numbers_from seen (row_debuts s 0 row)) j (row_stands seen (debuts_from seen (row_debuts s 0 row)) s 0 row (itself (debuts_from seen (row_debuts s 0 row)))) inside in
        omega (arith, number.within, past)
    before past place rest (suc i) j low inside = rest i j (omega (arith, low)) inside

    choose : (b : Bool) → nat_lt n (length (debuts_from seen (row_debuts s 0 row))) ≡ b →
        (length (debuts_from seen (row_debuts s 0 row)) ≤ n → IsOn (paths_from (debuts_from seen (row_debuts s 0 row)) (suc s) rows) (suc s) (get_or all n no_debut) n) →
        IsOn (paths_from seen s (row ∷ rows)) s (get_or all n no_debut) n
    choose true is more =
        let rest = split seen all s row rows e in
        let mid = debuts_from seen (row_debuts s 0 row) in
        let h = row_new seen all s 0 row n (through mid (debuts_from mid (all_debuts (suc s) rows)) all (extends_all mid (all_debuts (suc s) rows)) rest) low (grind (arith, nat_tests, is)) in
        record { place = 0; scenario = h.0 ∙ (let z : s ≡ s + 0 = omega arith in z); within = omega arith; appears = h.1; sooner = λ i j low inside. absurd (omega (arith, low)) }
    choose false is more =
        let past : length (debuts_from seen (row_debuts s 0 row)) ≤ n = grind (arith, nat_tests, is) in
        let h = more past in
        record {
          place = suc h.place;
          scenario = h.scenario ∙ (let z : suc s + h.place ≡ s + suc h.place = omega arith in z);
          within = omega (arith, h.within);
          appears = h.appears;
          sooner = before past h.place h.sooner;
        }

-- each path goes through a node of each stage, and each node first appears on a path
pub record Outlines (debuts : List Debut) (paths : List (List ℕ)) : Type 0 where
  pub stands : Each (Stands debuts 0) paths
  pub starts : (n : ℕ) → n < length debuts → IsOn paths 0 (get_or debuts n no_debut) n

pub outlines : (rows : List (List ℕ)) → Outlines (debuts_of rows) (paths_of rows)
outlines rows = record {
  stands = paths_stand [] (debuts_of rows) 0 rows (itself (debuts_of rows));
  starts = λ n below. all_new [] (debuts_of rows) 0 rows n (itself (debuts_of rows)) (omega arith) below;
}
