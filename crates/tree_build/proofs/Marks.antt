-- Nodes by their keys: a path's node has the key of its row, and no two nodes have one key.
use Rattle.std.proofs.Common.{◌≡◌, ◌∙◌, ap, sym, refl, ℕ, zero, suc, ◌+◌, ◌<◌, ◌≤◌, Bool, true, false, ◌&&◌, ◌||◌, not, cond, List, [], ◌∷◌, ◌++◌, length, get_or, nat_eq, nat_lt, arith, if◌then◌else◌}
use Rattle.std.proofs.Math.Seq.{get_or-append_seam}
use Rattle.std.proofs.lemmas.List.{get_or_append_left, length_push}
use Rattle.std.proofs.lemmas.Bool.Decides.{nat_tests}
use Rattle.tree_build.specs.declared.numbering.Debut.{Debut}
use Rattle.tree_build.specs.Numbering.{Key, same_key, has_key, number_of, key_of, keys_of, with_debut, debuts_from, numbers_from, row_debuts, all_debuts, paths_from}
use Rattle.tree_build.specs.Finish.{no_debut}
use Rattle.tree_build.specs.Walks.{debuts_of, paths_of}
use Rattle.tree_build.proofs.Numbers.{Extends, itself, through, extends_all, kept, found_at, not_found, new_at, split, the_debut, after}

-- ---- keys

both : (a b : Bool) → (a && b) ≡ true → (a ≡ true) × (b ≡ true)
both true b e = (refl, e)
both false b e = cc

same_number : (n m : ℕ) → nat_eq n m ≡ true → m ≡ n
same_number n m e = grind (arith, nat_tests, e)

alike : (n m : ℕ) → n ≡ m → nat_eq n m ≡ true
alike n m e = grind (arith, nat_tests, e)

-- the key of the node where a key is found
found_key : (seen : List Debut) (debut : Debut) → has_key (keys_of seen) (key_of debut) ≡ true → (get_or seen (number_of (keys_of seen) (key_of debut)) no_debut).key ≡ debut.key
found_key [] debut h = cc
found_key (first ∷ seen) debut h = go (same_key (key_of debut) (key_of first)) refl h (found_key seen debut)
  where
    later : (m : ℕ) → m ≡ suc (number_of (keys_of seen) (key_of debut)) → (get_or seen (number_of (keys_of seen) (key_of debut)) no_debut).key ≡ debut.key → (get_or (first ∷ seen) m no_debut).key ≡ debut.key
    later m e h = ap (λ (k : ℕ). (get_or (first ∷ seen) k no_debut).key) e ∙ h

    go : (b : Bool) → same_key (key_of debut) (key_of first) ≡ b → (b || has_key (keys_of seen) (key_of debut)) ≡ true →
        (has_key (keys_of seen) (key_of debut) ≡ true → (get_or seen (number_of (keys_of seen) (key_of debut)) no_debut).key ≡ debut.key) →
        (get_or (first ∷ seen) (cond (not b) (1 + number_of (keys_of seen) (key_of debut)) 0) no_debut).key ≡ debut.key
    go true is h rest = same_number debut.key first.key (both (nat_eq debut.stage first.stage) (nat_eq debut.key first.key) is).1
    go false is h rest = later (1 + number_of (keys_of seen) (key_of debut)) (omega arith) (rest h)

-- the key of a node on a path
keyed : (seen all : List Debut) (debut : Debut) → Extends (with_debut seen debut) all → (get_or all (number_of (keys_of seen) (key_of debut)) no_debut).key ≡ debut.key
keyed seen all debut e = go (has_key (keys_of seen) (key_of debut)) refl e
  where
    go : (b : Bool) → has_key (keys_of seen) (key_of debut) ≡ b → Extends (if b then seen else seen ++ debut ∷ []) all → (get_or all (number_of (keys_of seen) (key_of debut)) no_debut).key ≡ debut.key
    go true is e = ap (λ (d : Debut). d.key) (kept seen all (number_of (keys_of seen) (key_of debut)) e (found_at seen debut is).0) ∙ found_key seen debut is
    go false is e = ap (λ (d : Debut). d.key) (new_at seen all debut (number_of (keys_of seen) (key_of debut)) e (not_found seen debut is))

-- the nodes of a path have these keys
abbrev pub HaveKeys : List Debut → List ℕ → List ℕ → Type 0
HaveKeys all [] [] = Unit {0}
HaveKeys all [] (_ ∷ _) = ⊥
HaveKeys all (_ ∷ _) [] = ⊥
HaveKeys all (key ∷ row) (n ∷ path) = ((get_or all n no_debut).key ≡ key) × HaveKeys all row path

pub key_at : (all : List Debut) (row path : List ℕ) (i : ℕ) → HaveKeys all row path → i < length path → (get_or all (get_or path i 0) no_debut).key ≡ get_or row i 0
key_at all [] [] i have below = absurd (omega (arith, below))
key_at all [] (n ∷ path) i have below = absurd have
key_at all (key ∷ row) [] i have below = absurd have
key_at all (key ∷ row) (n ∷ path) zero have below = have.0
key_at all (key ∷ row) (n ∷ path) (suc i) have below = key_at all row path i have.1 (omega (arith, below))

row_keys : (seen all : List Debut) (s k : ℕ) (row : List ℕ) → Extends (debuts_from seen (row_debuts s k row)) all → HaveKeys all row (numbers_from seen (row_debuts s k row))
row_keys seen all s k [] e = tt
row_keys seen all s k (key ∷ keys) e =
    let next = after seen s k key in (
      keyed seen all (the_debut s k key) (through next (debuts_from next (row_debuts s (suc k) keys)) all (extends_all next (row_debuts s (suc k) keys)) e),
      row_keys next all s (suc k) keys e,
    )

-- path by path
abbrev pub AllHaveKeys : List Debut → List (List ℕ) → List (List ℕ) → Type 0
AllHaveKeys all [] [] = Unit {0}
AllHaveKeys all [] (_ ∷ _) = ⊥
AllHaveKeys all (_ ∷ _) [] = ⊥
AllHaveKeys all (row ∷ rows) (path ∷ paths) = HaveKeys all row path × AllHaveKeys all rows paths

pub keys_at : (all : List Debut) (rows paths : List (List ℕ)) (i : ℕ) → AllHaveKeys all rows paths → i < length paths → HaveKeys all (get_or rows i []) (get_or paths i [])
keys_at all [] [] i have below = absurd (omega (arith, below))
keys_at all [] (path ∷ paths) i have below = absurd have
keys_at all (row ∷ rows) [] i have below = absurd have
keys_at all (row ∷ rows) (path ∷ paths) zero have below = have.0
keys_at all (row ∷ rows) (path ∷ paths) (suc i) have below = keys_at all rows paths i have.1 (omega (arith, below))

all_keys : (seen all : List Debut) (s : ℕ) (rows : List (List ℕ)) → Extends (debuts_from seen (all_debuts s rows)) all → AllHaveKeys all rows (paths_from seen s rows)
all_keys seen all s [] e = tt
all_keys seen all s (row ∷ rows) e =
    let next = debuts_from seen (row_debuts s 0 row) in
    let rest = split seen all s row rows e in (
      row_keys seen all s 0 row (through next (debuts_from next (all_debuts (suc s) rows)) all (extends_all next (all_debuts (suc s) rows)) rest),
      all_keys next all (suc s) rows rest,
    )

pub paths_have_keys : (rows : List (List ℕ)) → AllHaveKeys (debuts_of rows) rows (paths_of rows)
paths_have_keys rows = all_keys [] (debuts_of rows) 0 rows (itself (debuts_of rows))

-- ---- no two nodes have one key

-- a key stands first at its own place
abbrev pub AreOwn : List Debut → Type 0
AreOwn seen = (n : ℕ) → n < length seen → number_of (keys_of seen) (key_of (get_or seen n no_debut)) ≡ n

same_itself : (k : Key) → same_key k k ≡ true
same_itself k = ap (λ b. b && nat_eq k.1 k.1) (alike k.0 k.0 refl) ∙ alike k.1 k.1 refl

-- what is found stays where it is
still : (seen : List Debut) (debut : Debut) (k : Key) → number_of (keys_of seen) k < length seen → number_of (keys_of (seen ++ debut ∷ [])) k ≡ number_of (keys_of seen) k
still [] debut k below = absurd (omega (arith, below))
still (first ∷ seen) debut k below = go (same_key k (key_of first)) below (still seen debut k)
  where
    go : (b : Bool) → cond (not b) (1 + number_of (keys_of seen) k) 0 < suc (length seen) → (number_of (keys_of seen) k < length seen → number_of (keys_of (seen ++ debut ∷ [])) k ≡ number_of (keys_of seen) k) →
        cond (not b) (1 + number_of (keys_of (seen ++ debut ∷ [])) k) 0 ≡ cond (not b) (1 + number_of (keys_of seen) k) 0
    go true low rest = refl
    go false low rest = ap (λ n. 1 + n) (rest (omega (arith, low)))

-- a new key stands last
last : (seen : List Debut) (debut : Debut) → has_key (keys_of seen) (key_of debut) ≡ false → number_of (keys_of (seen ++ debut ∷ [])) (key_of debut) ≡ length seen
last [] debut h = ap (λ (b : Bool). cond (not b) 1 0) (same_itself (key_of debut))
last (first ∷ seen) debut h = go (same_key (key_of debut) (key_of first)) h (last seen debut)
  where
    go : (b : Bool) → (b || has_key (keys_of seen) (key_of debut)) ≡ false → (has_key (keys_of seen) (key_of debut) ≡ false → number_of (keys_of (seen ++ debut ∷ [])) (key_of debut) ≡ length seen) →
        cond (not b) (1 + number_of (keys_of (seen ++ debut ∷ [])) (key_of debut)) 0 ≡ suc (length seen)
    go true h rest = cc
    go false h rest = omega (arith, rest h)

own_one : (seen : List Debut) (debut : Debut) → AreOwn seen → AreOwn (with_debut seen debut)
own_one seen debut own = go (has_key (keys_of seen) (key_of debut)) refl
  where
    old : (n : ℕ) → n < length seen → number_of (keys_of (seen ++ debut ∷ [])) (key_of (get_or (seen ++ debut ∷ []) n no_debut)) ≡ n
    old n low =
        let here : get_or (seen ++ debut ∷ []) n no_debut ≡ get_or seen n no_debut = get_or_append_left seen (debut ∷ []) no_debut n low in
        let mine = own n low in
        ap (λ (d : Debut). number_of (keys_of (seen ++ debut ∷ [])) (key_of d)) here ∙ still seen debut (key_of (get_or seen n no_debut)) (omega (arith, mine, low)) ∙ mine

    new : (n : ℕ) → n ≡ length seen → has_key (keys_of seen) (key_of debut) ≡ false → number_of (keys_of (seen ++ debut ∷ [])) (key_of (get_or (seen ++ debut ∷ []) n no_debut)) ≡ n
    new n at is =
        let here : get_or (seen ++ debut ∷ []) n no_debut ≡ debut = ap (λ (k : ℕ). get_or (seen ++ debut ∷ []) k no_debut) at ∙ get_or-append_seam seen debut [] no_debut in
        ap (λ (d : Debut). number_of (keys_of (seen ++ debut ∷ [])) (key_of d)) here ∙ last seen debut is ∙ sym at

    choose : (n : ℕ) (b : Bool) → nat_lt n (length seen) ≡ b → n < length (seen ++ debut ∷ []) → has_key (keys_of seen) (key_of debut) ≡ false → number_of (keys_of (seen ++ debut ∷ [])) (key_of (get_or (seen ++ debut ∷ []) n no_debut)) ≡ n
    choose n true t below is = old n (grind (arith, nat_tests, t))
    choose n false t below is = let high : length seen ≤ n = grind (arith, nat_tests, t) in new n (omega (arith, high, below, length_push seen debut)) is

    go : (b : Bool) → has_key (keys_of seen) (key_of debut) ≡ b → AreOwn (if b then seen else seen ++ debut ∷ [])
    go true is = own
    go false is = λ n below. choose n (nat_lt n (length seen)) refl below is

own_all : (seen debuts : List Debut) → AreOwn seen → AreOwn (debuts_from seen debuts)
own_all seen [] own = own
own_all seen (debut ∷ debuts) own = own_all (with_debut seen debut) debuts (own_one seen debut own)

pub debuts_own : (rows : List (List ℕ)) → AreOwn (debuts_of rows)
debuts_own rows = own_all [] (all_debuts 0 rows) (λ n below. absurd (omega (arith, below)))

-- two nodes of one stage and one key are the same
pub same_node : (debuts : List Debut) (n m : ℕ) → AreOwn debuts → n < length debuts → m < length debuts → (get_or debuts n no_debut).stage ≡ (get_or debuts m no_debut).stage → (get_or debuts n no_debut).key ≡ (get_or debuts m no_debut).key → n ≡ m
same_node debuts n m own low high stage key =
    sym (own n low)
    ∙ ap (λ (s : ℕ). number_of (keys_of debuts) (s, (get_or debuts n no_debut).key)) stage
    ∙ ap (λ (k : ℕ). number_of (keys_of debuts) ((get_or debuts m no_debut).stage, k)) key
    ∙ own m high
