-- Stated scenarios: the key at a stage tells the owner.
use Rattle.std.proofs.Common.{◌≡◌, ◌∙◌, ap, sym, refl, ℕ, zero, suc, ◌+◌, ◌<◌, ◌≤◌, Bool, true, false, List, [], ◌∷◌, ◌++◌, map, length, get_or, nat_lt, Option, Some, None, arith, if◌then◌else◌}
use Rattle.std.proofs.Math.Seq.{get_or-append_seam}
use Rattle.std.proofs.lemmas.List.{get_or_append_left, length_push}
use Rattle.std.proofs.lemmas.Bool.Decides.{nat_tests}
use Rattle.stoch_defs.specs.Random.{Branch}
use Rattle.build_defs.specs.Laws.{IsBelow, AreAncestral}
use Rattle.build_defs.specs.Scenarios.{no_branch, owner, stages_from}
use Rattle.tree_build.specs.Branches.{key_above, branch_key, branch_rows}
use Rattle.build_laws.proofs.Above.{lower}
use Rattle.build_laws.proofs.Tables.{by_stage}

-- ---- owners

abbrev pub key_of_owner : List ℕ → ℕ
key_of_owner [] = 0
key_of_owner (n ∷ rest) = suc n

abbrev pub owner_of_key : ℕ → List ℕ
owner_of_key zero = []
owner_of_key (suc n) = n ∷ []

-- a key tells its owner
pub owner_is : (branches : List Branch) (stage left : ℕ) (number : Option ℕ) → owner branches stage left number ≡ owner_of_key (key_of_owner (owner branches stage left number))
owner_is branches stage zero number = refl
owner_is branches stage (suc left) None = refl
owner_is branches stage (suc left) (Some k) = go (nat_lt stage (get_or branches k no_branch).stage) (owner_is branches stage left (get_or branches k no_branch).parent)
  where
    go : (b : Bool) → owner branches stage left (get_or branches k no_branch).parent ≡ owner_of_key (key_of_owner (owner branches stage left (get_or branches k no_branch).parent)) →
        (if b then owner branches stage left (get_or branches k no_branch).parent else k ∷ []) ≡ owner_of_key (key_of_owner (if b then owner branches stage left (get_or branches k no_branch).parent else k ∷ []))
    go true later = later
    go false later = refl

none_owner : (branches : List Branch) (stage left : ℕ) → owner branches stage left None ≡ []
none_owner branches stage zero = refl
none_owner branches stage (suc left) = refl

-- enough is enough
pub enough : (branches : List Branch) (stage left more : ℕ) (n : Option ℕ) → AreAncestral branches → IsBelow left n → IsBelow more n → owner branches stage left n ≡ owner branches stage more n
enough branches stage left more None up a b = none_owner branches stage left ∙ sym (none_owner branches stage more)
enough branches stage zero more (Some k) up a b = absurd (omega (arith, a))
enough branches stage (suc left) zero (Some k) up a b = absurd (omega (arith, b))
enough branches stage (suc left) (suc more) (Some k) up a b =
    ap (λ (above : List ℕ). if nat_lt stage (get_or branches k no_branch).stage then above else k ∷ [])
    (enough branches stage left more (get_or branches k no_branch).parent up (lower k left (get_or branches k no_branch).parent (up k) a) (lower k more (get_or branches k no_branch).parent (up k) b))

-- ---- keys

-- the rows so far have the keys of the owners
abbrev AreKeys : List Branch → ℕ → List (List ℕ) → Type 0
AreKeys all count rows = (k s : ℕ) → k < length rows → s < count → get_or (get_or rows k []) s 0 ≡ key_of_owner (owner all s (suc k) (Some k))

above_is : (all : List Branch) (count : ℕ) (rows : List (List ℕ)) (s : ℕ) (parent : Option ℕ) → AreAncestral all → AreKeys all count rows → s < count → IsBelow (length rows) parent → key_above rows parent s ≡ key_of_owner (owner all s (length rows) parent)
above_is all count rows s None up keys low below = sym (ap key_of_owner (none_owner all s (length rows)))
above_is all count rows s (Some m) up keys low below = keys m s below low ∙ ap key_of_owner (enough all s (suc m) (length rows) (Some m) up (omega arith) below)

new_is : (all : List Branch) (count : ℕ) (rows : List (List ℕ)) (s : ℕ) → AreAncestral all → AreKeys all count rows → s < count →
    branch_key rows (get_or all (length rows) no_branch) (suc (length rows)) s ≡ key_of_owner (owner all s (suc (length rows)) (Some (length rows)))
new_is all count rows s up keys low =
    go (nat_lt s (get_or all (length rows) no_branch).stage) (above_is all count rows s (get_or all (length rows) no_branch).parent up keys low (up (length rows)))
  where
    go : (b : Bool) → key_above rows (get_or all (length rows) no_branch).parent s ≡ key_of_owner (owner all s (length rows) (get_or all (length rows) no_branch).parent) →
        (if b then key_above rows (get_or all (length rows) no_branch).parent s else suc (length rows)) ≡ key_of_owner (if b then owner all s (length rows) (get_or all (length rows) no_branch).parent else length rows ∷ [])
    go true above = above
    go false above = refl

abbrev new_row : ℕ → List (List ℕ) → Branch → List ℕ
new_row count rows branch = map (branch_key rows branch (suc (length rows))) (stages_from 0 count)

one_more : (all : List Branch) (count : ℕ) (rows : List (List ℕ)) (branch : Branch) → AreAncestral all → branch ≡ get_or all (length rows) no_branch → AreKeys all count rows → AreKeys all count (rows ++ new_row count rows branch ∷ [])
one_more all count rows branch up read keys k s below low = go (nat_lt k (length rows)) refl
  where
    go : (b : Bool) → nat_lt k (length rows) ≡ b → get_or (get_or (rows ++ new_row count rows branch ∷ []) k []) s 0 ≡ key_of_owner (owner all s (suc k) (Some k))
    go true is =
        let old : k < length rows = grind (arith, nat_tests, is) in
        ap (λ (r : List ℕ). get_or r s 0) (get_or_append_left rows (new_row count rows branch ∷ []) [] k old) ∙ keys k s old low
    go false is =
        let past : length rows ≤ k = grind (arith, nat_tests, is) in
        let last : k ≡ length rows = omega (arith, past, below, length_push rows (new_row count rows branch)) in
        ap (λ (n : ℕ). get_or (get_or (rows ++ new_row count rows branch ∷ []) n []) s 0) last
        ∙ ap (λ (r : List ℕ). get_or r s 0) (get_or-append_seam rows (new_row count rows branch) [] [])
        ∙ by_stage (branch_key rows branch (suc (length rows))) count s 0 low
        ∙ ap (λ (b : Branch). branch_key rows b (suc (length rows)) s) read
        ∙ new_is all count rows s up keys low
        ∙ sym (ap (λ (n : ℕ). key_of_owner (owner all s (suc n) (Some n))) last)

all_more : (all : List Branch) (count : ℕ) (rows : List (List ℕ)) (rest : List Branch) → AreAncestral all → ((i : ℕ) → i < length rest → get_or rest i no_branch ≡ get_or all (length rows + i) no_branch) → AreKeys all count rows →
    AreKeys all count (branch_rows count rows rest)
all_more all count rows [] up read keys = keys
all_more all count rows (branch ∷ rest) up read keys =
    let first : branch ≡ get_or all (length rows) no_branch = read 0 (omega arith) ∙ ap (λ (n : ℕ). get_or all n no_branch) (let e : length rows + 0 ≡ length rows = omega arith in e) in
    all_more all count (rows ++ new_row count rows branch ∷ []) rest up
    (λ i below. read (suc i) (omega (arith, below)) ∙ ap (λ (n : ℕ). get_or all n no_branch) (let e : length rows + suc i ≡ length (rows ++ new_row count rows branch ∷ []) + i = omega (arith, length_push rows (new_row count rows branch)) in e))
    (one_more all count rows branch up first keys)

-- the key of each stated scenario at each stage is that of its owner
pub keys_are : (branches : List Branch) (count k s : ℕ) → AreAncestral branches → k < length (branch_rows count [] branches) → k < length branches → s < count →
    get_or (get_or (branch_rows count [] branches) k []) s 0 ≡ key_of_owner (owner branches s (length branches) (Some k))
keys_are branches count k s up inside below low =
    all_more branches count [] branches up (λ i low. ap (λ (n : ℕ). get_or branches n no_branch) (let e : i ≡ 0 + i = omega arith in e)) (λ k s low. absurd (omega (arith, low))) k s inside low
    ∙ ap key_of_owner (enough branches s (suc k) (length branches) (Some k) up (omega arith) below)
