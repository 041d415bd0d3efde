-- A key at a stage tells the values at that stage.
use Rattle.std.proofs.Common.{◌≡◌, ◌∙◌, ap, sym, refl, subst, ℕ, zero, suc, ◌+◌, ◌<◌, Bool, true, false, List, [], ◌∷◌, ◌++◌, Option, Some, None, map, length, get_or, nat_lt, arith, if◌then◌else◌}
use Rattle.std.proofs.Math.Seq.{get_or-append_seam}
use Rattle.std.proofs.lemmas.List.{get_or_append_left, length_push}
use Rattle.core_defs.specs.declared.program.Core.{Core}
use Rattle.time_defs.specs.Means.{Stages}
use Rattle.stoch_defs.specs.Random.{Branch}
use Rattle.build_defs.specs.Laws.{IsBelow, AreAncestral}
use Rattle.build_defs.specs.Scenarios.{no_branch, stages_from}
use Rattle.tree_build.specs.Values.{Values, with_sets}
use Rattle.tree_build.specs.Branches.{key_above, branch_key, branch_rows}
use Rattle.build_laws.proofs.Tables.{by_stage}
use Rattle.build_laws.proofs.Above.{lower, values_above, above_is}

-- ---- keys

-- rows that are there stay
rows_kept : (count : ℕ) (rows : List (List ℕ)) (branches : List Branch) (k : ℕ) → k < length rows → get_or (branch_rows count rows branches) k [] ≡ get_or rows k []
rows_kept count rows [] k below = refl
rows_kept count rows (branch ∷ branches) k below =
    let row : List ℕ = map (branch_key rows branch (suc (length rows))) (stages_from 0 count) in
    rows_kept count (rows ++ row ∷ []) branches k (omega (arith, below, length_push rows row)) ∙ get_or_append_left rows (row ∷ []) [] k below

above_kept : (rows all : List (List ℕ)) (n : Option ℕ) (stage : ℕ) → IsBelow (length rows) n → ((k : ℕ) → k < length rows → get_or all k [] ≡ get_or rows k []) → key_above rows n stage ≡ key_above all n stage
above_kept rows all None stage known kept = refl
above_kept rows all (Some m) stage known kept = ap (λ (row : List ℕ). get_or row stage 0) (sym (kept m known))

key_kept : (rows all : List (List ℕ)) (branch : Branch) (own stage : ℕ) → IsBelow (length rows) branch.parent → ((k : ℕ) → k < length rows → get_or all k [] ≡ get_or rows k []) →
    branch_key rows branch own stage ≡ branch_key all branch own stage
key_kept rows all branch own stage known kept = ap (λ (n : ℕ). if nat_lt stage branch.stage then n else own) (above_kept rows all branch.parent stage known kept)

-- the key of each scenario behind those that are there, by the rows of all
keys_by : (count : ℕ) (rows : List (List ℕ)) (branches : List Branch) (i k stage : ℕ) → k ≡ length rows + i → i < length branches → stage < count →
    ((j : ℕ) → IsBelow (length rows + j) (get_or branches j no_branch).parent) →
    get_or (get_or (branch_rows count rows branches) k []) stage 0 ≡ branch_key (branch_rows count rows branches) (get_or branches i no_branch) (suc k) stage
keys_by count rows [] i k stage at below low known = absurd (omega (arith, below))
keys_by count rows (branch ∷ branches) zero k stage at below low known =
    let row : List ℕ = map (branch_key rows branch (suc (length rows))) (stages_from 0 count) in
    let same : k ≡ length rows = omega (arith, at) in
    let here : IsBelow (length rows) branch.parent = subst (λ (m : ℕ). IsBelow m branch.parent) (let e : length rows + 0 ≡ length rows = omega arith in e) (known 0) in
    let all = branch_rows count rows (branch ∷ branches) in
    ap (λ (m : ℕ). get_or (get_or all m []) stage 0) same
    ∙ ap (λ (r : List ℕ). get_or r stage 0) (rows_kept count (rows ++ row ∷ []) branches (length rows) (omega (arith, length_push rows row)) ∙ get_or-append_seam rows row [] [])
    ∙ by_stage (branch_key rows branch (suc (length rows))) count stage 0 low
    ∙ key_kept rows all branch (suc (length rows)) stage here (λ m inside. rows_kept count rows (branch ∷ branches) m inside)
    ∙ ap (λ (m : ℕ). branch_key all branch (suc m) stage) (sym same)
keys_by count rows (branch ∷ branches) (suc i) k stage at below low known =
    let row : List ℕ = map (branch_key rows branch (suc (length rows))) (stages_from 0 count) in
    let long = length_push rows row in
    keys_by count (rows ++ row ∷ []) branches i k stage (omega (arith, at, long)) (omega (arith, below)) low
    (λ j. subst (λ (m : ℕ). IsBelow m (get_or branches j no_branch).parent) (next j long) (known (suc j)))
  where
    next : (j : ℕ) → {n : ℕ} → n ≡ length rows + 1 → length rows + suc j ≡ n + j
    next j long = omega (arith, long)

pub key_is : (count : ℕ) (branches : List Branch) (k stage : ℕ) → AreAncestral branches → k < length branches → stage < count →
    get_or (get_or (branch_rows count [] branches) k []) stage 0 ≡ branch_key (branch_rows count [] branches) (get_or branches k no_branch) (suc k) stage
key_is count branches k stage up below low =
    keys_by count [] branches k k stage (omega arith) below low (λ j. subst (λ (m : ℕ). IsBelow m (get_or branches j no_branch).parent) (let e : j ≡ 0 + j = omega arith in e) (up j))

-- ---- values

-- the values at a stage that a key tells: the core's, or those of the scenario whose own key it is
abbrev pub values_by : Core → Stages → List Branch → ℕ → ℕ → Values
values_by core p branches zero stage = values_above core p branches None stage
values_by core p branches (suc k) stage = values_above core p branches (Some k) stage

-- so many are gone up
pub told : (core : Core) (p : Stages) (branches : List Branch) (stage left : ℕ) (n : Option ℕ) → AreAncestral branches → stage < length p.names → IsBelow left n → IsBelow (length branches) n →
    values_above core p branches n stage ≡ values_by core p branches (key_above (branch_rows (length p.names) [] branches) n stage) stage
told core p branches stage left None up low a b = refl
told core p branches stage zero (Some k) up low a b = absurd (omega (arith, a))
told core p branches stage (suc left) (Some k) up low a b =
    let parent = (get_or branches k no_branch).parent in
    go (nat_lt stage (get_or branches k no_branch).stage) refl
    (told core p branches stage left parent up low (lower k left parent (up k) a) (lower k (length branches) parent (up k) (omega (arith, b))))
  where
    key : (t : Bool) → nat_lt stage (get_or branches k no_branch).stage ≡ t →
        (if t then key_above (branch_rows (length p.names) [] branches) (get_or branches k no_branch).parent stage else suc k) ≡ key_above (branch_rows (length p.names) [] branches) (Some k) stage
    key t is =
        sym (key_is (length p.names) branches k stage up b low
        ∙ ap (λ (t : Bool). if t then key_above (branch_rows (length p.names) [] branches) (get_or branches k no_branch).parent stage else suc k) is)

    go : (t : Bool) → nat_lt stage (get_or branches k no_branch).stage ≡ t →
        values_above core p branches (get_or branches k no_branch).parent stage ≡ values_by core p branches (key_above (branch_rows (length p.names) [] branches) (get_or branches k no_branch).parent stage) stage →
        values_above core p branches (Some k) stage ≡ values_by core p branches (key_above (branch_rows (length p.names) [] branches) (Some k) stage) stage
    go true is above =
        let parent = (get_or branches k no_branch).parent in
        above_is core p branches k stage up b
        ∙ ap (λ (t : Bool). if t then values_above core p branches parent stage else with_sets core p stage (values_above core p branches parent stage) (get_or branches k no_branch).sets) is
        ∙ above
        ∙ ap (λ (n : ℕ). values_by core p branches n stage) (key true is)
    go false is above = ap (λ (n : ℕ). values_by core p branches n stage) (key false is)
