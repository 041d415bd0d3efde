-- The scenarios that are built: their paths, and their probabilities, which are above 0.
use Rattle.std.proofs.Common.{◌≡◌, ◌∙◌, ap, sym, refl, subst, ℕ, zero, suc, ◌+◌, ◌<◌, ◌≤◌, Bool, true, false, List, [], ◌∷◌, ◌++◌, map, length, get_or, nat_eq, nat_lt, append_assoc, append-nil, arith, Ok, if◌then◌else◌}
use Rattle.std.proofs.lemmas.List.{length_push, length-map}
use Rattle.std.proofs.lemmas.Bool.Decides.{nat_tests}
use Rattle.rationals.specs.Rational.{ℚ, zero_ℚ, one_ℚ, ◌<ℚ◌, mul_pos_ℚ, zero_lt_one_ℚ}
use Rattle.rationals.specs.Choices.{pick}
use Rattle.time_defs.specs.Means.{Stages}
use Rattle.stoch_defs.specs.Random.{Block, Branch}
use Rattle.scen_defs.specs.Lists.{Each}
use Rattle.scen_defs.specs.Program.{Scenario}
use Rattle.build_defs.specs.Digits.{digits}
use Rattle.build_defs.specs.Scenarios.{no_branch, stages_from}
use Rattle.build_defs.specs.Built.{product_from}
use Rattle.build_defs.specs.Laws.{IsAbove}
use Rattle.build_defs.proofs.ChanceLemmas.{product as product_of, one_product, then_is, fine_is}
use Rattle.build_defs.proofs.EachLemmas.{each_append, each_flat}
use Rattle.tree_build.specs.declared.wheels.Wheel.{Wheel}
use Rattle.tree_build.specs.Wheels.{wheels_at, wheels_of, product, sizes_of, digits_of, IsWithin, key_to, key_row}
use Rattle.tree_build.specs.Choices.{no_block, no_case, chances_of}
use Rattle.tree_build.specs.Nodes.{digits_at}
use Rattle.tree_build.specs.Branches.{branch_key, branch_rows}
use Rattle.tree_build.specs.Finish.{block_paths, branch_paths}
use Rattle.tree_build.specs.Walks.{block_rows}
use Rattle.tree_build.proofs.WheelLemmas.{digits_within}
use Rattle.tree_build.specs.Law.{IsCase, IsBlock, IsBranch}
use Rattle.tree_build.proofs.Lists.{each_get, each_at}
use Rattle.tree_build.proofs.Paths.{IsPositive, path_of}

-- scenarios of these paths, with probabilities above 0
pub record HavePaths (scenarios : List Scenario) (paths : List (List ℕ)) : Type 0 where
  pub paths_are : map path_of scenarios ≡ paths
  pub positive : Each IsPositive scenarios

none : HavePaths [] []
none = record { paths_are = refl; positive = tt }

one_more : (built : List Scenario) (before : List (List ℕ)) (s : Scenario) → IsPositive s → HavePaths built before → HavePaths (built ++ s ∷ []) (before ++ s.path ∷ [])
one_more built before s above have = record {
  paths_are = pushed built ∙ ap (λ (xs : List (List ℕ)). xs ++ s.path ∷ []) have.paths_are;
  positive = each_append IsPositive built (s ∷ []) have.positive (above, tt);
}
  where
    pushed : (xs : List Scenario) → map path_of (xs ++ s ∷ []) ≡ map path_of xs ++ s.path ∷ []
    pushed [] = refl
    pushed (x ∷ xs) = ap (λ (rest : List (List ℕ)). x.path ∷ rest) (pushed xs)

product_above : (factors : List ℚ) (v : ℚ) → Each IsAbove factors → product_from one_ℚ factors ≡ Ok v → zero_ℚ <ℚ v
product_above factors v all e = subst (λ (x : ℚ). zero_ℚ <ℚ x) (sym (one_product factors v e)) (go factors all)
  where
    go : (xs : List ℚ) → Each IsAbove xs → zero_ℚ <ℚ product_of xs
    go [] all = zero_lt_one_ℚ
    go (x ∷ xs) all = mul_pos_ℚ all.0 (go xs all.1)

-- ---- blocks

-- a wheel is of a block that is there, and has so many cases as that
pub record IsWheel (blocks : List Block) (wheel : Wheel) : Type 0 where
  pub there : wheel.block < length blocks
  pub size : wheel.size ≡ length (get_or blocks wheel.block no_block).cases

wheels_are : (blocks rest : List Block) (stage i : ℕ) → i + length rest ≤ length blocks → ((k : ℕ) → get_or blocks (i + k) no_block ≡ get_or rest k no_block) → Each (IsWheel blocks) (wheels_at stage i rest)
wheels_are blocks [] stage i room same = tt
wheels_are blocks (block ∷ rest) stage i room same =
    go (nat_eq block.stage stage)
    (wheels_are blocks rest stage (suc i) (omega (arith, room)) (λ k. ap (λ (m : ℕ). get_or blocks m no_block) (let e : suc i + k ≡ i + suc k = omega arith in e) ∙ same (suc k)))
  where
    here : length block.cases ≡ length (get_or blocks i no_block).cases
    here = ap (λ (b : Block). length b.cases) (sym (same 0) ∙ ap (λ (m : ℕ). get_or blocks m no_block) (let e : i + 0 ≡ i = omega arith in e))

    go : (b : Bool) → Each (IsWheel blocks) (wheels_at stage (suc i) rest) →
        Each (IsWheel blocks) (pick b (record { block = i; stage = stage; size = length block.cases } ∷ wheels_at stage (suc i) rest) (wheels_at stage (suc i) rest))
    go true later = (record { there = omega (arith, room); size = here }, later)
    go false later = later

pub all_wheels : (count : ℕ) (blocks : List Block) → Each (IsWheel blocks) (wheels_of count blocks)
all_wheels count blocks =
    each_flat (IsWheel blocks) (λ stage. wheels_at stage 0 blocks) (stages_from 0 count)
    (λ stage. wheels_are blocks blocks stage 0 (omega arith) (λ k. ap (λ (m : ℕ). get_or blocks m no_block) (let e : 0 + k ≡ k = omega arith in e)))

abbrev pub HasCases : Stages → Block → Type 0
HasCases p block = Each (IsCase p) block.cases

pub has_cases : (p : Stages) (blocks : List Block) → Each (IsBlock p) blocks → Each (HasCases p) blocks
has_cases p [] all = tt
has_cases p (block ∷ blocks) all = (all.0.cases, has_cases p blocks all.1)

chances_above : (p : Stages) (blocks : List Block) (wheels : List Wheel) (ds : List ℕ) → Each (IsBlock p) blocks → Each (IsWheel blocks) wheels → IsWithin (sizes_of wheels) ds → Each IsAbove (chances_of blocks wheels ds)
chances_above p blocks [] ds cases fit within = tt
chances_above p blocks (w ∷ wheels) [] cases fit within = absurd within
chances_above p blocks (w ∷ wheels) (d ∷ ds) cases fit within =
    let own = each_get (HasCases p) blocks w.block no_block (has_cases p blocks cases) tt in (
      (each_at (IsCase p) (get_or blocks w.block no_block).cases d no_case own (omega (arith, within.0, fit.0.size))).positive,
      chances_above p blocks wheels ds cases fit.1 within.1,
    )

number_above : (p : Stages) (blocks : List Block) (wheels : List Wheel) (number : ℕ) → Each (IsBlock p) blocks → Each (IsWheel blocks) wheels → Each IsAbove (chances_of blocks wheels (digits_at (sizes_of wheels) number))
number_above p blocks wheels number cases fit = go (nat_lt number (product (sizes_of wheels))) refl
  where
    no_digits : (ws : List Wheel) → Each IsAbove (chances_of blocks ws [])
    no_digits [] = tt
    no_digits (w ∷ ws) = tt

    go : (b : Bool) → nat_lt number (product (sizes_of wheels)) ≡ b → Each IsAbove (chances_of blocks wheels (if b then digits_of (sizes_of wheels) number else []))
    go true is = chances_above p blocks wheels (digits_of (sizes_of wheels) number) cases fit (digits_within (sizes_of wheels) number (grind (arith, nat_tests, is)))
    go false is = no_digits wheels

block_have : (p : Stages) (blocks : List Block) (wheels : List Wheel) (built : List Scenario) (before paths : List (List ℕ)) (scenarios : List Scenario) → Each (IsBlock p) blocks → Each (IsWheel blocks) wheels →
    HavePaths built before → block_paths blocks wheels built paths ≡ Ok scenarios → HavePaths scenarios (before ++ paths)
block_have p blocks wheels built before [] scenarios cases fit have e =
    let same : before ≡ before ++ [] = sym (append-nil before) in
    subst (λ (xs : List (List ℕ)). HavePaths scenarios xs) same (subst (λ (xs : List Scenario). HavePaths xs before) (sym (fine_is built scenarios e)) have)
block_have p blocks wheels built before (path ∷ paths) scenarios cases fit have e =
    let here = then_is (product_from one_ℚ (chances_of blocks wheels (digits_at (sizes_of wheels) (length built)))) _ scenarios e in
    let s : Scenario = record { name = 83 ∷ digits (length built + 1); probability = here.0; path = path } in
    let above = product_above (chances_of blocks wheels (digits_at (sizes_of wheels) (length built))) here.0 (number_above p blocks wheels (length built) cases fit) here.1 in
    subst (λ (xs : List (List ℕ)). HavePaths scenarios xs) (append_assoc before (path ∷ []) paths)
    (block_have p blocks wheels (built ++ s ∷ []) (before ++ path ∷ []) paths scenarios cases fit (one_more built before s above have) here.2)

pub blocks_have : (p : Stages) (blocks : List Block) (count : ℕ) (paths : List (List ℕ)) (scenarios : List Scenario) → Each (IsBlock p) blocks →
    block_paths blocks (wheels_of count blocks) [] paths ≡ Ok scenarios → HavePaths scenarios paths
blocks_have p blocks count paths scenarios cases e = block_have p blocks (wheels_of count blocks) [] [] paths scenarios cases (all_wheels count blocks) none e

-- ---- scenarios that are stated

branch_have : (p : Stages) (branches : List Branch) (built : List Scenario) (before paths : List (List ℕ)) (scenarios : List Scenario) → Each (IsBranch p) branches → length built + length paths ≤ length branches →
    HavePaths built before → branch_paths branches built paths ≡ Ok scenarios → HavePaths scenarios (before ++ paths)
branch_have p branches built before [] scenarios all room have e =
    let same : before ≡ before ++ [] = sym (append-nil before) in
    subst (λ (xs : List (List ℕ)). HavePaths scenarios xs) same (subst (λ (xs : List Scenario). HavePaths xs before) (sym (fine_is built scenarios e)) have)
branch_have p branches built before (path ∷ paths) scenarios all room have e =
    let here = then_is (product_from one_ℚ ((get_or branches (length built) no_branch).probability ∷ [])) _ scenarios e in
    let s : Scenario = record { name = (get_or branches (length built) no_branch).name; probability = here.0; path = path } in
    let one = each_at (IsBranch p) branches (length built) no_branch all (omega (arith, room)) in
    let above = product_above ((get_or branches (length built) no_branch).probability ∷ []) here.0 (one.positive, tt) here.1 in
    subst (λ (xs : List (List ℕ)). HavePaths scenarios xs) (append_assoc before (path ∷ []) paths)
    (branch_have p branches (built ++ s ∷ []) (before ++ path ∷ []) paths scenarios all (omega (arith, room, length_push built s)) (one_more built before s above have) here.2)

pub branches_have : (p : Stages) (branches : List Branch) (paths : List (List ℕ)) (scenarios : List Scenario) → Each (IsBranch p) branches → length paths ≡ length branches →
    branch_paths branches [] paths ≡ Ok scenarios → HavePaths scenarios paths
branches_have p branches paths scenarios all same e = branch_have p branches [] [] paths scenarios all (omega (arith, same)) none e

-- the keys of each scenario are so many as there are stages
stages_length : (first count : ℕ) → length (stages_from first count) ≡ count
stages_length first zero = refl
stages_length first (suc count) = ap suc (stages_length (first + 1) count)

pub rows_length : (count : ℕ) (rows : List (List ℕ)) (branches : List Branch) → length (branch_rows count rows branches) ≡ length rows + length branches
rows_length count rows [] = omega arith
rows_length count rows (branch ∷ branches) =
    let row : List ℕ = map (branch_key rows branch (suc (length rows))) (stages_from 0 count) in
    let rest = rows_length count (rows ++ row ∷ []) branches in
    omega (arith, rest, length_push rows row)

pub rows_long : (count : ℕ) (rows : List (List ℕ)) (branches : List Branch) → Each (λ (row : List ℕ). length row ≡ count) rows → Each (λ (row : List ℕ). length row ≡ count) (branch_rows count rows branches)
rows_long count rows [] all = all
rows_long count rows (branch ∷ branches) all =
    let row : List ℕ = map (branch_key rows branch (suc (length rows))) (stages_from 0 count) in
    let long : length row ≡ count = length-map (stages_from 0 count) (branch_key rows branch (suc (length rows))) ∙ stages_length 0 count in
    rows_long count (rows ++ row ∷ []) branches (each_append (λ (r : List ℕ). length r ≡ count) rows (row ∷ []) all (long, tt))

pub block_rows_long : (count : ℕ) (wheels : List Wheel) → Each (λ (row : List ℕ). length row ≡ count) (block_rows count wheels)
block_rows_long count wheels = go (stages_from 0 (product (sizes_of wheels)))
  where
    go : (numbers : List ℕ) → Each (λ (row : List ℕ). length row ≡ count) (map (λ number. key_row wheels count (digits_of (sizes_of wheels) number)) numbers)
    go [] = tt
    go (number ∷ numbers) = (length-map (stages_from 0 count) (λ stage. key_to stage wheels (digits_of (sizes_of wheels) number) 0) ∙ stages_length 0 count, go numbers)

pub block_rows_length : (count : ℕ) (wheels : List Wheel) → length (block_rows count wheels) ≡ product (sizes_of wheels)
block_rows_length count wheels = length-map (stages_from 0 (product (sizes_of wheels))) (λ number. key_row wheels count (digits_of (sizes_of wheels) number)) ∙ stages_length 0 (product (sizes_of wheels))
