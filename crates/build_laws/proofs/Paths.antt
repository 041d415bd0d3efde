-- The scenarios with their names, their probabilities and their paths.
use Rattle.std.proofs.Common.{◌≡◌, ◌∙◌, ap, sym, refl, subst, ℕ, suc, ◌+◌, ◌<◌, true, List, [], ◌∷◌, ◌++◌, map, length, get_or, nat_lt, arith, if◌then◌else◌}
use Rattle.std.proofs.lemmas.List.{length_push}
use Rattle.std.proofs.lemmas.Bool.Decides.{nat_tests}
use Rattle.rationals.specs.Rational.{ℚ, one_ℚ}
use Rattle.rationals.specs.Passes.{then_walk}
use Rattle.stoch_defs.specs.Random.{Block, Branch}
use Rattle.scen_defs.specs.Program.{Scenario as Path}
use Rattle.build_defs.specs.Digits.{digits}
use Rattle.build_defs.specs.Scenarios.{Scenario, no_branch}
use Rattle.build_defs.specs.Nodes.{Stand, path_of}
use Rattle.build_defs.specs.Built.{product_from, paths_from}
use Rattle.tree_build.specs.declared.wheels.Wheel.{Wheel}
use Rattle.tree_build.specs.Wheels.{product, sizes_of, digits_of}
use Rattle.tree_build.specs.Choices.{chances_of}
use Rattle.tree_build.specs.Nodes.{digits_at}
use Rattle.tree_build.specs.Finish.{block_paths, branch_paths}
use Rattle.build_laws.proofs.Numbered.{no_scenario}
use Rattle.build_laws.proofs.Tables.{then_same}

-- ---- blocks

-- the digits of a scenario that is there
pub digits_there : (sizes : List ℕ) (k : ℕ) → k < product sizes → digits_at sizes k ≡ digits_of sizes k
digits_there sizes k below = ap (λ b. if b then digits_of sizes k else []) (let e : nat_lt k (product sizes) ≡ true = grind (arith, nat_tests, below) in e)

-- scenario k of blocks has this name, and these factors
pub record IsOfBlocks (blocks : List Block) (wheels : List Wheel) (k : ℕ) (s : Scenario) : Type 0 where
  pub name : s.name ≡ 83 ∷ digits (k + 1)
  pub factors : s.factors ≡ chances_of blocks wheels (digits_at (sizes_of wheels) k)

abbrev one_path : ℕ → List Stand → Scenario → List ℕ → ℚ → Path
one_path count firsts s name chance = record { name = name; probability = chance; path = path_of count firsts s }

pub block_walk_is : (count : ℕ) (firsts : List Stand) (blocks : List Block) (wheels : List Wheel) (built : List Path) (ss : List Scenario) →
    ((i : ℕ) → i < length ss → IsOfBlocks blocks wheels (length built + i) (get_or ss i no_scenario)) →
    block_paths blocks wheels built (map (path_of count firsts) ss) ≡ paths_from count firsts built ss
block_walk_is count firsts blocks wheels built [] are = refl
block_walk_is count firsts blocks wheels built (s ∷ ss) are =
    ap (λ (fs : List ℚ). then_walk (product_from one_ℚ fs) (λ chance. block_paths blocks wheels (built ++ one_path count firsts s (83 ∷ digits (length built + 1)) chance ∷ []) (map (path_of count firsts) ss))) (sym factors)
    ∙ then_same (product_from one_ℚ s.factors) (λ chance. block_paths blocks wheels (built ++ one_path count firsts s (83 ∷ digits (length built + 1)) chance ∷ []) (map (path_of count firsts) ss))
    (λ chance. paths_from count firsts (built ++ one_path count firsts s s.name chance ∷ []) ss)
    (λ chance. rest chance (block_walk_is count firsts blocks wheels (built ++ one_path count firsts s s.name chance ∷ []) ss (later chance)))
  where
    zero_is : length built + 0 ≡ length built
    zero_is = omega arith

    factors : s.factors ≡ chances_of blocks wheels (digits_at (sizes_of wheels) (length built))
    factors = (are 0 (omega arith)).factors ∙ ap (λ (n : ℕ). chances_of blocks wheels (digits_at (sizes_of wheels) n)) zero_is

    name : s.name ≡ 83 ∷ digits (length built + 1)
    name = (are 0 (omega arith)).name ∙ ap (λ (n : ℕ). 83 ∷ digits (n + 1)) zero_is

    later : (chance : ℚ) (i : ℕ) → i < length ss → IsOfBlocks blocks wheels (length (built ++ one_path count firsts s s.name chance ∷ []) + i) (get_or ss i no_scenario)
    later chance i below =
        subst (λ (n : ℕ). IsOfBlocks blocks wheels n (get_or ss i no_scenario))
        (let e : length built + suc i ≡ length (built ++ one_path count firsts s s.name chance ∷ []) + i = omega (arith, length_push built (one_path count firsts s s.name chance)) in e) (are (suc i) (omega (arith, below)))

    rest : (chance : ℚ) →
        block_paths blocks wheels (built ++ one_path count firsts s s.name chance ∷ []) (map (path_of count firsts) ss) ≡ paths_from count firsts (built ++ one_path count firsts s s.name chance ∷ []) ss →
        block_paths blocks wheels (built ++ one_path count firsts s (83 ∷ digits (length built + 1)) chance ∷ []) (map (path_of count firsts) ss) ≡ paths_from count firsts (built ++ one_path count firsts s s.name chance ∷ []) ss
    rest chance next = ap (λ (n : List ℕ). block_paths blocks wheels (built ++ one_path count firsts s n chance ∷ []) (map (path_of count firsts) ss)) (sym name) ∙ next

-- ---- scenarios that are stated

-- scenario k of those that are stated has this name, and this factor
pub record IsOfBranches (branches : List Branch) (k : ℕ) (s : Scenario) : Type 0 where
  pub name : s.name ≡ (get_or branches k no_branch).name
  pub factors : s.factors ≡ (get_or branches k no_branch).probability ∷ []

abbrev branch_at : List Branch → ℕ → Branch
branch_at branches k = get_or branches k no_branch

pub branch_walk_is : (count : ℕ) (firsts : List Stand) (branches : List Branch) (built : List Path) (ss : List Scenario) →
    ((i : ℕ) → i < length ss → IsOfBranches branches (length built + i) (get_or ss i no_scenario)) →
    branch_paths branches built (map (path_of count firsts) ss) ≡ paths_from count firsts built ss
branch_walk_is count firsts branches built [] are = refl
branch_walk_is count firsts branches built (s ∷ ss) are =
    ap (λ (fs : List ℚ). then_walk (product_from one_ℚ fs) (λ chance. branch_paths branches (built ++ one_path count firsts s (branch_at branches (length built)).name chance ∷ []) (map (path_of count firsts) ss))) (sym factors)
    ∙ then_same (product_from one_ℚ s.factors) (λ chance. branch_paths branches (built ++ one_path count firsts s (branch_at branches (length built)).name chance ∷ []) (map (path_of count firsts) ss))
    (λ chance. paths_from count firsts (built ++ one_path count firsts s s.name chance ∷ []) ss)
    (λ chance. rest chance (branch_walk_is count firsts branches (built ++ one_path count firsts s s.name chance ∷ []) ss (later chance)))
  where
    zero_is : length built + 0 ≡ length built
    zero_is = omega arith

    factors : s.factors ≡ (branch_at branches (length built)).probability ∷ []
    factors = (are 0 (omega arith)).factors ∙ ap (λ (n : ℕ). (branch_at branches n).probability ∷ []) zero_is

    name : s.name ≡ (branch_at branches (length built)).name
    name = (are 0 (omega arith)).name ∙ ap (λ (n : ℕ). (branch_at branches n).name) zero_is

    later : (chance : ℚ) (i : ℕ) → i < length ss → IsOfBranches branches (length (built ++ one_path count firsts s s.name chance ∷ []) + i) (get_or ss i no_scenario)
    later chance i below =
        subst (λ (n : ℕ). IsOfBranches branches n (get_or ss i no_scenario))
        (let e : length built + suc i ≡ length (built ++ one_path count firsts s s.name chance ∷ []) + i = omega (arith, length_push built (one_path count firsts s s.name chance)) in e) (are (suc i) (omega (arith, below)))

    rest : (chance : ℚ) →
        branch_paths branches (built ++ one_path count firsts s s.name chance ∷ []) (map (path_of count firsts) ss) ≡ paths_from count firsts (built ++ one_path count firsts s s.name chance ∷ []) ss →
        branch_paths branches (built ++ one_path count firsts s (branch_at branches (length built)).name chance ∷ []) (map (path_of count firsts) ss) ≡ paths_from count firsts (built ++ one_path count firsts s s.name chance ∷ []) ss
    rest chance next = ap (λ (n : List ℕ). branch_paths branches (built ++ one_path count firsts s n chance ∷ []) (map (path_of count firsts) ss)) (sym name) ∙ next
