-- Of scenarios that are stated: the nodes that are numbered are those that are meant.
use Rattle.std.proofs.Common.{◌≡◌, ◌∙◌, ap, sym, refl, subst, ℕ, zero, suc, ◌+◌, ◌<◌, List, [], ◌∷◌, map, length, get_or, nat_eq, Some, arith}
use Rattle.rationals.specs.Rational.{ne_of_gt_ℚ, zero_lt_one_ℚ}
use Rattle.smps_words.specs.Names.{same_name}
use Rattle.time_defs.specs.Means.{Stages}
use Rattle.stoch_defs.specs.Random.{Branch}
use Rattle.stoch_defs.specs.Random.Random.{Branches}
use Rattle.build_defs.specs.Laws.{AreAncestral}
use Rattle.build_defs.specs.Scenarios.{Scenario, no_branch, stages_from, owner, sets_above, by_branches}
use Rattle.build_defs.specs.Nodes.{nodes_of}
use Rattle.build_defs.specs.Built.{paths_from}
use Rattle.tree_build.specs.Branches.{branch_rows}
use Rattle.tree_build.specs.Finish.{branch_paths}
use Rattle.tree_build.specs.Walks.{paths_of}
use Rattle.tree_build.specs.Law.{AreBranches}
use Rattle.tree_build.proofs.ScenarioLaws.{rows_length, rows_long}
use Rattle.build_laws.proofs.Numbered.{no_scenario, AreBranchesNumbered, IsNumbered}
use Rattle.build_laws.proofs.Tables.{by_stage}
use Rattle.build_laws.proofs.Tests.{tests_same}
use Rattle.build_laws.proofs.Owners.{key_of_owner, owner_of_key, owner_is, keys_are}
use Rattle.build_laws.proofs.Paths.{IsOfBranches, branch_walk_is}
use Rattle.build_laws.proofs.Stands.{AreTold, row_of, mark_at, nodes_are, positions_are, paths_are}

-- scenario k
abbrev scenario_by : Stages → List Branch → ℕ → Branch → Scenario
scenario_by p all number branch = record {
  name = branch.name;
  factors = branch.probability ∷ [];
  marks = map (λ stage. owner all stage (length all) (Some number)) (stages_from 0 (length p.names));
  sets = sets_above p all (length all) (Some number);
}

by_length : (p : Stages) (all : List Branch) (number : ℕ) (branches : List Branch) → length (by_branches p all number branches) ≡ length branches
by_length p all number [] = refl
by_length p all number (branch ∷ branches) = ap suc (by_length p all (number + 1) branches)

by_read : (p : Stages) (all : List Branch) (number : ℕ) (branches : List Branch) (i : ℕ) → i < length branches → get_or (by_branches p all number branches) i no_scenario ≡ scenario_by p all (number + i) (get_or branches i no_branch)
by_read p all number [] i below = absurd (omega (arith, below))
by_read p all number (branch ∷ branches) zero below = ap (λ (n : ℕ). scenario_by p all n branch) (let e : number ≡ number + 0 = omega arith in e)
by_read p all number (branch ∷ branches) (suc i) below =
    by_read p all (number + 1) branches i (omega (arith, below)) ∙ ap (λ (n : ℕ). scenario_by p all n (get_or branches i no_branch)) (let e : number + 1 + i ≡ number + suc i = omega arith in e)

module _ (p : Stages) (branches : List Branch) (up : AreAncestral branches) where
  abbrev count : ℕ
  count = length p.names

  abbrev rows : List (List ℕ)
  rows = branch_rows count [] branches

  abbrev scenarios : List Scenario
  scenarios = by_branches p branches 0 branches

  abbrev owner_at : ℕ → ℕ → List ℕ
  owner_at k stage = owner branches stage (length branches) (Some k)

  many : length scenarios ≡ length branches
  many = by_length p branches 0 branches

  rows_many : length rows ≡ length branches
  rows_many = rows_length count [] branches ∙ (let e : 0 + length branches ≡ length branches = omega arith in e)

  scenario_is : (k : ℕ) → k < length branches → get_or scenarios k no_scenario ≡ scenario_by p branches k (get_or branches k no_branch)
  scenario_is k below = by_read p branches 0 branches k below ∙ ap (λ (n : ℕ). scenario_by p branches n (get_or branches k no_branch)) (let e : 0 + k ≡ k = omega arith in e)

  mark_is : (k s : ℕ) → k < length branches → s < count → mark_at scenarios k s ≡ owner_at k s
  mark_is k s below low = ap (λ (sc : Scenario). get_or sc.marks s []) (scenario_is k below) ∙ by_stage (λ stage. owner branches stage (length branches) (Some k)) count s [] low

  key_is : (k s : ℕ) → k < length branches → s < count → get_or (row_of rows k) s 0 ≡ key_of_owner (owner_at k s)
  key_is k s below low = keys_are branches count k s up (omega (arith, below, rows_many)) below low

  told : AreTold count rows scenarios
  told = record {
    same = rows_many ∙ sym many;
    long = rows_long count [] branches tt;
    told = λ i j s one other low. tell i j s (omega (arith, one, rows_many)) (omega (arith, other, rows_many)) low;
  }
    where
      tell : (i j s : ℕ) → i < length branches → j < length branches → s < count → nat_eq (get_or (row_of rows i) s 0) (get_or (row_of rows j) s 0) ≡ same_name (mark_at scenarios i s) (mark_at scenarios j s)
      tell i j s one other low =
          tests_same (get_or (row_of rows i) s 0) (get_or (row_of rows j) s 0) (mark_at scenarios i s) (mark_at scenarios j s)
          (λ e. mark_is i s one low ∙ owner_is branches s (length branches) (Some i) ∙ ap owner_of_key (sym (key_is i s one low) ∙ e ∙ key_is j s other low) ∙ sym (owner_is branches s (length branches) (Some j)) ∙ sym (mark_is j s other low))
          (λ e. key_is i s one low ∙ ap key_of_owner (sym (mark_is i s one low) ∙ e ∙ mark_is j s other low) ∙ sym (key_is j s other low))

  stated : (k : ℕ) → k < length branches → IsOfBranches branches k (get_or scenarios k no_scenario)
  stated k below = record { name = ap (λ (s : Scenario). s.name) (scenario_is k below); factors = ap (λ (s : Scenario). s.factors) (scenario_is k below) }

  walk_is : branch_paths branches [] (paths_of rows) ≡ paths_from count (nodes_of count scenarios) [] scenarios
  walk_is =
      ap (branch_paths branches []) (paths_are count rows scenarios told)
      ∙ branch_walk_is count (nodes_of count scenarios) branches [] scenarios
      (λ i below. subst (λ (n : ℕ). IsOfBranches branches n (get_or scenarios i no_scenario)) (let e : i ≡ 0 + i = omega arith in e) (stated i (omega (arith, below, many))))

  numbered : AreBranchesNumbered p branches scenarios rows
  numbered = record {
    numbered = record { firsts = nodes_are count rows scenarios told; positions = positions_are count rows scenarios told };
    count = sym many;
    walk = walk_is;
    sets = λ k below. sym (ap (λ (s : Scenario). s.sets) (scenario_is k (omega (arith, below, many))));
  }

pub branches_numbered : (p : Stages) (branches : List Branch) → AreBranches p branches → IsNumbered p (Branches branches)
branches_numbered p [] are = absurd (ne_of_gt_ℚ zero_lt_one_ℚ (sym are.certain))
branches_numbered p (branch ∷ branches) are = numbered p (branch ∷ branches) are.ancestral
