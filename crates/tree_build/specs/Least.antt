-- What nodes have at least, counted before they are made: by the values of the core alone, or by the rows of parents.
use Rattle.std.specs.Prelude.{◌≢◌, ℕ, List, [], ◌∷◌, ◌++◌, Option, Some, None, map, get_or}
use Rattle.rationals.specs.Rational.{ℚ, zero_ℚ}
use Rattle.scen_defs.specs.Lists.{Each}
use Rattle.smps_words.specs.declared.entry.Entry.{Entry}
use Rattle.smps_words.specs.declared.entry.Entry.TheVariants.{Cost, Matrix, Rhs}
use Rattle.stoch_defs.specs.Random.{Sets, Case, Block, Branch}
use Rattle.build_defs.specs.Scenarios.{no_branch}
use Rattle.tree_build.specs.declared.numbering.Debut.{Debut}
use Rattle.tree_build.specs.Values.{Values}
use Rattle.tree_build.specs.Limits.{rows_in}
use Rattle.tree_build.specs.Nodes.{no_values, node_in}

-- where the entry is set, there are no fewer costs and entries than before: 0 takes away the one that was there
abbrev pub TakesNone : Entry → ℚ → Type 0
TakesNone (Cost j) v = v ≢ zero_ℚ
TakesNone (Matrix i j) v = v ≢ zero_ℚ
TakesNone (Rhs i) v = Unit {0}

-- the same of several sets, of a block's cases, and of all blocks
abbrev pub SetsTakeNone : Sets → Type 0
SetsTakeNone sets = Each (λ pair. TakesNone pair.0 pair.1) sets

abbrev pub CasesTakeNone : List Case → Type 0
CasesTakeNone cases = Each (λ (c : Case). SetsTakeNone c.sets) cases

abbrev pub BlocksTakeNone : List Block → Type 0
BlocksTakeNone blocks = Each (λ (b : Block). CasesTakeNone b.cases) blocks

-- the values of the core for a node
abbrev pub core_node : List Values → Debut → Values
core_node base debut = get_or base debut.stage no_values

abbrev pub core_nodes : List Values → List Debut → List Values
core_nodes base debuts = map (core_node base) debuts

-- ---- scenarios that are stated: a node has as many rows as its scenario's parent has there

abbrev pub source_rows : List Values → List (List ℕ) → List ℕ → Option ℕ → ℕ → ℕ
source_rows base paths counts None stage = rows_in (get_or base stage no_values)
source_rows base paths counts (Some parent) stage = get_or counts (node_in paths parent stage) 0

abbrev pub branch_count : List Values → List Branch → List (List ℕ) → List ℕ → Debut → ℕ
branch_count base branches paths counts debut = source_rows base paths counts (get_or branches debut.scenario no_branch).parent debut.stage

-- the rows of the nodes behind those that are counted
abbrev pub branch_counts : List Values → List Branch → List (List ℕ) → List ℕ → List Debut → List ℕ
branch_counts base branches paths counts [] = counts
branch_counts base branches paths counts (debut ∷ debuts) =
    branch_counts base branches paths (counts ++ branch_count base branches paths counts debut ∷ []) debuts
