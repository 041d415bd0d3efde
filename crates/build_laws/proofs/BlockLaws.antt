-- Of blocks: the nodes that are numbered and the scenarios that are counted are those that are meant.
use Rattle.std.proofs.Common.{◌≡◌, ◌∙◌, ap, ap₂, sym, refl, subst, ℕ, zero, suc, ◌+◌, ◌<◌, List, [], ◌∷◌, map, flat_map, length, get_or, nat_eq, arith}
use Rattle.smps_words.specs.Names.{same_name}
use Rattle.time_defs.specs.Means.{Stages}
use Rattle.stoch_defs.specs.Random.{Block}
use Rattle.stoch_defs.specs.Random.Random.{Blocks}
use Rattle.build_defs.specs.Digits.{digits}
use Rattle.build_defs.specs.Scenarios.{Scenario, Choice, stages_from, by_period, all_choices, numbers_to, by_choices}
use Rattle.build_defs.specs.Nodes.{nodes_of}
use Rattle.build_defs.specs.Built.{paths_from}
use Rattle.tree_build.specs.declared.wheels.Wheel.{Wheel}
use Rattle.tree_build.specs.Wheels.{wheels_of, product, sizes_of, digits_of, IsWithin, key_to, key_row}
use Rattle.tree_build.specs.Choices.{chances_of, sets_of}
use Rattle.tree_build.specs.Nodes.{digits_at}
use Rattle.tree_build.specs.Finish.{block_paths}
use Rattle.tree_build.specs.Walks.{paths_of, block_rows}
use Rattle.tree_build.proofs.WheelLemmas.{digits_within}
use Rattle.tree_build.proofs.ScenarioLaws.{all_wheels, block_rows_long, block_rows_length}
use Rattle.build_laws.proofs.Numbered.{no_scenario, IsNumbered}
use Rattle.build_laws.proofs.Tables.{by_stage}
use Rattle.build_laws.proofs.Tests.{tests_same}
use Rattle.build_laws.proofs.Choices.{chosen, counts, all_length, all_read}
use Rattle.build_laws.proofs.Turns.{block_of, blocks_are, stages_are, sizes_are}
use Rattle.build_laws.proofs.Counted.{chances_are, sets_are, keys_to_marks, marks_to_keys}
use Rattle.build_laws.proofs.Paths.{digits_there, IsOfBlocks, block_walk_is}
use Rattle.build_laws.proofs.Stands.{AreTold, row_of, mark_at, nodes_are, positions_are, paths_are}

-- the scenario of this number with these choices
abbrev scenario_by : List ℕ → ℕ → List Choice → Scenario
scenario_by stages number choices = record {
  name = 83 ∷ digits number;
  factors = map (λ (choice : Choice). choice.probability) choices;
  marks = map (λ stage. numbers_to stage choices) stages;
  sets = flat_map (λ (choice : Choice). choice.sets) choices;
}

by_length : (stages : List ℕ) (number : ℕ) (all : List (List Choice)) → length (by_choices stages number all) ≡ length all
by_length stages number [] = refl
by_length stages number (choices ∷ all) = ap suc (by_length stages (number + 1) all)

by_read : (stages : List ℕ) (number : ℕ) (all : List (List Choice)) (i : ℕ) → i < length all → get_or (by_choices stages number all) i no_scenario ≡ scenario_by stages (number + i) (get_or all i [])
by_read stages number [] i below = absurd (omega (arith, below))
by_read stages number (choices ∷ all) zero below = ap (λ (n : ℕ). scenario_by stages n choices) (let e : number ≡ number + 0 = omega arith in e)
by_read stages number (choices ∷ all) (suc i) below =
    by_read stages (number + 1) all i (omega (arith, below)) ∙ ap (λ (n : ℕ). scenario_by stages n (get_or all i [])) (let e : number + 1 + i ≡ number + suc i = omega arith in e)

module _ (count : ℕ) (blocks : List Block) where
  abbrev wheels : List Wheel
  wheels = wheels_of count blocks

  abbrev sizes : List ℕ
  sizes = sizes_of wheels

  abbrev rows : List (List ℕ)
  rows = block_rows count wheels

  abbrev scenarios : List Scenario
  scenarios = by_choices (stages_from 0 count) 1 (all_choices (by_period count blocks))

  -- the choices of scenario k
  abbrev choices_at : ℕ → List Choice
  choices_at k = chosen (map (block_of blocks) wheels) (digits_of sizes k)

  counts_are : counts (by_period count blocks) ≡ sizes
  counts_are = ap counts (sym (blocks_are count blocks)) ∙ sym (sizes_are blocks wheels (all_wheels count blocks))

  many : length scenarios ≡ product sizes
  many = by_length (stages_from 0 count) 1 (all_choices (by_period count blocks)) ∙ all_length (by_period count blocks) ∙ ap product counts_are

  choices_are : (k : ℕ) → k < product sizes → get_or (all_choices (by_period count blocks)) k [] ≡ choices_at k
  choices_are k below =
      all_read (by_period count blocks) k (let e : product (counts (by_period count blocks)) ≡ product sizes = ap product counts_are in omega (arith, e, below))
      ∙ ap₂ (λ (bs : List Block) (cs : List ℕ). chosen bs (digits_of cs k)) (sym (blocks_are count blocks)) counts_are

  scenario_is : (k : ℕ) → k < product sizes → get_or scenarios k no_scenario ≡ scenario_by (stages_from 0 count) (k + 1) (choices_at k)
  scenario_is k below =
      let all = all_choices (by_period count blocks) in
      let long : length all ≡ product sizes = all_length (by_period count blocks) ∙ ap product counts_are in
      by_read (stages_from 0 count) 1 all k (omega (arith, long, below))
      ∙ ap₂ (scenario_by (stages_from 0 count)) (let e : 1 + k ≡ k + 1 = omega arith in e) (choices_are k below)

  sets_is : (k : ℕ) → k < product sizes → sets_of blocks wheels (digits_at sizes k) ≡ (get_or scenarios k no_scenario).sets
  sets_is k below =
      ap (sets_of blocks wheels) (digits_there sizes k below) ∙ sym (sets_are blocks wheels (digits_of sizes k))
      ∙ sym (ap (λ (s : Scenario). s.sets) (scenario_is k below))

  stated : (k : ℕ) → k < product sizes → IsOfBlocks blocks wheels k (get_or scenarios k no_scenario)
  stated k below = record {
    name = ap (λ (s : Scenario). s.name) (scenario_is k below);
    factors = ap (λ (s : Scenario). s.factors) (scenario_is k below) ∙ chances_are blocks wheels (digits_of sizes k) ∙ ap (chances_of blocks wheels) (sym (digits_there sizes k below));
  }

  mark_is : (k s : ℕ) → k < product sizes → s < count → mark_at scenarios k s ≡ numbers_to s (choices_at k)
  mark_is k s below low = ap (λ (sc : Scenario). get_or sc.marks s []) (scenario_is k below) ∙ by_stage (λ stage. numbers_to stage (choices_at k)) count s [] low

  key_is : (k s : ℕ) → k < product sizes → s < count → get_or (row_of rows k) s 0 ≡ key_to s wheels (digits_of sizes k) 0
  key_is k s below low =
      ap (λ (row : List ℕ). get_or row s 0) (by_stage (λ number. key_row wheels count (digits_of sizes number)) (product sizes) k [] below)
      ∙ by_stage (λ stage. key_to stage wheels (digits_of sizes k) 0) count s 0 low

  told : AreTold count rows scenarios
  told = record {
    same = block_rows_length count wheels ∙ sym many;
    long = block_rows_long count wheels;
    told = λ i j s one other low. tell i j s (omega (arith, one, block_rows_length count wheels)) (omega (arith, other, block_rows_length count wheels)) low;
  }
    where
      tell : (i j s : ℕ) → i < product sizes → j < product sizes → s < count → nat_eq (get_or (row_of rows i) s 0) (get_or (row_of rows j) s 0) ≡ same_name (mark_at scenarios i s) (mark_at scenarios j s)
      tell i j s one other low =
          let a : IsWithin sizes (digits_of sizes i) = digits_within sizes i one in
          let b : IsWithin sizes (digits_of sizes j) = digits_within sizes j other in
          tests_same (get_or (row_of rows i) s 0) (get_or (row_of rows j) s 0) (mark_at scenarios i s) (mark_at scenarios j s)
          (λ e. mark_is i s one low ∙ keys_to_marks blocks s wheels (digits_of sizes i) (digits_of sizes j) (stages_are count blocks) a b (sym (key_is i s one low) ∙ e ∙ key_is j s other low) ∙ sym (mark_is j s other low))
          (λ e. key_is i s one low ∙ marks_to_keys blocks s wheels (digits_of sizes i) (digits_of sizes j) (stages_are count blocks) a b (sym (mark_is i s one low) ∙ e ∙ mark_is j s other low) ∙ sym (key_is j s other low))

  walk_is : block_paths blocks wheels [] (paths_of rows) ≡ paths_from count (nodes_of count scenarios) [] scenarios
  walk_is =
      ap (block_paths blocks wheels []) (paths_are count rows scenarios told)
      ∙ block_walk_is count (nodes_of count scenarios) blocks wheels [] scenarios
      (λ i below. subst (λ (n : ℕ). IsOfBlocks blocks wheels n (get_or scenarios i no_scenario)) (let e : i ≡ 0 + i = omega arith in e) (stated i (omega (arith, below, many))))

pub blocks_numbered : (p : Stages) (blocks : List Block) → IsNumbered p (Blocks blocks)
blocks_numbered p blocks =
    let count = length p.names in
    record {
      numbered = record {
        firsts = nodes_are count (rows count blocks) (scenarios count blocks) (told count blocks);
        positions = positions_are count (rows count blocks) (scenarios count blocks) (told count blocks);
      };
      count = sym (many count blocks);
      walk = walk_is count blocks;
      sets = λ k below. sets_is count blocks k (omega (arith, below, many count blocks));
    }
