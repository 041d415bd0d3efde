-- What is built of a core, its periods and its cases: the parts of the program.
use Rattle.std.proofs.Common.{◌≡◌, ◌∙◌, subst, ℕ, ◌+◌, ◌<◌, true, List, [], ◌∷◌, map, length, get_or, arith, Option, Ok}
use Rattle.std.proofs.lemmas.List.{get_or-map}
use Rattle.rationals.specs.Rational.{one_ℚ}
use Rattle.core_defs.specs.declared.program.Core.{Core}
use Rattle.time_defs.specs.Means.{Stages}
use Rattle.stoch_defs.specs.Random.{Block, Branch}
use Rattle.scen_defs.specs.Lists.{Each, passes_at}
use Rattle.scen_defs.specs.Program.{Node, Scenario, Program, is_live}
use Rattle.scen_defs.specs.Valid.{AreNames}
use Rattle.tree_build.proofs.NameLaws.{name_of, block_names, stated_names}
use Rattle.scen_tree.specs.declared.position.Position.{Position}
use Rattle.scen_tree.specs.declared.position.Position.TheVariants.{Root}
use Rattle.scen_tree.specs.Chances.{chances_walk}
use Rattle.build_defs.specs.Built.{program_of}
use Rattle.build_defs.proofs.ChanceLemmas.{then_is, fine_is}
use Rattle.tree_build.specs.declared.numbering.Debut.{Debut}
use Rattle.tree_build.specs.Values.{Values}
use Rattle.tree_build.specs.Wheels.{wheels_of}
use Rattle.tree_build.specs.Branches.{branch_rows}
use Rattle.tree_build.specs.Nodes.{no_values}
use Rattle.tree_build.specs.Finish.{position_at, no_debut, value_nodes, block_paths, branch_paths, finish_walk}
use Rattle.tree_build.specs.Walks.{debuts_of, paths_of, block_rows, block_all, branch_all, blocks_walk, branches_walk}
use Rattle.tree_build.specs.Law.{IsStaged, IsBlock, AreBranches}
use Rattle.build_defs.specs.Laws.{IsCertain}
use Rattle.rationals.specs.Sums.{sum_ℚ}
use Rattle.tree_build.proofs.Certain.{blocks_certain, branches_certain}
use Rattle.tree_build.proofs.Numbers.{Outlines, outlines, paths_length, paths_long}
use Rattle.tree_build.proofs.NodeValues.{AreSound, stages_low, blocks_sound, branches_sound}
use Rattle.tree_build.proofs.NodeLaws.{AreMade, nodes_made, live_within, IsThere, made_at}
use Rattle.tree_build.proofs.ScenarioLaws.{HavePaths, has_cases, block_rows_long, block_rows_length, blocks_have, branches_have, rows_length, rows_long}

abbrev pub positions_of : List (List ℕ) → List Debut → List Position
positions_of paths debuts = map (position_at paths) debuts

-- what the parts of a program keep
pub record Parts (core : Core) (p : Stages) (debuts : List Debut) (paths : List (List ℕ)) (all : List Values) (scenarios : List Scenario) (nodes : List (Option Node)) : Type 0 where
  pub staged : IsStaged core p
  pub outlines : Outlines debuts paths
  pub sound : AreSound p debuts all
  pub have : HavePaths scenarios paths
  pub made : AreMade core.rows.items debuts (positions_of paths debuts) 0 all nodes

module _ (core : Core) (p : Stages) (debuts : List Debut) (paths : List (List ℕ)) (all : List Values) (scenarios : List Scenario) (nodes : List (Option Node)) (parts : Parts core p debuts paths all scenarios nodes) where
  -- node n
  pub there : (n : ℕ) → n < length debuts → IsThere core.rows.items (get_or debuts n no_debut) (position_at paths (get_or debuts n no_debut)) (get_or all n no_values) nodes n
  there n below =
      let h = made_at core.rows.items debuts (positions_of paths debuts) 0 all nodes n parts.made (omega (arith, below, parts.sound.same)) in
      let zero_n : 0 + n ≡ n = omega arith in
      let position : get_or (positions_of paths debuts) n Root ≡ position_at paths (get_or debuts n no_debut) = get_or-map (position_at paths) debuts n no_debut Root below in
      subst (λ (q : Position). IsThere core.rows.items (get_or debuts n no_debut) q (get_or all n no_values) nodes n) position
      (subst (λ (k : ℕ). IsThere core.rows.items (get_or debuts k no_debut) (get_or (positions_of paths debuts) k Root) (get_or all n no_values) nodes n) zero_n h)

  pub within : (n : ℕ) → passes_at is_live n nodes ≡ true → n < length debuts
  within n is = omega (arith, live_within core.rows.items debuts (positions_of paths debuts) 0 all nodes n parts.made is, parts.sound.same)

-- what is built: its parts
pub record Made (core : Core) (p : Stages) (rows : List (List ℕ)) (program : Program) : Type 0 where
  pub all : List Values
  pub scenarios : List Scenario
  pub nodes : List (Option Node)
  pub parts : Parts core p (debuts_of rows) (paths_of rows) all scenarios nodes
  pub is : program ≡ program_of core p nodes scenarios
  pub long : Each (λ (path : List ℕ). length path ≡ length p.names) (paths_of rows)
  pub certain : sum_ℚ (λ (s : Scenario). s.probability) scenarios ≡ one_ℚ
  pub named : length (paths_of rows) < 50000 → AreNames (map name_of scenarios)

finished : (core : Core) (p : Stages) (rows : List (List ℕ)) (scenarios : List Scenario) (all : List Values) (program : Program) → IsStaged core p →
    AreSound p (debuts_of rows) all → HavePaths scenarios (paths_of rows) → Each (λ (path : List ℕ). length path ≡ length p.names) (paths_of rows) → sum_ℚ (λ (s : Scenario). s.probability) scenarios ≡ one_ℚ →
    (length (paths_of rows) < 50000 → AreNames (map name_of scenarios)) → finish_walk core p (debuts_of rows) (positions_of (paths_of rows) (debuts_of rows)) scenarios all ≡ Ok program → Made core p rows program
finished core p rows scenarios all program staged sound have long certain named e =
    let positions = positions_of (paths_of rows) (debuts_of rows) in
    let chances = then_is (chances_walk positions scenarios) _ program e in
    let nodes = then_is (value_nodes core.rows.items (debuts_of rows) positions [] all) _ program chances.2 in
    record {
      all = all;
      scenarios = scenarios;
      nodes = nodes.0;
      parts = record { staged = staged; outlines = outlines rows; sound = sound; have = have; made = nodes_made core.rows.items (debuts_of rows) positions all nodes.0 nodes.1 };
      is = fine_is (program_of core p nodes.0 scenarios) program nodes.2;
      long = long;
      certain = certain;
      named = named;
    }

all_certain : (p : Stages) (blocks : List Block) → Each (IsBlock p) blocks → Each IsCertain blocks
all_certain p [] all = tt
all_certain p (block ∷ blocks) all = (all.0.certain, all_certain p blocks all.1)

pub made_of_blocks : (core : Core) (p : Stages) (blocks : List Block) (program : Program) → IsStaged core p → Each (IsBlock p) blocks → blocks_walk core p blocks ≡ Ok program →
    Made core p (block_rows (length p.names) (wheels_of (length p.names) blocks)) program
made_of_blocks core p blocks program staged all e =
    let wheels = wheels_of (length p.names) blocks in
    let rows = block_rows (length p.names) wheels in
    let scenarios = then_is (block_paths blocks wheels [] (paths_of rows)) _ program e in
    let long = paths_long [] 0 (length p.names) rows (block_rows_long (length p.names) wheels) in
    finished core p rows scenarios.0 (block_all core p blocks wheels rows) program staged
    (blocks_sound core p blocks wheels (debuts_of rows) staged (has_cases p blocks all) (stages_low (length p.names) (debuts_of rows) (paths_of rows) (outlines rows) long))
    (blocks_have p blocks (length p.names) (paths_of rows) scenarios.0 all scenarios.1) long
    (blocks_certain (length p.names) blocks (paths_of rows) scenarios.0 (all_certain p blocks all) (paths_length [] 0 rows ∙ block_rows_length (length p.names) wheels) scenarios.1)
    (λ low. block_names blocks wheels (paths_of rows) scenarios.0 low scenarios.1) scenarios.2

pub made_of_branches : (core : Core) (p : Stages) (branches : List Branch) (program : Program) → IsStaged core p → AreBranches p branches →
    branches_walk core p branches ≡ Ok program → Made core p (branch_rows (length p.names) [] branches) program
made_of_branches core p branches program staged cases e =
    let rows = branch_rows (length p.names) [] branches in
    let scenarios = then_is (branch_paths branches [] (paths_of rows)) _ program e in
    let same : length (paths_of rows) ≡ length branches = paths_length [] 0 rows ∙ (let z : length rows ≡ length branches = omega (arith, rows_length (length p.names) [] branches) in z) in
    let long = paths_long [] 0 (length p.names) rows (rows_long (length p.names) [] branches tt) in
    finished core p rows scenarios.0 (branch_all core p branches rows) program staged
    (branches_sound core p branches (paths_of rows) (debuts_of rows) staged cases.all cases.ancestral long (outlines rows))
    (branches_have p branches (paths_of rows) scenarios.0 cases.all same scenarios.1) long (branches_certain branches (paths_of rows) scenarios.0 cases.certain same scenarios.1)
    (λ low. stated_names branches (paths_of rows) scenarios.0 same cases.names scenarios.1) scenarios.2
