-- A program in stages on a tree of nodes: its lists, and what theorems see of them.
use Rattle.std.proofs.Common.{◌≡◌, ℕ, zero, suc, ◌≤◌, Bool, true, false, eqb, List, [], ◌∷◌, Option, Some, None}
use Rattle.rationals.specs.Rational.{ℚ, zero_ℚ, ◌<ℚ◌}
use Rattle.rationals.specs.Sums.{sum_ℚ}
use Rattle.rationals.specs.Sparse.{Entry, value_if}
use Rattle.scen_defs.specs.Lists.{Each, Once, Distinct, is_in, places}
use Rattle.rationals.specs.Intervals.{InOrder}
use Rattle.scen_defs.specs.declared.program.Column.{Column}
use Rattle.scen_defs.specs.declared.program.Row.{Row}
use Rattle.scen_defs.specs.declared.program.NodeRow.{NodeRow}
use Rattle.scen_defs.specs.declared.program.Node.{Node as NodeOf}
use Rattle.scen_defs.specs.declared.program.Scenario.{Scenario as ScenarioOf}

-- ---- the parts of a program that hold lists, as their lists
pub record Node : Type 0 where
  pub stage : ℕ
  pub parent : Option ℕ
  pub cost : List Entry
  pub rows : List NodeRow

pub record Scenario : Type 0 where
  pub name : List ℕ
  pub probability : ℚ
  pub path : List ℕ

-- a node's number is its place; None is a node that was dropped. A column's number, and a row's, is its place
pub record Program : Type 0 where
  pub objective : List ℕ
  pub rhs : List ℕ
  pub periods : List (List ℕ)
  pub columns : List Column
  pub rows : List Row
  pub nodes : List (Option Node)
  pub scenarios : List Scenario

abbrev pub node_content : NodeOf → Node
node_content n = record { stage = n.stage; parent = n.parent; cost = n.cost; rows = n.rows.items }

abbrev pub place_content : Option NodeOf → Option Node
place_content None = None
place_content (Some n) = Some (node_content n)

abbrev pub nodes_content : List (Option NodeOf) → List (Option Node)
nodes_content [] = []
nodes_content (place ∷ nodes) = place_content place ∷ nodes_content nodes

abbrev pub scenario_content : ScenarioOf → Scenario
scenario_content s = record { name = s.name; probability = s.probability; path = s.path.items }

abbrev pub scenarios_content : List ScenarioOf → List Scenario
scenarios_content [] = []
scenarios_content (s ∷ scenarios) = scenario_content s ∷ scenarios_content scenarios

-- ---- what theorems see: numbers of nodes and columns, and what belongs to each number
pub record View : Type 0 where
  -- the live nodes, rising, and of each its stage, parent, cost and rows
  pub live : List ℕ
  pub stage : ℕ → ℕ
  pub parent : ℕ → ℕ
  pub cost : ℕ → List Entry
  pub rows : ℕ → List NodeRow
  -- the columns of each stage, rising, and of each column its stage and bounds
  pub columns : ℕ → List ℕ
  pub stage_of : ℕ → ℕ
  pub lower : ℕ → Option ℚ
  pub upper : ℕ → Option ℚ
  pub scenarios : List Scenario

abbrev pub is_live : Option Node → Bool
is_live None = false
is_live (Some node) = true

-- what stands for a node that is not live: one without costs and rows
abbrev pub no_node : Node
no_node = record { stage = 0; parent = None; cost = []; rows = [] }

-- node n, where it is live
abbrev pub node_at : List (Option Node) → ℕ → Node
node_at [] n = no_node
node_at (None ∷ nodes) zero = no_node
node_at (Some node ∷ nodes) zero = node
node_at (first ∷ nodes) (suc n) = node_at nodes n

-- column j; past the last one, one without bounds
abbrev pub column_at : List Column → ℕ → Column
column_at [] j = record { name = []; stage = 0; lower = None; upper = None }
column_at (column ∷ columns) zero = column
column_at (column ∷ columns) (suc j) = column_at columns j

abbrev pub or_root : Option ℕ → ℕ
or_root None = 0
or_root (Some n) = n

abbrev pub view_of : Program → View
view_of p = record {
  live = places is_live 0 p.nodes;
  stage = λ n. (node_at p.nodes n).stage;
  parent = λ n. or_root (node_at p.nodes n).parent;
  cost = λ n. (node_at p.nodes n).cost;
  rows = λ n. (node_at p.nodes n).rows;
  columns = λ s. places (λ (c : Column). eqb c.stage s) 0 p.columns;
  stage_of = λ j. (column_at p.columns j).stage;
  lower = λ j. (column_at p.columns j).lower;
  upper = λ j. (column_at p.columns j).upper;
  scenarios = p.scenarios;
}

-- ---- the laws of a tree
abbrev pub IsLive : View → ℕ → Type 0
IsLive v n = Once n v.live

-- column j is of stage s
abbrev pub IsColumn : View → ℕ → ℕ → Type 0
IsColumn v s j = Once j (v.columns s)

-- a node of stage 0, or one whose parent is live and one stage earlier
pub data HasPlace (v : View) (n : ℕ) : Type 0 where
  is_first : v.stage n ≡ 0 → HasPlace v n
  is_below : IsLive v (v.parent n) → v.stage n ≡ suc (v.stage (v.parent n)) → HasPlace v n

-- an entry of a node of stage s: of a column of that stage or an earlier one
pub record IsEntry (v : View) (s : ℕ) (e : Entry) : Type 0 where
  pub column : IsColumn v (v.stage_of e.column) e.column
  pub reached : v.stage_of e.column ≤ s

pub record IsRow (v : View) (s : ℕ) (r : NodeRow) : Type 0 where
  pub entries : Each (IsEntry v s) r.entries
  pub in_order : InOrder r.low r.high

pub record IsNode (v : View) (n : ℕ) : Type 0 where
  pub live : IsLive v n
  pub place : HasPlace v n
  pub cost : Each (λ (e : Entry). IsColumn v (v.stage n) e.column) (v.cost n)
  pub rows : Each (IsRow v (v.stage n)) (v.rows n)

-- a path has live nodes, each once
pub record IsPath (v : View) (path : List ℕ) : Type 0 where
  pub live : Each (IsLive v) path
  pub distinct : Distinct path

pub record IsColumnOf (v : View) (s : ℕ) (j : ℕ) : Type 0 where
  pub once : IsColumn v s j
  pub stage : v.stage_of j ≡ s
  pub in_order : InOrder (v.lower j) (v.upper j)

-- the probability of all scenarios through n
abbrev pub total : View → ℕ → ℚ
total v n = sum_ℚ (λ (s : Scenario). value_if (is_in n s.path) s.probability) v.scenarios

pub record IsTree (v : View) : Type 0 where
  pub nodes : Each (IsNode v) v.live
  pub columns : (s : ℕ) → Each (IsColumnOf v s) (v.columns s)
  pub paths : Each (λ (s : Scenario). IsPath v s.path) v.scenarios
  pub totals : Each (λ n. zero_ℚ <ℚ total v n) v.live
