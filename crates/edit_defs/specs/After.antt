-- The program after an edit.
use Rattle.std.specs.Prelude.{ℕ, zero, suc, Bool, false, not, ◌||◌, eqb, ltb, List, [], ◌∷◌, ◌++◌, map, length, get_or}
use Rattle.std.specs.Prelude.{Option, Some, None}
use Rattle.rationals.specs.Rational.{ℚ, zero_ℚ, one_ℚ, ◌-ℚ◌, ◌*ℚ◌, ◌/ℚ◌}
use Rattle.rationals.specs.Sparse.{Entry as Term}
use Rattle.rationals.specs.Forms.{put}
use Rattle.rationals.specs.Choices.{pick}
use Rattle.smps_words.specs.Names.{same_name}
use Rattle.smps_words.specs.declared.entry.Entry.{Entry}
use Rattle.smps_words.specs.declared.entry.Entry.TheVariants.{Cost, Matrix, Rhs}
use Rattle.scen_defs.specs.Lists.{keep}
use Rattle.scen_defs.specs.declared.program.NodeRow.{NodeRow}
use Rattle.scen_defs.specs.Program.{Node, Scenario, Program, node_at, column_at}
use Rattle.scen_defs.specs.Valid.{row_at, is_reached}
use Rattle.edit_defs.specs.declared.edit.Edit.{Edit}
use Rattle.edit_defs.specs.declared.edit.Edit.TheVariants.{Set, Prob, Drop, Add}
use Rattle.smps_build.specs.Ends.{Interval}
use Rattle.edit_defs.specs.Intervals.{right_side}

-- ---- the scenario of a name
abbrev pub is_named : List ℕ → Scenario → Bool
is_named name s = same_name name s.name

abbrev pub is_other : List ℕ → Scenario → Bool
is_other name s = not (is_named name s)

abbrev pub no_scenario : Scenario
no_scenario = record { name = []; probability = zero_ℚ; path = [] }

-- the scenario of that name; one without nodes where there is none
abbrev pub scenario_named : List ℕ → List Scenario → Scenario
scenario_named name [] = no_scenario
scenario_named name (s ∷ ss) = pick (is_named name s) s (scenario_named name ss)

abbrev pub is_known : List ℕ → List Scenario → Bool
is_known name [] = false
is_known name (s ∷ ss) = is_named name s || is_known name ss

-- all scenarios but that one
abbrev pub others : List ℕ → List Scenario → List Scenario
others name ss = keep (is_other name) ss

-- ---- SET
-- the form with this value in column j; 0 is no entry
abbrev pub set_entry : ℕ → ℚ → List Term → List Term
set_entry j v [] = put j v []
set_entry j v (e ∷ f) = pick (ltb j e.column) (put j v (e ∷ f)) (pick (eqb j e.column) (put j v f) (e ∷ set_entry j v f))

-- the node that an edit's entry belongs to: the scenario's at the stage of the entry's row, for a cost of its column
abbrev pub stage_of_entry : Program → Entry → ℕ
stage_of_entry p (Cost j) = (column_at p.columns j).stage
stage_of_entry p (Matrix i j) = (row_at p.rows i).stage
stage_of_entry p (Rhs i) = (row_at p.rows i).stage

abbrev pub home_of : Program → List ℕ → Entry → ℕ
home_of p name entry = get_or (scenario_named name p.scenarios).path (stage_of_entry p entry) 0

abbrev pub with_entry : ℕ → ℚ → NodeRow → NodeRow
with_entry j v r = record r { entries = set_entry j v r.entries }

abbrev pub with_ends : Interval → NodeRow → NodeRow
with_ends ends r = record r { low = ends.0; high = ends.1 }

-- a change of row i alone
abbrev pub change_row : ℕ → (NodeRow → NodeRow) → NodeRow → NodeRow
change_row i f r = pick (eqb r.row i) (f r) r

-- the node with the entry set
abbrev pub with_value : Program → Entry → ℚ → Node → Node
with_value p (Cost j) v n = record n { cost = set_entry j v n.cost }
with_value p (Matrix i j) v n = record n { rows = map (change_row i (with_entry j v)) n.rows }
with_value p (Rhs i) v n = record n { rows = map (change_row i (with_ends (right_side (row_at p.rows i) v))) n.rows }

-- a change of node n alone
abbrev pub change_node : ℕ → (Node → Node) → List (Option Node) → List (Option Node)
change_node n f [] = []
change_node zero f (None ∷ nodes) = None ∷ nodes
change_node zero f (Some node ∷ nodes) = Some (f node) ∷ nodes
change_node (suc n) f (place ∷ nodes) = place ∷ change_node n f nodes

-- ---- PROB, DROP and ADD change all other probabilities by one factor
abbrev pub times : ℚ → Scenario → Scenario
times factor s = record s { probability = s.probability *ℚ factor }

abbrev pub divided : ℚ → Scenario → Scenario
divided rest s = record s { probability = s.probability /ℚ rest }

-- what a scenario has besides the one of that name
abbrev pub rest_of : List ℕ → List Scenario → ℚ
rest_of name ss = one_ℚ -ℚ (scenario_named name ss).probability

abbrev pub with_probability : List ℕ → ℚ → ℚ → Scenario → Scenario
with_probability name q factor s = pick (is_named name s) (record s { probability = q }) (times factor s)

-- the nodes, counted from k on, that a scenario passes
abbrev pub reached_nodes : List Scenario → ℕ → List (Option Node) → List (Option Node)
reached_nodes ss k [] = []
reached_nodes ss k (place ∷ nodes) = pick (is_reached k ss) place None ∷ reached_nodes ss (suc k) nodes

-- the path's nodes of the first t stages, and behind them new ones, numbered from k on
abbrev pub new_path : ℕ → ℕ → List ℕ → List ℕ
new_path t k [] = []
new_path zero k (n ∷ path) = k ∷ new_path zero (suc k) path
new_path (suc t) k (n ∷ path) = n ∷ new_path t k path

abbrev pub copy : List (Option Node) → Option ℕ → ℕ → Option Node
copy nodes above n = let node : Node = node_at nodes n in
    Some (record { stage = node.stage; parent = above; cost = node.cost; rows = node.rows })

-- copies of the path's nodes behind the first t stages, each below the one before it
abbrev pub copies : List (Option Node) → ℕ → Option ℕ → ℕ → List ℕ → List (Option Node)
copies nodes t above k [] = []
copies nodes zero above k (n ∷ path) = copy nodes above n ∷ copies nodes zero (Some k) (suc k) path
copies nodes (suc t) above k (n ∷ path) = copies nodes t (Some n) k path

-- the new last scenario
abbrev pub new_scenario : Program → List ℕ → List ℕ → ℚ → ℕ → Scenario
new_scenario p name parent q t =
    record { name = name; probability = q; path = new_path t (length p.nodes) (scenario_named parent p.scenarios).path }

-- ---- the program after an edit
abbrev pub after : Program → Edit → Program
after p (Set name entry v) = record p { nodes = change_node (home_of p name entry) (with_value p entry v) p.nodes }
after p (Prob name q) = record p { scenarios = map (with_probability name q ((one_ℚ -ℚ q) /ℚ rest_of name p.scenarios)) p.scenarios }
after p (Drop name) = record p {
  nodes = reached_nodes (others name p.scenarios) 0 p.nodes;
  scenarios = map (divided (rest_of name p.scenarios)) (others name p.scenarios);
}
after p (Add name parent q t) = record p {
  nodes = p.nodes ++ copies p.nodes t None (length p.nodes) (scenario_named parent p.scenarios).path;
  scenarios = map (times (one_ℚ -ℚ q)) p.scenarios ++ new_scenario p name parent q t ∷ [];
}

-- the program after the first k edits of a list
abbrev pub after_edits : ℕ → Program → List Edit → Program
after_edits k p [] = p
after_edits zero p (e ∷ es) = p
after_edits (suc k) p (e ∷ es) = after_edits k (after p e) es
