-- The program with the columns TAIL_H and TAIL_U and the row TAIL_R.
use Rattle.std.specs.Prelude.{ℕ, zero, suc, ◌-◌, eqb, Bool, List, [], ◌∷◌, ◌++◌, length, ltb, Option, Some, None}
use Rattle.rationals.specs.Rational.{ℚ, zero_ℚ, one_ℚ, ◌*ℚ◌, ◌-ℚ◌, ◌/ℚ◌}
use Rattle.rationals.specs.Choices.{pick}
use Rattle.rationals.specs.Sparse.{Entry}
use Rattle.rationals.specs.Forms.{put}
use Rattle.smps_words.specs.declared.row_kind.RowKind.TheVariants.{Greater}
use Rattle.scen_defs.specs.declared.program.Column.{Column}
use Rattle.scen_defs.specs.declared.program.Row.{Row}
use Rattle.scen_defs.specs.declared.program.NodeRow.{NodeRow}
use Rattle.scen_defs.specs.Program.{Node, Program, is_live, node_at}
use Rattle.scen_defs.specs.Lists.{passes_at}
use Rattle.edit_defs.specs.Limits.{counts}
use Rattle.tail_risk.specs.TailNames.{h_name, u_name, r_name}
use Rattle.tail_risk.specs.TailRow.{h_column, u_column, tail_row}
use Rattle.tail_risk.specs.declared.rates.Rates.{Rates}

abbrev pub last_stage : Program → ℕ
last_stage p = length p.periods - 1

-- ---- columns and rows
-- a column of the first stage without bounds
abbrev pub h_added : Column
h_added = record { name = h_name; stage = 0; lower = None; upper = None }

-- one of the last stage that is at least 0
abbrev pub u_added : Program → Column
u_added p = record { name = u_name; stage = last_stage p; lower = Some zero_ℚ; upper = None }

-- a row of the last stage
abbrev pub r_added : Program → Row
r_added p = record { name = r_name; stage = last_stage p; kind = Greater; range = None }

-- ---- nodes
-- a form times a number
abbrev pub scaled_form : ℚ → List Entry → List Entry
scaled_form k [] = []
scaled_form k (e ∷ f) = put e.column (e.value *ℚ k) (scaled_form k f)

-- the cost of TAIL_H at a node of the first stage, and of TAIL_U at one of the last
abbrev pub added_costs : Program → Rates → ℕ → List Entry
added_costs p rates stage =
    pick (eqb 0 stage) (put (h_column p) rates.h []) [] ++ pick (eqb (last_stage p) stage) (put (u_column p) rates.u []) []

-- the row TAIL_R at a node of the last stage
abbrev pub added_row : Program → ℕ → ℕ → List NodeRow
added_row p n stage = pick (eqb (last_stage p) stage) (tail_row p n ∷ []) []

-- node n with these costs in place of its own, and what is added
abbrev pub node_with : Program → Rates → ℕ → List Entry → Node
node_with p rates n cost = record {
  stage = (node_at p.nodes n).stage;
  parent = (node_at p.nodes n).parent;
  cost = cost ++ added_costs p rates (node_at p.nodes n).stage;
  rows = (node_at p.nodes n).rows ++ added_row p n (node_at p.nodes n).stage;
}

abbrev pub tail_place : Program → Rates → ℕ → Option Node
tail_place p rates n = pick (passes_at is_live n p.nodes) (Some (node_with p rates n (scaled_form rates.old (node_at p.nodes n).cost))) None

-- so many nodes, from number n on
abbrev pub tail_nodes : Program → Rates → ℕ → ℕ → List (Option Node)
tail_nodes p rates n zero = []
tail_nodes p rates n (suc count) = tail_place p rates n ∷ tail_nodes p rates (suc n) count

-- ---- the program
-- a program with these nodes, and the columns and the row that are added
abbrev pub with_nodes : Program → List (Option Node) → Program
with_nodes p nodes = record {
  objective = p.objective;
  rhs = p.rhs;
  periods = p.periods;
  columns = p.columns ++ h_added ∷ u_added p ∷ [];
  rows = p.rows ++ r_added p ∷ [];
  nodes = nodes;
  scenarios = p.scenarios;
}

-- by level and weight: old costs are multiplied by `1 - weight`, TAIL_H costs the weight, and TAIL_U the weight divided by `1 - level`
abbrev pub rates_of : ℚ → ℚ → Rates
rates_of level weight = record { old = one_ℚ -ℚ weight; h = weight; u = weight /ℚ (one_ℚ -ℚ level) }

abbrev pub tail_of : Program → ℚ → ℚ → Program
tail_of p level weight = with_nodes p (tail_nodes p (rates_of level weight) 0 (length p.nodes))

-- the entries over all nodes, whatever the costs are
abbrev pub tail_entries : Program → Rates → ℕ
tail_entries p rates = (counts (tail_nodes p rates 0 (length p.nodes))).entries

-- it has more than 10,000,000 of them
abbrev pub is_too_large : Program → ℚ → ℚ → Bool
is_too_large p level weight = ltb 10000000 (tail_entries p (rates_of level weight))
