-- The forms of a program that a run solves, and the values that fit a program.
use Rattle.std.specs.Prelude.{ℕ, Bool, true, ◌&&◌, eqb, List, [], ◌∷◌, map, Option, Some, None}
use Rattle.rationals.specs.Rational.{ℚ, zero_ℚ, one_ℚ, neg_ℚ}
use Rattle.rationals.specs.Sparse.{Entry}
use Rattle.rationals.specs.Choices.{pick}
use Rattle.scen_defs.specs.declared.report.Kind.{Kind}
use Rattle.scen_defs.specs.declared.report.Kind.TheVariants.{Feasible, Recession, Cost}
use Rattle.scen_defs.specs.declared.program.Column.{Column}
use Rattle.scen_defs.specs.declared.program.Row.{Row}
use Rattle.scen_defs.specs.declared.program.NodeRow.{NodeRow}
use Rattle.scen_defs.specs.Lists.{passes_at}
use Rattle.scen_defs.specs.Values.{At}
use Rattle.scen_defs.specs.Program.{Node, Program, is_live, node_at}
use Rattle.scen_defs.specs.Flat.{zero_end}

-- all costs 0 in a Feasible run
abbrev pub derived_cost : Kind → List Entry → List Entry
derived_cost Feasible cost = []
derived_cost Recession cost = cost
derived_cost Cost cost = cost

-- each finite end 0 in a Recession run
abbrev pub derived_end : Kind → Option ℚ → Option ℚ
derived_end Feasible end = end
derived_end Recession end = zero_end end
derived_end Cost end = end

-- each finite bound 0 in a Recession run, and an absent one this number
abbrev pub zero_bound : ℚ → Option ℚ → Option ℚ
zero_bound absent None = Some absent
zero_bound absent (Some b) = Some zero_ℚ

abbrev pub derived_bound : Kind → ℚ → Option ℚ → Option ℚ
derived_bound Feasible absent bound = bound
derived_bound Recession absent bound = zero_bound absent bound
derived_bound Cost absent bound = bound

abbrev pub derived_column : Kind → Column → Column
derived_column kind c = record {
  name = c.name;
  stage = c.stage;
  lower = derived_bound kind (neg_ℚ one_ℚ) c.lower;
  upper = derived_bound kind one_ℚ c.upper;
}

abbrev pub derived_row : Kind → NodeRow → NodeRow
derived_row kind r = record { row = r.row; entries = r.entries; low = derived_end kind r.low; high = derived_end kind r.high }

abbrev pub derived_node : Kind → Node → Node
derived_node kind n = record { stage = n.stage; parent = n.parent; cost = derived_cost kind n.cost; rows = map (derived_row kind) n.rows }

abbrev pub derived_place : Kind → Option Node → Option Node
derived_place kind None = None
derived_place kind (Some n) = Some (derived_node kind n)

abbrev pub derived : Kind → Program → Program
derived kind p = record {
  objective = p.objective;
  rhs = p.rhs;
  periods = p.periods;
  columns = map (derived_column kind) p.columns;
  rows = p.rows;
  nodes = map (derived_place kind) p.nodes;
  scenarios = p.scenarios;
}

-- ---- the node is live, and the index is a row, or a column, of its stage
abbrev pub is_row_of : Program → ℕ → ℕ → Bool
is_row_of p s i = passes_at (λ (r : Row). eqb r.stage s) i p.rows

abbrev pub is_column_of : Program → ℕ → ℕ → Bool
is_column_of p s j = passes_at (λ (c : Column). eqb c.stage s) j p.columns

abbrev pub fits_at : Program → Bool → At → Bool
fits_at p of_rows a = passes_at is_live a.node p.nodes
    && pick of_rows (is_row_of p (node_at p.nodes a.node).stage a.index) (is_column_of p (node_at p.nodes a.node).stage a.index)

abbrev pub all_fit : Program → Bool → List At → Bool
all_fit p of_rows [] = true
all_fit p of_rows (a ∷ values) = fits_at p of_rows a && all_fit p of_rows values
