-- Programs with one scenario: a line of nodes, one for each stage.
use Rattle.std.specs.Prelude.{ℕ, zero, suc, List, [], ◌∷◌, length, Option, Some, None}
use Rattle.rationals.specs.Rational.{one_ℚ}
use Rattle.scen_defs.specs.Program.{Node, Scenario, Program}

-- the node above that of a stage
abbrev pub stage_before : ℕ → Option ℕ
stage_before zero = None
stage_before (suc s) = Some s

-- so many nodes, from number n on
abbrev pub line_path : ℕ → ℕ → List ℕ
line_path n zero = []
line_path n (suc count) = n ∷ line_path (suc n) count

-- a scenario of this name through so many nodes, which is certain
abbrev pub certain : List ℕ → ℕ → Scenario
certain name count = record { name = name; probability = one_ℚ; path = line_path 0 count }

-- the program with these nodes alone, and one scenario of this name through all of them
abbrev pub in_line : Program → List ℕ → List (Option Node) → Program
in_line p name nodes = record {
  objective = p.objective;
  rhs = p.rhs;
  periods = p.periods;
  columns = p.columns;
  rows = p.rows;
  nodes = nodes;
  scenarios = certain name (length nodes) ∷ [];
}
