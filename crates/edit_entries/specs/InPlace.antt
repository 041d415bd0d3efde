-- Changes in place.
use Rattle.std.specs.Prelude.{ℕ, ◌≤◌, eqb, List, [], ◌∷◌, map}
use Rattle.rationals.specs.Rational.{ℚ}
use Rattle.rationals.specs.Sparse.{Entry}
use Rattle.rationals.specs.Choices.{pick}
use Rattle.scen_defs.specs.Program.{Node}
use Rattle.smps_build.specs.Ends.{Interval}
use Rattle.edit_defs.specs.After.{change_row, with_ends, with_entry, set_entry}

-- the node with these ends of its row i
abbrev pub with_row_ends : ℕ → Interval → Node → Node
with_row_ends i ends n = record n { rows = map (change_row i (with_ends ends)) n.rows }

-- the node with this entry of its row i
abbrev pub with_row_entry : ℕ → ℕ → ℚ → Node → Node
with_row_entry i j v n = record n { rows = map (change_row i (with_entry j v)) n.rows }

-- the node with this cost of column j
abbrev pub with_cost : ℕ → ℚ → Node → Node
with_cost j v n = record n { cost = set_entry j v n.cost }

-- the terms begin at the column, or behind it
abbrev pub Starts : ℕ → List Entry → Type 0
Starts c [] = Unit {0}
Starts c (e ∷ f) = c ≤ e.column

-- the terms behind the column, where they begin at it or behind it
abbrev pub behind : ℕ → List Entry → List Entry
behind c [] = []
behind c (e ∷ f) = pick (eqb c e.column) f (e ∷ f)
