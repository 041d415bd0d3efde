-- Forms by node as numbers at nodes, in rising order of node and then of index.
use Rattle.std.specs.Prelude.{ℕ, ◌+◌, Bool, ◌&&◌, ltb, List, [], ◌∷◌, ◌++◌, Option, Some, None, Result}
use Rattle.rationals.specs.Rational.{ℚ, one_ℚ}
use Rattle.rationals.specs.Sparse.{Entry}
use Rattle.rationals.specs.Passes.{Operation, then_value}
use Rattle.rationals.specs.Choices.{pick}
use Rattle.scen_defs.specs.Values.{At}
use Rattle.cut_defs.specs.Stored.{Stored}
use Rattle.dual_assemble.specs.Walks.{flat_from}

-- nodes, rows and columns have 32 bits
abbrev pub is_place : ℕ → ℕ → Bool
is_place n i = ltb n 4294967296 && ltb i 4294967296

-- a number at node n and index i; where one of them doesn't fit, nothing
abbrev pub number_at : ℕ → ℕ → ℚ → List At
number_at n i q = pick (is_place n i) (record { node = n; index = i; value = q } ∷ []) []

-- the numbers of a form at node n
abbrev pub node_values : ℕ → List Entry → List At
node_values n [] = []
node_values n (e ∷ f) = number_at n e.column e.value ++ node_values n f

-- the numbers of forms by node, from node n on
abbrev pub numbers_by_node : ℕ → List (List Entry) → List At
numbers_by_node n [] = []
numbers_by_node n (f ∷ fs) = node_values n f ++ numbers_by_node (n + 1) fs

-- the flat dual of a cut as numbers at nodes
abbrev pub assembled : Stored → Result (List At) Operation
assembled cut = then_value (numbers_by_node 0) (flat_from [] one_ℚ cut)

-- a node without a point has no numbers
abbrev pub point_entries : Option (List Entry) → List Entry
point_entries None = []
point_entries (Some f) = f
