-- Limits of a program that is edited.
use Rattle.std.specs.Prelude.{ℕ, ◌+◌, Bool, ◌||◌, ltb, List, [], ◌∷◌, length, sum_by, Option, Some, None}
use Rattle.scen_defs.specs.declared.program.NodeRow.{NodeRow}
use Rattle.scen_defs.specs.Program.{Node, Program}
use Rattle.edit_defs.specs.declared.counts.Counts.{Counts}

abbrev pub no_counts : Counts
no_counts = record { nodes = 0; entries = 0; rows = 0; costs = 0 }

abbrev pub plus : Counts → Counts → Counts
plus a b = record { nodes = a.nodes + b.nodes; entries = a.entries + b.entries; rows = a.rows + b.rows; costs = a.costs + b.costs }

-- what a node has
abbrev pub row_entries : NodeRow → ℕ
row_entries r = length r.entries

abbrev pub node_counts : Node → Counts
node_counts n = record { nodes = 1; entries = sum_by row_entries n.rows; rows = length n.rows; costs = length n.cost }

abbrev pub place_counts : Option Node → Counts
place_counts None = no_counts
place_counts (Some node) = node_counts node

-- what all nodes have
abbrev pub counts : List (Option Node) → Counts
counts [] = no_counts
counts (place ∷ nodes) = plus (place_counts place) (counts nodes)

-- more entries, rows or costs than there may be
abbrev pub are_many : Counts → Bool
are_many c = ltb 10000000 c.entries || (ltb 10000000 c.rows || ltb 10000000 c.costs)

-- more scenarios, live nodes, entries, rows or costs than there may be
abbrev pub is_above : ℕ → Counts → Bool
is_above scenarios c = ltb 10000 scenarios || (ltb 20000 c.nodes || are_many c)

abbrev pub is_above_limits : Program → Bool
is_above_limits p = is_above (length p.scenarios) (counts p.nodes)
