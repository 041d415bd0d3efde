-- What the points of all nodes cost together, operation by operation.
use Rattle.std.specs.Prelude.{ℕ, ◌+◌, min, List, [], ◌∷◌, Option, Some, None, Result, Ok, get_or}
use Rattle.rationals.specs.Rational.{ℚ, zero_ℚ}
use Rattle.rationals.specs.Sparse.{Entry}
use Rattle.rationals.specs.Forms.{dot_walk}
use Rattle.rationals.specs.Passes.{Operation, add_product_walk, then_walk}
use Rattle.scen_defs.specs.Program.{Node}
use Rattle.found_ends.specs.declared.last.Last.{Last}
use Rattle.found_ends.specs.Lasts.{last_at, last_point}

-- s and, for a node with this total and this point, the total times what the point costs, added as a step; nothing of a node that
-- was dropped or has no point
abbrev pub part : ℚ → Option Node → Option (List Entry) → ℚ → Result ℚ Operation
part total None point s = Ok s
part total (Some node) None s = Ok s
part total (Some node) (Some point) s = then_walk (dot_walk node.cost point) (λ own. add_product_walk s total own)

-- the number of the node at place n: it has 32 bits
abbrev pub node_number : ℕ → ℕ
node_number n = min n 4294967295

-- s and the parts of these nodes, the first of which has place n
abbrev pub node_costs_from : List ℚ → List (Option Last) → ℕ → ℚ → List (Option Node) → Result ℚ Operation
node_costs_from totals lasts n s [] = Ok s
node_costs_from totals lasts n s (place ∷ places) =
    then_walk (part (get_or totals (node_number n) zero_ℚ) place (last_point (last_at lasts n)) s)
    (λ t. node_costs_from totals lasts (n + 1) t places)

-- the cost of the joined points
abbrev pub joined_cost : List (Option Node) → List ℚ → List (Option Last) → Result ℚ Operation
joined_cost nodes totals lasts = node_costs_from totals lasts 0 zero_ℚ nodes
