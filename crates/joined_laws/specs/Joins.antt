-- The points of all nodes together are a policy of the program.
use Rattle.std.specs.Prelude.{◌≡◌, ℕ, List, Option, Ok}
use Rattle.rationals.specs.Rational.{ℚ, ◌≤ℚ◌}
use Rattle.scen_defs.specs.declared.report.Kind.{Kind}
use Rattle.scen_defs.specs.Values.{at}
use Rattle.scen_defs.specs.Program.{Program, view_of}
use Rattle.scen_defs.specs.Flat.{Feasible, cost}
use Rattle.scen_defs.specs.Valid.{IsProgram}
use Rattle.scen_tree.specs.Trees.{Tree, tree_walk}
use Rattle.edit_defs.specs.Data.{view_in}
use Rattle.found_ends.specs.declared.last.Last.{Last}
use Rattle.found_ends.specs.Lasts.{joined_points}
use Rattle.found_ends.specs.Costs.{joined_cost}
use Rattle.joined_laws.specs.Points.{AllMeet, AllCover}

-- points that meet the rows and bounds of their nodes, each at the values above it, are feasible together
abbrev pub PoliciesJoin : Type 0
PoliciesJoin = (kind : Kind) (p : Program) (lasts : List (Option Last)) → IsProgram p → AllMeet kind p lasts
    → Feasible (view_in kind p) (at (joined_points lasts))

-- and cost at most the root's number, where numbers cover what they cost
abbrev pub ValuesCover : Type 0
ValuesCover = (kind : Kind) (p : Program) (lasts : List (Option Last)) (value_of : ℕ → ℚ) → IsProgram p → AllMeet kind p lasts
    → AllCover kind p lasts value_of → cost (view_in kind p) (at (joined_points lasts)) ≤ℚ value_of 0

-- the walk over their costs by node, where none of its operations passes, ends in the program's cost at them
abbrev pub JoinedCosts : Type 0
JoinedCosts = (kind : Kind) (p : Program) (lasts : List (Option Last)) (tree : Tree) (c : ℚ) → IsProgram p → AllMeet kind p lasts
    → tree_walk p ≡ Ok tree → joined_cost p.nodes tree.chances.totals lasts ≡ Ok c → c ≡ cost (view_of p) (at (joined_points lasts))
