-- The tree of a program.
use Rattle.std.specs.Prelude.{ℕ, suc, List, [], ◌∷◌, ◌++◌, Bool, true, false, Option, Some, None, Result, Ok, Err, map, nat_eq}
use Rattle.rationals.specs.Rational.{ℚ}
use Rattle.rationals.specs.Passes.{Operation, then_walk}
use Rattle.rationals.specs.Choices.{pick}
use Rattle.scen_defs.specs.Lists.{places}
use Rattle.scen_defs.specs.Program.{Node, Program}
use Rattle.scen_tree.specs.declared.position.Position.{Position}
use Rattle.scen_tree.specs.declared.position.Position.TheVariants.{Dropped, Root, Below}
use Rattle.scen_tree.specs.declared.children.Children.{Children}
use Rattle.scen_tree.specs.Chances.{Chances, chances_walk}

abbrev pub position_by : Option ℕ → Position
position_by None = Root
position_by (Some parent) = Below parent

-- where a node stands
abbrev pub position_of : Option Node → Position
position_of None = Dropped
position_of (Some node) = position_by node.parent

abbrev pub is_below : ℕ → Position → Bool
is_below n Dropped = false
is_below n Root = false
is_below n (Below parent) = nat_eq parent n

-- the nodes whose parent is n, rising
abbrev pub children_of : List Position → ℕ → List ℕ
children_of positions n = places (is_below n) 0 positions

-- the children of so many nodes, the first of which has the number n
abbrev pub children_from : List Position → ℕ → List Position → List (List ℕ)
children_from all n [] = []
children_from all n (position ∷ positions) = children_of all n ∷ children_from all (suc n) positions

abbrev pub lists : List Children → List (List ℕ)
lists [] = []
lists (one ∷ all) = one.nodes.items ∷ lists all

-- an empty list for each
abbrev pub empty_lists : List Position → List (List ℕ)
empty_lists [] = []
empty_lists (position ∷ positions) = [] ∷ empty_lists positions

-- the children, of which the first are those of node k, with node n, which stands there
abbrev pub with_child : ℕ → Position → ℕ → List (List ℕ) → List (List ℕ)
with_child n position k [] = []
with_child n position k (nodes ∷ all) = pick (is_below k position) (nodes ++ n ∷ []) nodes ∷ with_child n position (suc k) all

-- the children, the total and the share of each node, by its number
pub record Tree : Type 0 where
  pub children : List (List ℕ)
  pub chances : Chances

abbrev pub tree_by : List Position → Chances → Tree
tree_by positions chances = record { children = children_from positions 0 positions; chances = chances }

-- the tree of a program, or the first operation of its totals and shares that passes
abbrev pub tree_walk : Program → Result Tree Operation
tree_walk p = then_walk (chances_walk (map position_of p.nodes) p.scenarios) (λ chances. Ok (tree_by (map position_of p.nodes) chances))
