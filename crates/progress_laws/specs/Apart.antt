-- A solve that was begun, where a node apart from its own is solved before it ends.
use Rattle.std.specs.Prelude.{◌≡◌, ℕ, None, Ok}
use Rattle.scen_defs.specs.Program.{Program}
use Rattle.scen_defs.specs.Valid.{IsProgram, Lives}
use Rattle.scen_tree.specs.Trees.{Tree, tree_walk}
use Rattle.node_data.specs.Frames.{frame_of}
use Rattle.pass_table.specs.Machine.{Machine}
use Rattle.crew_turns.specs.Clear.{SharePath}
use Rattle.pass_core.specs.declared.state.State.{State}
use Rattle.pass_core.specs.Tabled.{IsTabledBy}
use Rattle.pass_core.specs.Desks.{IsDesk}
use Rattle.pass_core.specs.Apart.{StaysAsBegun}
use Rattle.pass_core.specs.Turns.{SolvesNode, SolvesOn}

-- what a solve of node k was begun with stays so where a node is solved that is neither node k nor above it or below it, and nothing stops
-- the method then
pub record SolvesApartStay : Type 0 where
  pub turn : (p : Program) (tree : Tree) (old new : State) (m : Machine) (n k : ℕ) → IsProgram p → tree_walk p ≡ Ok tree
      → old.frame ≡ frame_of p → IsTabledBy p old m → Lives p k → SolvesNode p old m n new → new.stop ≡ None → (SharePath m n k → ⊥)
      → StaysAsBegun p old new k
  -- and so at a desk, where a solve in flight ends
  pub end : (p : Program) (tree : Tree) (old new : State) (m flying : Machine) (worker n k : ℕ) → IsProgram p → tree_walk p ≡ Ok tree
      → old.frame ≡ frame_of p → IsDesk p old m → Lives p k → SolvesOn p old m flying worker n new → new.stop ≡ None
      → (SharePath m n k → ⊥) → StaysAsBegun p old new k
