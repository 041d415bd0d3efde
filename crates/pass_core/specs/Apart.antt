-- A solve that was begun, where a node apart from its own is solved before it ends.
use Rattle.std.specs.Prelude.{◌≡◌, ℕ}
use Rattle.scen_defs.specs.Program.{Program}
use Rattle.cut_banks.specs.Banks.{pools_of}
use Rattle.cut_banks.specs.Pools.{numbers_read}
use Rattle.node_lp.specs.declared.task.Task.{Task}
use Rattle.node_data.specs.Frames.{children_in}
use Rattle.pass_core.specs.declared.state.State.{State}
use Rattle.pass_core.specs.Turns.{IsTaskOf}

-- what a solve of node k was begun with stays so: its program is still that of the node, and the pools of the node's children still have
-- the numbers that it read
pub record StaysAsBegun (p : Program) (old new : State) (k : ℕ) : Type 0 where
  pub task : (t : Task) → IsTaskOf p old k t → IsTaskOf p new k t
  pub readings : numbers_read (pools_of new.kind new.banks) (children_in new.frame k)
      ≡ numbers_read (pools_of old.kind old.banks) (children_in old.frame k)
