-- How many turns of the one worker come behind one another without a new cut.
use Rattle.std.specs.Prelude.{◌≡◌, ℕ, ◌+◌, ◌*◌, ◌<◌, ◌≤◌, Bool, List}
use Rattle.pass_table.specs.Machine.{Machine, IsLive, IsNext, IsValid, begun, committed}
use Rattle.pass_table.specs.Progress.{count_below}
use Rattle.crew_turns.specs.Turn.{IsIdle, AreChildren, first_flight, read_by_each, read_each}

-- a turn that leaves a last solve of its node and adds no cut
pub record TakesVainTurn (m k : Machine) : Type 0 where
  pub node : ℕ
  pub next : IsNext m node
  pub children : List ℕ
  pub are_children : AreChildren m node children
  pub point : Bool
  pub is : k ≡ committed (read_each (begun m 0 node) (first_flight m node) children) 0
      (read_by_each m.number (first_flight m node) children) point

-- so many of them, one behind the other
pub data VainTurns (start : Machine) : ℕ → Machine → Type 0 where
  none : VainTurns start 0 start
  more : (turns : ℕ) (m k : Machine) → VainTurns start turns m → TakesVainTurn m k → VainTurns start (turns + 1) k

-- they are at most twice as many as there are live nodes, of which each has a turn in the round that is under way and one in the next:
-- behind so many the run is closed, no node may be begun, or a turn adds a cut or leaves no last solve
abbrev pub TurnsAddCuts : Type 0
TurnsAddCuts = (m k : Machine) (turns nodes : ℕ) → IsValid m → IsIdle m → ((n : ℕ) → IsLive m n → n < nodes)
    → VainTurns m turns k → turns ≤ 2 * count_below m.live nodes
