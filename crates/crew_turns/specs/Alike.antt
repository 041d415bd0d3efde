-- A machine without solves in flight that knows the same as one with some.
use Rattle.std.specs.Prelude.{◌≡◌, ℕ, Bool, List}
use Rattle.pass_table.specs.Machine.{IsAbove, Flight, Machine, IsChild, IsFlown, MayBegin, IsValid, begun, committed}
use Rattle.crew_turns.specs.Turn.{IsIdle, AreChildren, first_flight, read_by_each, read_each}
use Rattle.crew_turns.specs.Clear.{IsFair}

-- the same nodes, runs, commits and numbers of pools, and last solves of the same commits, with the same points, that saw the same commits
-- above and read the same numbers below
pub record AreAlike (m k : Machine) : Type 0 where
  pub live : k.live ≡ m.live
  pub parent : k.parent ≡ m.parent
  pub run : k.run ≡ m.run
  pub commits : k.commits ≡ m.commits
  pub number : k.number ≡ m.number
  pub commit : (n : ℕ) → (k.last n).commit ≡ (m.last n).commit
  pub point : (n : ℕ) → (k.last n).point ≡ (m.last n).point
  pub above : (n a : ℕ) → IsAbove m.parent a n → (k.last n).above a ≡ (m.last n).above a
  pub below : (n c : ℕ) → IsChild m n c → (k.last n).below c ≡ (m.last n).below c

-- the pools of the children have the numbers that the solve read
abbrev pub ReadsArePresent : Machine → Flight → Type 0
ReadsArePresent m f = (c : ℕ) → IsChild m f.node c → f.below c ≡ m.number c

-- what an idle machine is behind a whole turn at a node
abbrev pub turned_at : Machine → ℕ → List ℕ → Bool → Machine
turned_at k n children point = committed (read_each (begun k 0 n) (first_flight k n) children) 0
    (read_by_each k.number (first_flight k n) children) point

pub record IsATurn (m k : Machine) (worker : ℕ) (f : Flight) (children : List ℕ) (point : Bool) : Type 0 where
  -- the node may be begun where no solve is in flight
  pub may : MayBegin k f.node
  -- and the machine behind the commit knows the same as the idle one behind its turn
  pub alike : AreAlike (committed m worker f point) (turned_at k f.node children point)

abbrev pub CommitsAreTurns : Type 0
CommitsAreTurns = (m k : Machine) (worker : ℕ) (f : Flight) (children : List ℕ) (point : Bool) → IsValid m → IsFair m → IsValid k → IsIdle k
    → AreAlike m k → IsFlown m f.node worker f → ReadsArePresent m f → AreChildren k f.node children → IsATurn m k worker f children point
