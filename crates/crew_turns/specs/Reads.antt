-- What solves in flight have read stays so until they end.
use Rattle.std.specs.Prelude.{ℕ, ◌<◌, Bool, List, [], ◌∷◌}
use Rattle.pass_table.specs.Machine.{Flight, Machine, IsFlown, IsFlying, IsValid, begun, read_by, read, dropped}
use Rattle.pass_table.specs.Machine.{committed, raised, opened}
use Rattle.crew_turns.specs.Turn.{AreChildren, first_flight}
use Rattle.crew_turns.specs.Clear.{IsFair}
use Rattle.crew_turns.specs.Alike.{ReadsArePresent}

-- the machine behind a worker's Reads of these pools, one behind the other
abbrev pub read_all : Machine → ℕ → Flight → List ℕ → Machine
read_all m worker f [] = m
read_all m worker f (c ∷ cs) = read_all (read m worker f c) worker (read_by f c (m.number c)) cs

-- each solve of the present run in flight has read the numbers that its children's pools have
abbrev pub AllReadsArePresent : Machine → Type 0
AllReadsArePresent m = (n worker : ℕ) (f : Flight) → IsFlown m n worker f → ReadsArePresent m f

pub record ReadsStay : Type 0 where
  -- a Begin with the Reads of all children, at once
  pub begin : (m : Machine) (worker n : ℕ) (children : List ℕ) → AllReadsArePresent m → AreChildren m n children
      → AllReadsArePresent (read_all (begun m worker n) worker (first_flight m n) children)
  pub commit : (m : Machine) (worker : ℕ) (f : Flight) (point : Bool) → AllReadsArePresent m
      → AllReadsArePresent (committed m worker f point)
  pub drop : (m : Machine) (worker : ℕ) → AllReadsArePresent m → AllReadsArePresent (dropped m worker)
  -- a pool changes only where no solve of the node above it is in flight
  pub raise : (m : Machine) (pool : ℕ) → ¬ IsFlying m (m.parent pool) → AllReadsArePresent m → AllReadsArePresent (raised m pool)
  pub reopen : (m : Machine) (number : ℕ → ℕ) → IsValid m → AllReadsArePresent (opened m number)
  -- that is so behind the commit of a solve of the pool's node
  pub free : (m : Machine) (worker : ℕ) (f : Flight) (point : Bool) → IsFair m → IsFlown m f.node worker f → 0 < f.node
      → ¬ IsFlying (committed m worker f point) (m.parent f.node)
