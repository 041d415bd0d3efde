-- What several workers do to the machine, and the run of turns of an idle machine for which it stands.
use Rattle.std.specs.Prelude.{◌≡◌, ℕ, ◌<◌, Bool, None, Some, List}
use Rattle.pass_table.specs.Machine.{Flight, Machine, IsLive, IsClosed, IsFlown, IsFlying, MayBegin, IsNext, IsValid, begun, dropped}
use Rattle.pass_table.specs.Machine.{committed, raised, opened}
use Rattle.crew_turns.specs.Turn.{IsIdle, AreChildren, first_flight, read_by_each, read_each, EndsTurn}
use Rattle.crew_turns.specs.Alike.{AreAlike}
use Rattle.crew_turns.specs.Reads.{read_all}

-- what workers do, from an idle machine on
pub data CrewRuns (start : Machine) : Machine → Type 0 where
  nothing : CrewRuns start start
  -- a worker without a solve begins the node that is next, and reads the pools of its children, at once
  begins : (m : Machine) (worker n : ℕ) (children : List ℕ) → CrewRuns start m → m.flight worker ≡ None → IsNext m n
      → AreChildren m n children → CrewRuns start (read_all (begun m worker n) worker (first_flight m n) children)
  -- a solve of the present run is committed, with a point or without; its cut isn't added, or it is
  commits : (m : Machine) (worker : ℕ) (f : Flight) (children : List ℕ) (point : Bool) → CrewRuns start m
      → IsFlown m f.node worker f → AreChildren m f.node children → CrewRuns start (committed m worker f point)
  adds : (m : Machine) (worker : ℕ) (f : Flight) (children : List ℕ) (point : Bool) → CrewRuns start m
      → IsFlown m f.node worker f → AreChildren m f.node children → 0 < f.node
      → CrewRuns start (raised (committed m worker f point) f.node)
  -- one leaves no last solve
  drops : (m : Machine) (worker : ℕ) (f : Flight) → CrewRuns start m → IsFlown m f.node worker f → CrewRuns start (dropped m worker)
  -- one leaves none, and its cut is added all the same, as where nothing is left to find
  drops_adding : (m : Machine) (worker : ℕ) (f : Flight) → CrewRuns start m → IsFlown m f.node worker f → 0 < f.node
      → CrewRuns start (raised (dropped m worker) f.node)
  -- one of an earlier run ends, and its cut isn't added; or it is, where no solve of the node above is in flight
  comes_late : (m : Machine) (worker : ℕ) (f : Flight) → CrewRuns start m → m.flight worker ≡ Some f → ¬ (f.run ≡ m.run)
      → CrewRuns start (dropped m worker)
  adds_late : (m : Machine) (worker : ℕ) (f : Flight) → CrewRuns start m → m.flight worker ≡ Some f → ¬ (f.run ≡ m.run)
      → 0 < f.node → IsLive m f.node → ¬ IsFlying m (m.parent f.node) → CrewRuns start (raised (dropped m worker) f.node)
  -- the next run opens behind a closed one
  opens : (m : Machine) (number : ℕ → ℕ) → CrewRuns start m → IsClosed m → CrewRuns start (opened m number)

-- whole turns of an idle machine, late cuts and openings
pub data TurnRuns (start : Machine) : Machine → Type 0 where
  nothing : TurnRuns start start
  turns : (k j : Machine) (n : ℕ) (children : List ℕ) (added : Bool) → TurnRuns start k → MayBegin k n → AreChildren k n children
      → EndsTurn 0 (read_each (begun k 0 n) (first_flight k n) children) (read_by_each k.number (first_flight k n) children) added j
      → TurnRuns start j
  drops : (k : Machine) → TurnRuns start k → TurnRuns start (dropped k 0)
  adds_late : (k : Machine) (pool : ℕ) → TurnRuns start k → 0 < pool → IsLive k pool → TurnRuns start (raised (dropped k 0) pool)
  opens : (k : Machine) (number : ℕ → ℕ) → TurnRuns start k → IsClosed k → TurnRuns start (opened k number)

-- an idle machine comes so to what is known
pub record StandsForTurns (start m : Machine) : Type 0 where
  pub idle : Machine
  pub runs : TurnRuns start idle
  pub is_idle : IsIdle idle
  pub alike : AreAlike m idle

-- what several workers leave is one run of turns
abbrev pub CrewsTakeTurns : Type 0
CrewsTakeTurns = (start m : Machine) → IsValid start → IsIdle start → CrewRuns start m → StandsForTurns start m
