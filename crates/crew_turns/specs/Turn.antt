-- A turn of one worker: it begins a node that may be begun, reads the pools of the node's children, and commits.
use Rattle.std.specs.Prelude.{◌≡◌, ◌↔◌, ℕ, ◌<◌, Bool, true, false, None, List, [], ◌∷◌}
use Rattle.std.specs.List.{Contains}
use Rattle.pass_table.specs.Machine.{Flight, Machine, IsChild, MayBegin, IsValid, begun, read_by, read, dropped, committed, raised}

-- no solve is in flight
abbrev pub IsIdle : Machine → Type 0
IsIdle m = (worker : ℕ) → m.flight worker ≡ None

-- these are a node's children
abbrev pub AreChildren : Machine → ℕ → List ℕ → Type 0
AreChildren m n children = (c : ℕ) → IsChild m n c ↔ Contains children c

-- the solve that a Begin of a node sets in flight
abbrev pub first_flight : Machine → ℕ → Flight
first_flight m n = record { node = n; run = m.run; above = λ a. (m.last a).commit; below = λ c. 0 }

-- the worker's solve behind Reads of these pools, one behind the other
abbrev pub read_by_each : (ℕ → ℕ) → Flight → List ℕ → Flight
read_by_each number f [] = f
read_by_each number f (c ∷ cs) = read_by_each number (read_by f c (number c)) cs

-- and the machine behind them
abbrev pub read_each : Machine → Flight → List ℕ → Machine
read_each m f [] = m
read_each m f (c ∷ cs) = read_each (read m 0 f c) (read_by f c (m.number c)) cs

-- how the worker's solve ends, and whether the number of its node's pool rises: it leaves no last solve; it is its node's last solve
-- from now on; or it is, and its cut was added
pub data EndsTurn (worker : ℕ) (m : Machine) (f : Flight) : Bool → Machine → Type 0 where
  drops : EndsTurn worker m f false (dropped m worker)
  commits : (point : Bool) → EndsTurn worker m f false (committed m worker f point)
  adds : (point : Bool) → 0 < f.node → EndsTurn worker m f true (raised (committed m worker f point) f.node)

-- a whole turn
pub record TakesTurn (m k : Machine) : Type 0 where
  pub node : ℕ
  pub may : MayBegin m node
  pub children : List ℕ
  pub are_children : AreChildren m node children
  -- whether its cut was added
  pub added : Bool
  pub ends : EndsTurn 0 (read_each (begun m 0 node) (first_flight m node) children)
      (read_by_each m.number (first_flight m node) children) added k

-- a turn keeps a machine valid, and leaves no solve in flight
abbrev pub TurnsKeepValid : Type 0
TurnsKeepValid = (m k : Machine) → IsValid m → IsIdle m → TakesTurn m k → IsValid k × IsIdle k
