-- A table that fits a machine with solves in flight, beside a machine without any that knows the same: turns are of the second one.
use Rattle.std.specs.Prelude.{◌≡◌, ◌↔◌, ℕ, Bool, true, None, Some, List}
use Rattle.pass_table.specs.declared.table.Table.{Table}
use Rattle.pass_table.specs.Machine.{Flight, Machine, IsClosed, IsComplete, IsFlown, MayBegin, IsValid, begun}
use Rattle.pass_table.specs.Fits.{Fits, AnswersBegin}
use Rattle.crew_turns.specs.Turn.{IsIdle, AreChildren, first_flight, EndsTurn, TakesTurn}
use Rattle.crew_turns.specs.Clear.{IsFair}
use Rattle.crew_turns.specs.Alike.{AreAlike}
use Rattle.crew_turns.specs.Reads.{read_all, AllReadsArePresent}
use Rattle.crew_turns.specs.Rounds.{IsSheltered}

-- the table fits a machine that knows the same as this one, and may have solves of nodes apart in flight, whose reads are present
pub record FitsBesides (t : Table) (m : Machine) : Type 0 where
  pub flying : Machine
  pub fits : Fits t flying
  pub valid : IsValid flying
  pub fair : IsFair flying
  pub reads : AllReadsArePresent flying
  pub sheltered : IsSheltered flying
  pub alike : AreAlike flying m

-- a worker's Begin with the Reads of all children, at once: the node may be begun where no solve is in flight, and nothing that is known
-- changes
pub record BeginsBesides (old : Machine) (worker n : ℕ) (children : List ℕ) (new : Table) (m : Machine) : Type 0 where
  pub may : MayBegin m n
  pub fits : FitsBesides new m
  pub flying : fits.flying ≡ read_all (begun old worker n) worker (first_flight old n) children

-- the end of a solve in flight: a whole turn at its node, where no solve is in flight
pub record EndsAsTurn (m : Machine) (n : ℕ) (new : Table) : Type 0 where
  pub machine : Machine
  pub turn : TakesTurn m machine
  pub node : turn.node ≡ n
  pub fits : FitsBesides new machine

pub record TablesFitBesides : Type 0 where
  -- a table that fits a machine without solves in flight
  pub start : (t : Table) (m : Machine) → IsValid m → IsIdle m → Fits t m → FitsBesides t m
  -- what a table tells is so of the machine without solves in flight
  pub closed : (t : Table) (m : Machine) → FitsBesides t m → (t.closed ≡ true) ↔ IsClosed m
  pub complete : (t : Table) (m : Machine) → FitsBesides t m → (t.complete ≡ true) ↔ IsComplete m
  pub commits : (t : Table) (m : Machine) → FitsBesides t m → t.commits ≡ m.commits
  pub run : (t : Table) (m : Machine) → FitsBesides t m → t.run ≡ m.run
  pub begin : (old new : Table) (m : Machine) (worker n : ℕ) (children : List ℕ) (h : FitsBesides old m) → IsIdle m
      → h.flying.flight worker ≡ None → AnswersBegin h.flying worker (Some n) new → AreChildren m n children
      → BeginsBesides h.flying worker n children new m
  pub end : (old new : Table) (m k : Machine) (worker : ℕ) (f : Flight) (children : List ℕ) (added : Bool) (h : FitsBesides old m)
      → IsValid m → IsIdle m → IsFlown h.flying f.node worker f → AreChildren m f.node children → EndsTurn worker h.flying f added k
      → Fits new k → EndsAsTurn m f.node new
