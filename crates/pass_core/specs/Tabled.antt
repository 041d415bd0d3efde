-- The table of a state: the machine of the program that it fits, and what a step does to it.
use Rattle.std.specs.Prelude.{◌≡◌, ℕ, ◌+◌, ◌<◌, ◌≤◌, ◌^◌, Bool, true, false, None, List, length, slice_index, IfSome}
use Rattle.rationals.specs.Choices.{pick}
use Rattle.scen_defs.specs.Lists.{passes_at}
use Rattle.scen_defs.specs.Program.{Program, is_live}
use Rattle.cut_defs.specs.Stored.{source_of}
use Rattle.cut_banks.specs.declared.banks.Banks.{Banks}
use Rattle.cut_banks.specs.Banks.{pools_of}
use Rattle.cut_banks.specs.Pools.{numbers_of}
use Rattle.node_lp.specs.declared.solved.Solved.{Solved}
use Rattle.pass_table.specs.declared.table.Reading.{Reading}
use Rattle.pass_table.specs.declared.table.Table.{Table}
use Rattle.pass_table.specs.Machine.{Flight, Machine, IsClosed, IsFlown, MayBegin, IsNext, IsValid, begun, dropped, committed, raised}
use Rattle.pass_table.specs.Machine.{opened}
use Rattle.pass_table.specs.Fits.{Fits, IsStart, HasRead}
use Rattle.pass_table.specs.Readings.{AreWithin}
use Rattle.crew_turns.specs.Turn.{IsIdle, first_flight, read_each, read_by_each, EndsTurn, TakesTurn}
use Rattle.crew_turns.specs.Crew.{CrewRuns}
use Rattle.pass_core.specs.declared.state.State.{State}
use Rattle.pass_core.specs.Explained.{cut_given}

-- ---- the machine of a state
-- the number of a node's pool in the bank of the present run
abbrev pub pool_number : State → ℕ → ℕ
pool_number s n = slice_index (numbers_of (pools_of s.kind s.banks)) n

-- there are pools for so many nodes
pub record HasPools (nodes : ℕ) (b : Banks) : Type 0 where
  pub plain : nodes ≤ length b.plain
  pub cone : nodes ≤ length b.cone

-- the machine has the program's live nodes, the parents of the frame, and the numbers of the pools of the present run
pub record IsMachineOf (p : Program) (s : State) (m : Machine) : Type 0 where
  pub live : (n : ℕ) → m.live n ≡ passes_at is_live n p.nodes
  pub parent : m.parent ≡ slice_index s.frame.parents
  pub number : (n : ℕ) → m.number n ≡ pool_number s n

-- the table is the one before any event
abbrev pub IsUnused : State → Type 0
IsUnused s = (m : Machine) → IsStart s.frame.parents m → Fits s.table m

-- the table answers in this way for this machine, in which no solve is in flight
pub record IsTabledIn (Answers : Table → Machine → Type 0) (p : Program) (s : State) (m : Machine) : Type 0 where
  pub valid : IsValid m
  pub fits : Answers s.table m
  pub idle : IsIdle m
  pub machine : IsMachineOf p s m
  pub pools : HasPools (length s.frame.parents) s.banks
  pub unused : s.is_begun ≡ false → IsUnused s

-- the table fits this machine, in which no solve is in flight
abbrev pub IsTabledBy : Program → State → Machine → Type 0
IsTabledBy p s m = IsTabledIn Fits p s m

-- the table fits a machine of the program, in which no solve is in flight
abbrev pub IsTabled : Program → State → Type 0
IsTabled p s = (m : Machine) × IsTabledBy p s m

-- ---- what a step does
-- one more commit and one more run can be counted
abbrev pub HasRoom : Machine → Type 0
HasRoom m = (m.commits + 1 < 2 ^ 64) × (m.run + 1 < 2 ^ 64)

-- a step, and whether it is told that something was done: nothing may be begun, or there is no room for it; the run is closed and the
-- next one doesn't open; it opens; or the worker takes a turn, at the node that is next
pub data TakesStep (m : Machine) : Bool → Machine → Type 0 where
  rests : (HasRoom m → (n : ℕ) → MayBegin m n → ⊥) → TakesStep m false m
  waits : IsClosed m → TakesStep m true m
  opens : IsClosed m → (number : ℕ → ℕ) → TakesStep m true (opened m number)
  turns : (k : Machine) (turn : TakesTurn m k) → IsNext m turn.node → TakesStep m true k

-- the machine took such a step, and the table fits it there
pub record StepsTo (p : Program) (m : Machine) (told : Bool) (s : State) : Type 0 where
  pub machine : Machine
  pub step : TakesStep m told machine
  pub tabled : IsTabledBy p s machine

-- steps, one behind the other; or, from a machine without solves in flight to one without, what several workers do: each begins the node
-- that is next then, and its solve ends beside those of the others
pub data TakesSteps (m : Machine) : Machine → Type 0 where
  stays : TakesSteps m m
  goes : (told : Bool) (j k : Machine) → TakesSteps m j → TakesStep j told k → TakesSteps m k
  works : (j k : Machine) → TakesSteps m j → CrewRuns j k → IsIdle k → TakesSteps m k

-- the machine took some steps, and the table fits it behind them
pub record GoesBySteps (p : Program) (m : Machine) (s : State) : Type 0 where
  pub machine : Machine
  pub steps : TakesSteps m machine
  pub tabled : IsTabledBy p s machine

-- ---- between a Begin and the end of the solve
-- the frame, the run and how many pools there are stay
pub record KeepsRun (old new : State) : Type 0 where
  pub frame : new.frame ≡ old.frame
  pub kind : new.kind ≡ old.kind
  pub is_begun : new.is_begun ≡ old.is_begun
  pub plain : length new.banks.plain ≡ length old.banks.plain
  pub cone : length new.banks.cone ≡ length old.banks.cone

-- and the table
pub record KeepsTable (old new : State) : Type 0 where
  pub run : KeepsRun old new
  pub table : new.table ≡ old.table

-- and the pools
pub record KeepsPools (old new : State) : Type 0 where
  pub kept : KeepsTable old new
  pub number : (k : ℕ) → pool_number new k ≡ pool_number old k

-- the number of the pool of node n rises by 1, where that is told, and no other number changes
pub record RaisesPool (told : Bool) (n : ℕ) (old new : State) : Type 0 where
  pub kept : KeepsTable old new
  pub risen : told ≡ true → pool_number new n ≡ pool_number old n + 1
  pub others : (k : ℕ) → (told ≡ true → k ≡ n → ⊥) → pool_number new k ≡ pool_number old k

-- the cut that a solve gives, where it gives one, is about this node
abbrev pub IsAbout : ℕ → Solved → Type 0
IsAbout n all = IfSome (cut_given all) (λ c. (source_of c).node ≡ n)

-- the worker's solve in flight leaves no last solve
abbrev pub Drops : ℕ → Table → Table → Type 0
Drops worker old new = (m : Machine) (f : Flight) → IsValid m → Fits old m → IsFlown m f.node worker f → m.commits + 1 < 2 ^ 64
    → Fits new (dropped m worker)

-- a solve of the machine's worker is in flight, and read this of its children's pools
pub record IsSolving (s : State) (worker : ℕ) (m : Machine) (f : Flight) (readings : List Reading) : Type 0 where
  pub valid : IsValid m
  pub fits : Fits s.table m
  pub flown : IsFlown m f.node worker f
  pub read : HasRead m f (numbers_of (pools_of s.kind s.banks)) readings
  pub within : AreWithin readings (length (numbers_of (pools_of s.kind s.banks)))
  pub room : m.commits + 1 < 2 ^ 64

-- its commit, and the rise of its node's pool, where that is told
abbrev pub committed_by : ℕ → Machine → Flight → Bool → Bool → Machine
committed_by worker m f point told = pick told (raised (committed m worker f point) f.node) (committed m worker f point)

-- the worker's solve ends, and in this way, and the table fits the machine behind it
pub record EndsSolve (worker : ℕ) (Way : Machine → Flight → Bool → Machine → Type 0) (old new : State) (m : Machine) (f : Flight)
    : Type 0 where
  pub machine : Machine
  pub added : Bool
  pub ends : EndsTurn worker m f added machine
  pub way : Way m f added machine
  pub fits : Fits new.table machine
  pub number : (n : ℕ) → machine.number n ≡ pool_number new n
  pub run : KeepsRun old new

-- the machine took a turn at node n, in which the node's solve ended in this way, and the table answers so for the machine behind it
pub record EndsBegunIn (Answers : Table → Machine → Type 0) (Way : Machine → Flight → Bool → Machine → Type 0) (p : Program) (m : Machine)
    (n : ℕ) (s : State) : Type 0 where
  pub machine : Machine
  pub turn : TakesTurn m machine
  pub node : turn.node ≡ n
  pub way : Way (read_each (begun m 0 turn.node) (first_flight m turn.node) turn.children)
      (read_by_each m.number (first_flight m turn.node) turn.children) turn.added machine
  pub tabled : IsTabledIn Answers p s machine

-- the table fits it there
abbrev pub EndsBegun : (Machine → Flight → Bool → Machine → Type 0) → Program → Machine → ℕ → State → Type 0
EndsBegun Way p m n s = EndsBegunIn Fits Way p m n s

-- ---- the opening of a run
-- the next run opens, or doesn't, and then something stops the method
pub data Opens (p : Program) (m : Machine) (s : State) : Type 0 where
  not_opened : (s.stop ≡ None → ⊥) → IsTabledBy p s m → Opens p m s
  is_opened : (number : ℕ → ℕ) → IsTabledBy p s (opened m number) → Opens p m s
