-- What ties a table to the machine. The lists of the table answer for the machine's functions; four sets hold every free node,
-- every node that may be begun, every uppermost node that isn't open, and every uppermost node that isn't good, and others besides.
use Rattle.std.specs.Prelude.{◌≡◌, ℕ, ◌<◌, ◌≤◌, ◌⊎◌, ◌↔◌, Bool, true, false, Option, Some, None, List, length}
use Rattle.std.specs.Prelude.{slice_index, slice_index_or}
use Rattle.pass_table.specs.declared.table.Solve.{Solve}
use Rattle.pass_table.specs.declared.table.Underway.{Underway}
use Rattle.pass_table.specs.declared.table.Reading.{Reading}
use Rattle.pass_table.specs.declared.table.Table.{Table}
use Rattle.pass_table.specs.Machine.{Flight, Machine, IsLive, IsChild, IsOpen, IsGood, IsClosed, IsComplete, IsFlying, MayBegin}
use Rattle.pass_table.specs.Machine.{IsFree, IsNext, HasNoNext, IsTop, begun, unsolved}
use Rattle.pass_table.specs.Walks.{solve_at}
use Rattle.pass_table.specs.Readings.{reading_at, IsRead}

-- a set of live nodes that has each one with the property
pub record Covers (m : Machine) (flags : List Bool) (P : ℕ → Type 0) : Type 0 where
  pub all : (n : ℕ) → P n → slice_index_or flags n false ≡ true
  pub live : (n : ℕ) → slice_index_or flags n false ≡ true → IsLive m n

-- commit numbers that were seen when there were so many commits: each is the present one still, or the present one is later
pub record IsNoted (m : Machine) (above : ℕ → ℕ) (since : ℕ) : Type 0 where
  pub early : since ≤ m.commits
  pub seen : (a : ℕ) → above a ≤ since
  pub still : (a : ℕ) → ((m.last a).commit ≡ above a) ⊎ (since < (m.last a).commit)

pub record IsFlight (m : Machine) (u : Underway) (f : Flight) : Type 0 where
  pub node : u.node ≡ f.node
  pub run : u.run ≡ f.run
  -- of a flight of the present run alone
  pub noted : f.run ≡ m.run → IsNoted m f.above u.since

abbrev pub FlightFits : Machine → Option Underway → Option Flight → Type 0
FlightFits m None None = Unit {0}
FlightFits m None (Some f) = ⊥
FlightFits m (Some u) None = ⊥
FlightFits m (Some u) (Some f) = IsFlight m u f

pub record Lists : Type 0 where
  pub parents : List ℕ
  pub solves : List Solve
  pub flying : List Bool
  pub flights : List (Option Underway)
  pub candidates : List Bool
  pub met : List Bool
  pub waits : List Bool
  pub unopen : List Bool
  pub ungood : List Bool
  pub commits : ℕ
  pub run : ℕ

-- the children's pools still have the numbers that the last solve read
abbrev pub AreRead : Machine → ℕ → Type 0
AreRead m n = (c : ℕ) → IsChild m n c → m.number c ≡ (m.last n).below c

pub record Agrees (l : Lists) (m : Machine) : Type 0 where
  pub parent : m.parent ≡ slice_index l.parents
  pub places : (n : ℕ) → IsLive m n → n < length l.parents
  pub root : IsLive m 0
  pub commit : (n : ℕ) → IsLive m n → (solve_at l.solves n).commit ≡ (m.last n).commit
  pub point : (n : ℕ) → IsLive m n → (solve_at l.solves n).point ≡ (m.last n).point
  pub noted : (n : ℕ) → IsLive m n → IsNoted m (m.last n).above (solve_at l.solves n).since
  pub low : (n : ℕ) → IsLive m n → 0 < (m.last n).commit → ((solve_at l.solves n).low ≡ true) ↔ AreRead m n
  pub flights : (worker : ℕ) → FlightFits m (slice_index_or l.flights worker None) (m.flight worker)
  pub flying : (n : ℕ) → IsLive m n → (slice_index_or l.flying n false ≡ true) ↔ IsFlying m n
  pub candidates : Covers m l.candidates (IsFree m)
  -- where a solve leaves no last solve, nodes below it are free again
  pub met : Covers m l.met (MayBegin m)
  pub waits : (n : ℕ) → slice_index_or l.waits n false ≡ m.waits n
  pub unopen : Covers m l.unopen (IsTop m (IsOpen m))
  pub ungood : Covers m l.ungood (IsTop m (IsGood m))
  pub commits : l.commits ≡ m.commits
  pub run : l.run ≡ m.run

abbrev pub lists_of : Table → Lists
lists_of t = record {
  parents = t.parents.items;
  solves = t.solves.items;
  flying = t.flying.items;
  flights = t.flights.items;
  candidates = t.candidates.flags;
  met = t.candidates.met;
  waits = t.candidates.waits;
  unopen = t.unopen;
  ungood = t.ungood;
  commits = t.commits;
  run = t.run;
}

-- and the two answers are right
pub record Fits (t : Table) (m : Machine) : Type 0 where
  pub agrees : Agrees (lists_of t) m
  pub closed : (t.closed ≡ true) ↔ IsClosed m
  pub complete : (t.complete ≡ true) ↔ IsComplete m

-- a worker has a solve of this run in flight
abbrev pub IsUnderWay : List (Option Underway) → ℕ → Type 0
IsUnderWay flights run = (worker : ℕ) × ((u : Underway) × ((slice_index_or flights worker None ≡ Some u) × (u.run ≡ run)))

-- a worker has a solve in flight, of a node with a place
abbrev pub IsHeld : List (Option Underway) → ℕ → ℕ → Type 0
IsHeld flights worker places = (u : Underway) × ((slice_index_or flights worker None ≡ Some u) × (u.node < places))

-- the machine before any event
pub record IsStart (parents : List ℕ) (m : Machine) : Type 0 where
  pub parent : m.parent ≡ slice_index parents
  pub places : (n : ℕ) → IsLive m n → n < length parents
  pub root : IsLive m 0
  pub run : m.run ≡ 1
  pub waits : (n : ℕ) → m.waits n ≡ false
  pub commits : m.commits ≡ 0
  pub last : (n : ℕ) → m.last n ≡ unsolved
  pub flight : (worker : ℕ) → m.flight worker ≡ None

-- ---- what a Commit is given
-- the readings are those of the solve, one of each child, and the numbers are the present ones
pub record HasRead (m : Machine) (f : Flight) (numbers : List ℕ) (readings : List Reading) : Type 0 where
  pub whole : (c : ℕ) → IsChild m f.node c → IsRead readings c
  pub child : (i : ℕ) → i < length readings → IsChild m f.node (reading_at readings i).child
  pub read : (i : ℕ) → i < length readings → (reading_at readings i).number ≡ f.below (reading_at readings i).child
  pub present : (i : ℕ) → i < length readings
      → slice_index numbers (reading_at readings i).child ≡ m.number (reading_at readings i).child

-- what a Begin answers and leaves: the node that is begun next, or that none is
abbrev pub AnswersBegin : Machine → ℕ → Option ℕ → Table → Type 0
AnswersBegin m worker None t = HasNoNext m × Fits t m
AnswersBegin m worker (Some n) t = IsNext m n × Fits t (begun m worker n)
