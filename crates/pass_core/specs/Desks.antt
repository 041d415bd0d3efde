-- A desk, at which several workers solve: an idle machine, in which each solve that ended was a whole turn, beside one with the solves in
-- flight, which the table fits.
use Rattle.std.specs.Prelude.{◌≡◌, ℕ, ◌+◌, ◌<◌, ◌^◌, Bool, true, Option, Some, None}
use Rattle.scen_defs.specs.Program.{Program}
use Rattle.node_data.specs.Frames.{children_in}
use Rattle.pass_table.specs.Machine.{Flight, Machine, IsFlown, MayBegin, IsNext, HasNoNext, with_at, begun, dropped}
use Rattle.pass_table.specs.Fits.{Fits}
use Rattle.crew_turns.specs.Turn.{first_flight, read_each, read_by_each, EndsTurn, TakesTurn}
use Rattle.crew_turns.specs.Reads.{read_all}
use Rattle.crew_turns.specs.Besides.{FitsBesides}
use Rattle.pass_core.specs.declared.state.State.{State}
use Rattle.pass_core.specs.Tabled.{IsTabledIn}

-- this is the idle machine of a desk; that with the solves in flight is `fits.flying`
abbrev pub IsDesk : Program → State → Machine → Type 0
IsDesk p s m = IsTabledIn FitsBesides p s m

-- and this is the machine with the solves in flight
pub record HasFlying (p : Program) (s : State) (m flying : Machine) : Type 0 where
  pub desk : IsDesk p s m
  pub is : desk.fits.flying ≡ flying

-- ---- a Begin
-- one more solve is in flight: the worker's, of node n, which has read the pools of the node's children
abbrev pub with_solve : State → Machine → ℕ → ℕ → Machine
with_solve s flying worker n = read_all (begun flying worker n) worker (first_flight flying n) (children_in s.frame n)

-- the worker begins the node that is next; where no solve is in flight it may be begun
pub record BeginsNode (p : Program) (m flying : Machine) (worker n : ℕ) (new : State) : Type 0 where
  pub next : IsNext flying n
  pub may : MayBegin m n
  pub behind : HasFlying p new m (with_solve new flying worker n)

-- it begins this node, or none is next
abbrev pub BeginsOn : Program → Machine → Machine → ℕ → Option ℕ → State → Type 0
BeginsOn p m flying worker (Some n) new = BeginsNode p m flying worker n new
BeginsOn p m flying worker None new = HasNoNext flying × HasFlying p new m flying

-- ---- an end
-- the worker's solve of node n is in flight, and one more commit can be counted
pub record IsBegunBy (p : Program) (s : State) (m : Machine) (worker n : ℕ) : Type 0 where
  pub desk : IsDesk p s m
  pub flight : Flight
  pub flown : IsFlown desk.fits.flying n worker flight
  pub is_begun : s.is_begun ≡ true
  pub room : m.commits + 1 < 2 ^ 64

-- it ends in this way, as a whole turn of the idle machine
pub record EndsOn (Way : Machine → Flight → Bool → Machine → Type 0) (p : Program) (old : State) (m flying : Machine) (worker n : ℕ)
    (new : State) : Type 0 where
  pub machine : Machine
  pub turn : TakesTurn m machine
  pub node : turn.node ≡ n
  pub way : Way (read_each (begun m 0 turn.node) (first_flight m turn.node) turn.children)
      (read_by_each m.number (first_flight m turn.node) turn.children) turn.added machine
  pub desk : IsDesk p new machine
  -- something was done since the start or the last edit
  pub begun : new.is_begun ≡ true
  -- the worker's solve in flight ended so
  pub flight : Flight
  pub flown : IsFlown flying flight.node worker flight
  pub ended : EndsTurn worker flying flight turn.added desk.fits.flying
  -- the other solves stay in flight
  pub flights : (w : ℕ) → desk.fits.flying.flight w ≡ with_at flying.flight worker None w
  -- where there was none, and the worker is the one of turns, the table fits the idle machine
  pub alone : worker ≡ 0 → flying ≡ with_solve old m worker n → Fits new.table machine

-- ---- a solve that isn't wanted any more
-- the worker's solve in flight leaves nothing: no more is changed than the table, which has numbers left for all that are counted
pub record DropsOn (p : Program) (old : State) (m flying : Machine) (worker : ℕ) (new : State) : Type 0 where
  pub few : m.commits < 2 ^ 62
  pub others : new ≡ record old { table = new.table }
  pub behind : HasFlying p new (dropped m 0) (dropped flying worker)
