-- How long events go on while no pool's number rises and no run is opened: work isn't spent without end on the same cuts.
use Rattle.std.specs.Prelude.{◌≡◌, ℕ, zero, suc, ◌+◌, ◌<◌, ◌≤◌, Bool, true, false, cond, Some, None}
use Rattle.pass_table.specs.Machine.{IsAbove, Flight, Machine, IsLive, IsOpen, IsChild, IsFlown, MayBegin, IsValid, with_at}
use Rattle.pass_table.specs.Machine.{begun, read, committed, dropped}

-- how many numbers below a bound have the flag
unfoldable pub count_below : (ℕ → Bool) → ℕ → ℕ
count_below flags zero = 0
count_below flags (suc n) = count_below flags n + cond (flags n) 1 0

-- a stretch of events from a machine to another one, without a rise of a pool's number and without a new run; beside that one
-- stand the pools that a worker's solve has still to read, where it was begun on the stretch, and whether there was a stop
pub data Stretch (workers : ℕ) (start : Machine) : Machine → (ℕ → ℕ → Bool) → Bool → Type 0 where
  -- no event yet
  empty : Stretch workers start start (λ worker c. false) false
  -- a Begin, where there was no stop, by a worker without a solve in flight, of a node that may be begun and below open ones alone:
  -- it has all to read
  begins : (m : Machine) (unread : ℕ → ℕ → Bool) (worker n : ℕ) → Stretch workers start m unread false → worker < workers
      → m.flight worker ≡ None → MayBegin m n → ((a : ℕ) → IsAbove m.parent a n → IsOpen m a)
      → Stretch workers start (begun m worker n) (with_at unread worker (λ c. true)) false
  -- a Read
  reads : (m : Machine) (unread : ℕ → ℕ → Bool) (stopped : Bool) (worker : ℕ) (f : Flight) (c : ℕ)
      → Stretch workers start m unread stopped → m.flight worker ≡ Some f
      → Stretch workers start (read m worker f c) (with_at unread worker (with_at (unread worker) c false)) stopped
  -- a Commit of the present run, with a point or without one, by a solve that has no child's pool left to read
  commits : (m : Machine) (unread : ℕ → ℕ → Bool) (stopped : Bool) (worker : ℕ) (f : Flight) (point : Bool)
      → Stretch workers start m unread stopped → IsFlown m f.node worker f
      → ((c : ℕ) → IsChild m f.node c → unread worker c ≡ false)
      → Stretch workers start (committed m worker f point) unread stopped
  -- a Commit of an earlier run
  drops : (m : Machine) (unread : ℕ → ℕ → Bool) (stopped : Bool) (worker : ℕ) (f : Flight)
      → Stretch workers start m unread stopped → m.flight worker ≡ Some f → ¬ (f.run ≡ m.run)
      → Stretch workers start (dropped m worker) unread stopped
  -- a Commit of the present run that leaves no last solve: a stop
  stops : (m : Machine) (unread : ℕ → ℕ → Bool) (stopped : Bool) (worker : ℕ) (f : Flight)
      → Stretch workers start m unread stopped → IsFlown m f.node worker f
      → Stretch workers start (dropped m worker) unread true

-- all live nodes, and all workers with a solve in flight, have numbers below these
pub record IsBounded (m : Machine) (nodes workers : ℕ) : Type 0 where
  pub live : (n : ℕ) → IsLive m n → n < nodes
  pub flown : (worker : ℕ) (f : Flight) → m.flight worker ≡ Some f → worker < workers

-- a stretch has at most as many commits as there are live nodes and workers; and as there are live nodes, where no solve was
-- in flight at its start
pub record WorkAddsCuts : Type 0 where
  pub any : (m k : Machine) (nodes workers : ℕ) (unread : ℕ → ℕ → Bool) (stopped : Bool) → IsValid m
      → IsBounded m nodes workers → Stretch workers m k unread stopped
      → k.commits ≤ m.commits + (count_below m.live nodes + workers)
  pub from_idle : (m k : Machine) (nodes workers : ℕ) (unread : ℕ → ℕ → Bool) (stopped : Bool) → IsValid m
      → IsBounded m nodes workers → ((worker : ℕ) → m.flight worker ≡ None) → Stretch workers m k unread stopped
      → k.commits ≤ m.commits + count_below m.live nodes
