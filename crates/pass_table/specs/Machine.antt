-- The machine, as far as beginning, committing, closed and complete go: the plain statement. Nodes are numbers, and a
-- parent's number is below its child's. Here all is a function of nodes and workers, and every question looks at all nodes.
use Rattle.std.specs.Prelude.{◌≡◌, ℕ, ◌+◌, ◌<◌, ◌≤◌, ◌⊎◌, Bool, true, false, cond, eqb, Option, Some, None}

-- a node above another one: its parent, or a node above its parent. The root is node 0.
pub data IsAbove (parent : ℕ → ℕ) (a : ℕ) : ℕ → Type 0 where
  next : (n : ℕ) → 0 < n → parent n ≡ a → IsAbove parent a n
  further : (n : ℕ) → 0 < n → IsAbove parent a (parent n) → IsAbove parent a n

-- a node's last solve in the present run
pub record Last : Type 0 where
  -- the number of the commit that made it; 0 where the node has no last solve
  pub commit : ℕ
  -- whether it has a point
  pub point : Bool
  -- the commit numbers of the ancestors' last solves, as its Begin found them
  pub above : ℕ → ℕ
  -- the numbers of the children's pools, as it read them
  pub below : ℕ → ℕ

-- a solve in flight
pub record Flight : Type 0 where
  pub node : ℕ
  pub run : ℕ
  pub above : ℕ → ℕ
  pub below : ℕ → ℕ

pub record Machine : Type 0 where
  pub live : ℕ → Bool
  pub parent : ℕ → ℕ
  -- the number of the present run
  pub run : ℕ
  -- how many commits there were
  pub commits : ℕ
  pub last : ℕ → Last
  -- the number of each node's pool in the bank of the present run
  pub number : ℕ → ℕ
  -- by worker
  pub flight : ℕ → Option Flight
  -- nodes are begun in rounds, each by rising numbers; these have to wait for the next one
  pub waits : ℕ → Bool

abbrev pub IsLive : Machine → ℕ → Type 0
IsLive m n = m.live n ≡ true

pub record IsChild (m : Machine) (n c : ℕ) : Type 0 where
  pub live : IsLive m c
  pub lower : 0 < c
  pub parent : m.parent c ≡ n

-- the last solve was made with the ancestors' present last solves
pub record IsMade (m : Machine) (n : ℕ) : Type 0 where
  pub solved : 0 < (m.last n).commit
  pub above : (a : ℕ) → IsAbove m.parent a n → (m.last a).commit ≡ (m.last n).above a

-- and it read the children's present pools
pub record IsFresh (m : Machine) (n : ℕ) : Type 0 where
  pub made : IsMade m n
  pub below : (c : ℕ) → IsChild m n c → m.number c ≡ (m.last n).below c

abbrev pub HasPoint : Machine → ℕ → Type 0
HasPoint m n = (m.last n).point ≡ true

-- fresh, with a point
abbrev pub IsOpen : Machine → ℕ → Type 0
IsOpen m n = IsFresh m n × HasPoint m n

-- made with the ancestors' present last solves, and with a point
abbrev pub IsGood : Machine → ℕ → Type 0
IsGood m n = IsMade m n × HasPoint m n

abbrev pub IsClosed : Machine → Type 0
IsClosed m = (n : ℕ) → IsLive m n → IsOpen m n

abbrev pub IsComplete : Machine → Type 0
IsComplete m = (n : ℕ) → IsLive m n → IsGood m n

-- a worker's solve of this node in the present run is in flight
pub record IsFlown (m : Machine) (n worker : ℕ) (f : Flight) : Type 0 where
  pub flight : m.flight worker ≡ Some f
  pub run : f.run ≡ m.run
  pub node : f.node ≡ n

abbrev pub IsFlying : Machine → ℕ → Type 0
IsFlying m n = (worker : ℕ) × ((f : Flight) × IsFlown m n worker f)

-- a node may be begun
pub record MayBegin (m : Machine) (n : ℕ) : Type 0 where
  pub live : IsLive m n
  pub stale : ¬ IsFresh m n
  pub idle : ¬ IsFlying m n
  pub above : (a : ℕ) → IsAbove m.parent a n → IsGood m a

-- and no solve of a node above it is in flight
pub record IsFree (m : Machine) (n : ℕ) : Type 0 where
  pub may : MayBegin m n
  pub above : (a : ℕ) → IsAbove m.parent a n → ¬ IsFlying m a

-- number k comes before number n in rounds for which these wait: it doesn't wait, and n does; or it is less, and both wait or neither
abbrev pub ComesBefore : (ℕ → Bool) → ℕ → ℕ → Type 0
ComesBefore waits k n = ((waits k ≡ false) × (waits n ≡ true)) ⊎ ((waits k ≡ waits n) × (k < n))

-- the node that is begun next: no other free one comes before it, and where it waited no solve is in flight, so that a round begins
pub record IsNext (m : Machine) (n : ℕ) : Type 0 where
  pub may : MayBegin m n
  pub above : (a : ℕ) → IsAbove m.parent a n → ¬ IsFlying m a
  pub round : m.waits n ≡ true → (k : ℕ) → ¬ IsFlying m k
  pub first : (k : ℕ) → ComesBefore m.waits k n → ¬ IsFree m k

-- no node is next: each free one waits for the next round, and a solve is in flight
abbrev pub HasNoNext : Machine → Type 0
HasNoNext m = (n : ℕ) → IsFree m n → (m.waits n ≡ true) × ((k : ℕ) × IsFlying m k)

-- ---- the events
-- a function with one value changed
unfoldable pub with_at : {A : Type 0} → (ℕ → A) → ℕ → A → ℕ → A
with_at f at v n = cond (eqb n at) v (f n)

-- which nodes wait behind a Begin of this one: a node that waited begins a round; it waits for the next one from then on
abbrev pub begun_waits : (ℕ → Bool) → ℕ → ℕ → Bool
begun_waits waits node = with_at (cond (waits node) (λ k. false) waits) node true

-- a Begin: the commit numbers of all present last solves are noted, and the node waits for the next round
abbrev pub begun : Machine → ℕ → ℕ → Machine
begun m worker node = record m {
  flight = with_at m.flight worker (Some (record {
    node = node;
    run = m.run;
    above = λ a. (m.last a).commit;
    below = λ c. 0;
  }));
  waits = begun_waits m.waits node;
}

-- a Read of a child's pool, by a solve in flight
abbrev pub read_by : Flight → ℕ → ℕ → Flight
read_by f child number = record f { below = with_at f.below child number }

abbrev pub read : Machine → ℕ → Flight → ℕ → Machine
read m worker f child = record m { flight = with_at m.flight worker (Some (read_by f child (m.number child))) }

-- a Commit that leaves no last solve: of an earlier run, or where the pivots ended or an operation passed
abbrev pub dropped : Machine → ℕ → Machine
dropped m worker = record m { commits = m.commits + 1; flight = with_at m.flight worker None }

-- a Commit of the present run whose outcome is a point, or that there is none
abbrev pub committed : Machine → ℕ → Flight → Bool → Machine
committed m worker f point = record m {
  commits = m.commits + 1;
  flight = with_at m.flight worker None;
  last = with_at m.last f.node (record { commit = m.commits + 1; point = point; above = f.above; below = f.below });
}

-- a pool's number rises: an offer was Added, a Sweep, or a ground cut; the node above it waits for the next round
abbrev pub raised : Machine → ℕ → Machine
raised m pool = record m {
  number = with_at m.number pool (m.number pool + 1);
  waits = with_at m.waits (m.parent pool) true;
}

-- no last solve
abbrev pub unsolved : Last
unsolved = record { commit = 0; point = false; above = λ a. 0; below = λ c. 0 }

-- a new run: all last solves are forgotten; the pools are those of its bank; a round begins
abbrev pub opened : Machine → (ℕ → ℕ) → Machine
opened m number = record m { run = m.run + 1; last = λ n. unsolved; number = number; waits = λ n. false }

-- ---- what each event keeps
pub record IsValid (m : Machine) : Type 0 where
  pub lower : (n : ℕ) → 0 < n → IsLive m n → m.parent n < n
  pub rooted : (n : ℕ) → 0 < n → IsLive m n → IsLive m (m.parent n)
  -- no later commit was seen, and no later number read
  pub numbered : (n : ℕ) → (m.last n).commit ≤ m.commits
  pub seen : (n a : ℕ) → (m.last n).above a ≤ m.commits
  pub was_read : (n c : ℕ) → (m.last n).below c ≤ m.number c
  pub flown_seen : (n worker : ℕ) (f : Flight) → IsFlown m n worker f → (a : ℕ) → f.above a ≤ m.commits
  pub flown_read : (n worker : ℕ) (f : Flight) → IsFlown m n worker f → (c : ℕ) → f.below c ≤ m.number c
  pub flown_live : (n worker : ℕ) (f : Flight) → IsFlown m n worker f → IsLive m n
  -- a node has one solve of the present run in flight at most
  pub alone : (n v w : ℕ) (f g : Flight) → IsFlown m n v f → IsFlown m n w g → v ≡ w
  -- a node isn't fresh while a solve of it is in flight
  pub flown_stale : (n worker : ℕ) (f : Flight) → IsFlown m n worker f → ¬ IsFresh m n
  pub earlier : (worker : ℕ) (f : Flight) → m.flight worker ≡ Some f → f.run ≤ m.run

-- all above a node have a property that the node hasn't
pub record IsTop (m : Machine) (P : ℕ → Type 0) (n : ℕ) : Type 0 where
  pub live : IsLive m n
  pub fails : ¬ P n
  pub above : (a : ℕ) → IsAbove m.parent a n → P a
