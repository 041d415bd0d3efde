-- What holds of the machine's events, and of a table that fits.
use Rattle.std.specs.Prelude.{◌≡◌, ◌<◌, ℕ, Bool, Some, None, List, length, slice_index_or}
use Rattle.pass_table.specs.declared.table.Table.{Table}
use Rattle.pass_table.specs.Machine.{IsAbove, Flight, Machine, IsLive, IsChild, IsComplete, IsFlown, MayBegin, IsValid, begun, read}
use Rattle.pass_table.specs.Machine.{dropped, committed, raised, opened}
use Rattle.pass_table.specs.Walks.{IsRising}
use Rattle.pass_table.specs.Fits.{Fits, IsHeld, IsStart}

-- a machine is valid before any event, where the parents of its live nodes are live; and each event keeps it valid
pub record KeepValid : Type 0 where
  pub start : (parents : List ℕ) (m : Machine) → IsRising parents → IsStart parents m
      → ((n : ℕ) → 0 < n → IsLive m n → IsLive m (m.parent n)) → IsValid m
  pub begin : (m : Machine) (worker n : ℕ) → IsValid m → m.flight worker ≡ None → MayBegin m n → IsValid (begun m worker n)
  pub read : (m : Machine) (worker : ℕ) (f : Flight) (c : ℕ) → IsValid m → m.flight worker ≡ Some f
      → IsValid (read m worker f c)
  pub commit : (m : Machine) (worker : ℕ) (f : Flight) (point : Bool) → IsValid m → IsFlown m f.node worker f
      → IsValid (committed m worker f point)
  pub drop : (m : Machine) (worker : ℕ) → IsValid m → IsValid (dropped m worker)
  pub raise : (m : Machine) (pool : ℕ) → IsValid m → IsValid (raised m pool)
  pub reopen : (m : Machine) (number : ℕ → ℕ) → IsValid m → IsValid (opened m number)

-- a Read changes nothing that a table keeps
abbrev pub ReadsFit : Type 0
ReadsFit = (t : Table) (m : Machine) (worker : ℕ) (f : Flight) (c : ℕ) → m.flight worker ≡ Some f
    → Fits t m → Fits t (read m worker f c)

-- a commit that leaves the run complete is one of a node without children
abbrev pub CompleteAtLeaves : Type 0
CompleteAtLeaves = (m : Machine) → IsValid m → (worker : ℕ) (f : Flight) (point : Bool) → IsFlown m f.node worker f → (c : ℕ)
    → IsChild m f.node c → IsComplete (committed m worker f point) → ⊥

-- what the calls of a table ask for holds where the machine has it
pub record CallsMet : Type 0 where
  pub held : (t : Table) (m : Machine) → Fits t m → (worker : ℕ) (f : Flight) → m.flight worker ≡ Some f → IsLive m f.node
      → IsHeld t.flights.items worker (length t.parents.items)
  pub idle : (t : Table) (m : Machine) → Fits t m → (worker : ℕ) → m.flight worker ≡ None
      → slice_index_or t.flights.items worker None ≡ None

-- the node's last solve was made before the present one of a node above it
abbrev pub IsOutdated : Machine → ℕ → ℕ → Type 0
IsOutdated m n c = (m.last c).above n < (m.last n).commit

-- A commit outdates all that stands below its node; what is outdated stays so in this run but by a commit of its own; and
-- where a node is outdated the run isn't complete. So from a commit of a node to the next complete state of its run each
-- node below it is committed.
pub record Outdate : Type 0 where
  pub by_commit : (m : Machine) → IsValid m → (worker : ℕ) (f : Flight) (point : Bool) → IsFlown m f.node worker f → (c : ℕ)
      → IsLive m c → IsAbove m.parent f.node c
      → IsOutdated (committed m worker f point) f.node c
  pub stays : (m : Machine) → IsValid m → (worker : ℕ) (f : Flight) (point : Bool) (n c : ℕ)
      → (c ≡ f.node → ⊥) → IsOutdated m n c
      → IsOutdated (committed m worker f point) n c
  pub others : (m : Machine) (worker k : ℕ) (f : Flight) (n c : ℕ) → IsOutdated m n c
      → IsOutdated (begun m worker k) n c × IsOutdated (read m worker f k) n c × IsOutdated (dropped m worker) n c
      × IsOutdated (raised m k) n c
  pub incomplete : (m : Machine) (n c : ℕ) → IsLive m c → IsAbove m.parent n c → IsOutdated m n c → IsComplete m → ⊥
