-- Rounds of several workers keep solves in flight apart, though only the nodes above a node are looked at.
use Rattle.std.specs.Prelude.{◌≡◌, ℕ, ◌<◌, Bool, true, None}
use Rattle.pass_table.specs.Machine.{IsAbove, Flight, Machine, IsLive, IsFlown, IsFlying, MayBegin, IsNext, IsValid, begun, dropped}
use Rattle.pass_table.specs.Machine.{committed, raised}
use Rattle.crew_turns.specs.Clear.{IsClear, IsFair}

-- a node above a solve in flight that may be begun waits for the next round
abbrev pub IsSheltered : Machine → Type 0
IsSheltered m = (d a : ℕ) → IsFlying m d → IsAbove m.parent a d → MayBegin m a → m.waits a ≡ true

-- so the node that is next is clear; and the events keep it so
pub record RoundsKeepClear : Type 0 where
  pub clear : (m : Machine) (n : ℕ) → IsSheltered m → IsNext m n → IsClear m n
  pub start : (m : Machine) → ((n : ℕ) → ¬ IsFlying m n) → IsSheltered m
  pub begin : (m : Machine) (worker n : ℕ) → IsValid m → m.flight worker ≡ None → IsSheltered m → IsNext m n
      → IsSheltered (begun m worker n)
  pub commit : (m : Machine) (worker : ℕ) (f : Flight) (point : Bool) → IsValid m → IsFair m → IsFlown m f.node worker f
      → IsSheltered m → IsSheltered (committed m worker f point)
  pub drop : (m : Machine) (worker : ℕ) (f : Flight) → IsFair m → IsFlown m f.node worker f → IsSheltered m
      → IsSheltered (dropped m worker)
  pub raise : (m : Machine) (pool : ℕ) → IsValid m → 0 < pool → IsLive m pool → IsSheltered m → IsSheltered (raised m pool)
