-- Which nodes have solves in flight side by side: none above another one.
use Rattle.std.specs.Prelude.{◌≡◌, ◌⊎◌, ℕ, Bool, None, Some}
use Rattle.pass_table.specs.Machine.{IsAbove, Flight, Machine, IsGood, IsFlown, IsFlying, MayBegin, IsValid, begun}
use Rattle.pass_table.specs.Machine.{read, dropped, committed}
use Rattle.pass_table.specs.Machine.{raised, opened}

-- one of two nodes stands above the other one, or they are the same
abbrev pub SharePath : Machine → ℕ → ℕ → Type 0
SharePath m n k = (n ≡ k) ⊎ (IsAbove m.parent n k ⊎ IsAbove m.parent k n)

-- no solve of the present run is in flight at a node, above it or below it
abbrev pub IsClear : Machine → ℕ → Type 0
IsClear m n = (k : ℕ) → SharePath m n k → ¬ IsFlying m k

-- The solves of the present run in flight are of nodes apart. Each saw the present last solves above it, all of which are good.
pub record IsFair (m : Machine) : Type 0 where
  pub apart : (n k v w : ℕ) (f g : Flight) → IsFlown m n v f → IsFlown m k w g → SharePath m n k → v ≡ w
  pub above : (n w : ℕ) (f : Flight) → IsFlown m n w f → (a : ℕ) → IsAbove m.parent a n → f.above a ≡ (m.last a).commit
  pub good : (n w : ℕ) (f : Flight) → IsFlown m n w f → (a : ℕ) → IsAbove m.parent a n → IsGood m a

pub record EventsKeepFair : Type 0 where
  pub idle : (m : Machine) → ((worker : ℕ) → m.flight worker ≡ None) → IsFair m
  pub begin : (m : Machine) (worker n : ℕ) → IsValid m → IsFair m → m.flight worker ≡ None → MayBegin m n → IsClear m n
      → IsFair (begun m worker n)
  pub reads : (m : Machine) (worker : ℕ) (f : Flight) (c : ℕ) → IsFair m → m.flight worker ≡ Some f → IsFair (read m worker f c)
  pub commit : (m : Machine) (worker : ℕ) (f : Flight) (point : Bool) → IsValid m → IsFair m → IsFlown m f.node worker f
      → IsFair (committed m worker f point)
  pub drop : (m : Machine) (worker : ℕ) → IsFair m → IsFair (dropped m worker)
  pub raise : (m : Machine) (pool : ℕ) → IsFair m → IsFair (raised m pool)
  pub reopen : (m : Machine) (number : ℕ → ℕ) → IsValid m → IsFair (opened m number)
