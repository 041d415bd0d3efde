-- The places of last solves and of pools, where one of them changes.
use Rattle.std.proofs.Common.{◌≡◌, ℕ, zero, suc, ◌+◌, ◌<◌, ◌⊎◌, inl, List, [], ◌∷◌, Option, Some, get_or, length, length-set, slice_get, refl, arith}
use Rattle.cut_defs.specs.Stored.{Stored}
use Rattle.cut_pool.specs.Held.{Held}
use Rattle.cut_banks.specs.Pools.{numbers_of}
use Rattle.found_ends.specs.declared.last.Last.{Last}
use Rattle.found_ends.specs.Lasts.{last_at, with_last}
use Rattle.answer_laws.specs.Offers.{KeepsCuts}
use Rattle.progress_laws.proofs.Standing.{HasMember}

-- ---- last solves
pub last_set : (lasts : List (Option Last)) (n : ℕ) (x : Option Last) → n < length lasts → last_at (with_last lasts n x) n ≡ x
last_set [] n x less = absurd (omega (arith, less))
last_set (l ∷ ls) zero x less = refl
last_set (l ∷ ls) (suc n) x less = last_set ls n x (omega (arith, less))

pub last_long : (lasts : List (Option Last)) (n : ℕ) (x : Option Last) → length (with_last lasts n x) ≡ length lasts
last_long lasts n x = simp length-set

-- ---- pools
-- the pool of node n alone changes, and then its number rises; and it goes on having what it has
pub record PoolsGo (old new : List Held) (n : ℕ) : Type 0 where
  pub others : (j : ℕ) → (j ≡ n → ⊥) → slice_get new j ≡ slice_get old j
  pub own : (slice_get new n ≡ slice_get old n) ⊎ (get_or (numbers_of new) n 0 ≡ get_or (numbers_of old) n 0 + 1)
  pub grows : (j : ℕ) (p : Held) → slice_get old j ≡ Some p → KeepsCuts p new j

pub pools_stay : (pools : List Held) (n : ℕ) → PoolsGo pools pools n
pools_stay pools n = record { others = λ j ne. refl; own = inl refl; grows = λ j p e. record { pool = p; stands = e; kept = λ c i. i } }

pub member_goes : (old new : List Held) (n : ℕ) → PoolsGo old new n → (j : ℕ) (P : Stored → Type 0) → HasMember old j P → HasMember new j P
member_goes old new n go j P h = let k : KeepsCuts h.pool new j = go.grows j h.pool h.there in
    record { pool = k.pool; there = k.stands; cut = h.cut; member = k.kept h.cut h.member; holds = h.holds }
