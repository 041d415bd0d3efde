-- What an offer leaves of pools: a cut that holds as much as the offered one, and every cut that there was.
use Rattle.std.specs.Prelude.{◌≡◌, ℕ, List, Some, slice_get}
use Rattle.std.specs.List.{Contains}
use Rattle.rationals.specs.Rational.{zero_ℚ, ◌≤ℚ◌}
use Rattle.rationals.specs.Sparse.{Entry}
use Rattle.cut_defs.specs.declared.kinds.CutKind.TheVariants.{Ray}
use Rattle.cut_defs.specs.Stored.{Stored, source_of}
use Rattle.cut_pool.specs.declared.offer.Offer.{Offer}
use Rattle.cut_pool.specs.declared.offer.Offer.TheVariants.{Added, NotNeeded, Stale, Passed}
use Rattle.cut_pool.specs.Held.{Held}
use Rattle.cut_pool.specs.Pool.{offer_of, after_offer, with_cut}
use Rattle.cut_banks.specs.Pools.{may_take, pool_if, with_pool}
use Rattle.node_lp.specs.Answers.{value_at_trial}

-- the pools behind an offer of the cut at the trial: the pool of its node has answered, where it may take the cut
abbrev pub offered_pools : Stored → List Entry → List Held → List Held
offered_pools cut trial pools = with_pool (may_take cut) (λ p. after_offer p cut (offer_of p cut trial)) (source_of cut).node pools

-- the cut was compared with those of the pool: it was added, or it wasn't needed
abbrev pub IsCompared : Offer → Type 0
IsCompared Added = Unit {0}
IsCompared (NotNeeded best) = Unit {0}
IsCompared (Stale node part seen known) = ⊥
IsCompared (Passed o) = ⊥

-- at the trial a cut of the pool, of the kind of the offered one, is at least as great; or that one is a Ray cut of at most 0
pub data HoldsAsMuch (cut : Stored) (trial : List Entry) (p : Held) : Type 0 where
  by_cut : (c : Stored) → Contains p.cuts c → (source_of c).kind ≡ (source_of cut).kind
      → value_at_trial cut trial ≤ℚ value_at_trial c trial → HoldsAsMuch cut trial p
  by_zero : (source_of cut).kind ≡ Ray → value_at_trial cut trial ≤ℚ zero_ℚ → HoldsAsMuch cut trial p

-- at place k stands what stood there, or the pool of the cut's node with the cut last and the next number
pub data StaysOrGrows (cut : Stored) (old new : List Held) (k : ℕ) : Type 0 where
  stays : slice_get new k ≡ slice_get old k → StaysOrGrows cut old new k
  grows : (p : Held) → k ≡ (source_of cut).node → slice_get old k ≡ Some p → slice_get new k ≡ Some (with_cut p cut)
      → StaysOrGrows cut old new k

-- each cut of the pool at place k is one of the pool that stands there afterwards
pub record KeepsCuts (p : Held) (new : List Held) (k : ℕ) : Type 0 where
  pub pool : Held
  pub stands : slice_get new k ≡ Some pool
  pub kept : (c : Stored) → Contains p.cuts c → Contains pool.cuts c

-- behind a compared offer the pool of the cut's node holds as much as the cut
pub record HoldsOffer (cut : Stored) (trial : List Entry) (new : List Held) : Type 0 where
  pub pool : Held
  pub stands : slice_get new (source_of cut).node ≡ Some pool
  pub holds : HoldsAsMuch cut trial pool

pub record OffersHold : Type 0 where
  pub holds : (cut : Stored) (trial : List Entry) (pools : List Held) (p : Held)
      → pool_if (may_take cut) (source_of cut).node pools ≡ Some p → IsCompared (offer_of p cut trial)
      → HoldsOffer cut trial (offered_pools cut trial pools)
  -- whatever the answer, at most the pool of the cut's node changes, by the cut
  pub places : (cut : Stored) (trial : List Entry) (pools : List Held) (k : ℕ) → StaysOrGrows cut pools (offered_pools cut trial pools) k
  -- so a pool whose number is the same is the same
  pub same : (cut : Stored) (trial : List Entry) (pools : List Held) (k : ℕ) (p q : Held) → slice_get pools k ≡ Some p
      → slice_get (offered_pools cut trial pools) k ≡ Some q → q.number ≡ p.number → q ≡ p
  -- and no cut goes
  pub kept : (cut : Stored) (trial : List Entry) (pools : List Held) (k : ℕ) (p : Held) → slice_get pools k ≡ Some p
      → KeepsCuts p (offered_pools cut trial pools) k
