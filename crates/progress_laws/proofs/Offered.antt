-- What the offer of a node's cut leaves of the pools of its run.
use Rattle.std.proofs.Common.{◌≡◌, ℕ, zero, suc, ◌+◌, ◌⊎◌, inl, inr, List, [], ◌∷◌, Option, Some, None, IfSome, get_or, slice_get, refl, sym, ap, subst, ◌∙◌, arith}
use Rattle.std.specs.List.{Contains}
use Rattle.rationals.specs.Rational.{ℚ, zero_ℚ, ◌≤ℚ◌, ◌<ℚ◌, le_trans_ℚ, lt_by, not_le_of_lt_ℚ}
use Rattle.rationals.specs.Sparse.{Entry}
use Rattle.scen_defs.specs.declared.report.Kind.{Kind}
use Rattle.scen_defs.specs.declared.report.Kind.TheVariants.{Feasible, Recession, Cost}
use Rattle.cut_defs.specs.Stored.{Stored, source_of}
use Rattle.cut_defs.specs.declared.kinds.CutKind.TheVariants.{Bound, Ray}
use Rattle.cut_pool.specs.Held.{Held}
use Rattle.cut_pool.specs.Pool.{with_cut}
use Rattle.cut_pool.specs.declared.offer.Offer.{Offer}
use Rattle.cut_pool.specs.declared.offer.Offer.TheVariants.{Added, NotNeeded, Stale, Passed}
use Rattle.cut_banks.specs.declared.banks.Banks.{Banks}
use Rattle.cut_banks.specs.Banks.{pools_of, with_pools}
use Rattle.cut_banks.specs.Pools.{numbers_of}
use Rattle.node_lp.specs.Answers.{value_at_trial}
use Rattle.pass_core.specs.Left.{IsTaken, IsOffered, OffersCut}
use Rattle.answer_laws.specs.Offers.{offered_pools, IsCompared, HoldsAsMuch, by_cut, by_zero, StaysOrGrows, stays, grows, HoldsOffer}
use Rattle.answer_laws.proofs.Offers.{offers_hold}
use Rattle.progress_laws.proofs.Standing.{HasMember, IsAtLeast, IsAbove}
use Rattle.progress_laws.proofs.Places.{PoolsGo, pools_stay}

pools_with : (kind : Kind) (pools : List Held) (b : Banks) → pools_of kind (with_pools kind pools b) ≡ pools
pools_with Feasible pools b = refl
pools_with Recession pools b = refl
pools_with Cost pools b = refl

compared : (o : Offer) → IsTaken o → IsCompared o
compared Added h = tt
compared (NotNeeded v) h = tt
compared (Stale n part seen known) h = absurd h
compared (Passed o) h = absurd h

number_got : (ps : List Held) (n : ℕ) (p : Held) → slice_get ps n ≡ Some p → get_or (numbers_of ps) n 0 ≡ p.number
number_got [] n p e = absurd (cc)
number_got (q ∷ ps) zero p e = let same : q ≡ p = cc in ap (λ (x : Held). x.number) same
number_got (q ∷ ps) (suc n) p e = number_got ps n p e

module _ (cut : Stored) (trial : List Entry) (pools : List Held) where
  new : List Held
  new = offered_pools cut trial pools

  pub offered_go : PoolsGo pools (offered_pools cut trial pools) (source_of cut).node
  offered_go = record { others = λ j ne. other j ne (offers_hold.places cut trial pools j); own = mine (offers_hold.places cut trial pools (source_of cut).node); grows = λ j p e. offers_hold.kept cut trial pools j p e }
    where
      other : (j : ℕ) → (j ≡ (source_of cut).node → ⊥) → StaysOrGrows cut pools (offered_pools cut trial pools) j → slice_get (offered_pools cut trial pools) j ≡ slice_get pools j
      other j ne (stays e) = e
      other j ne (grows p q there now) = absurd (ne q)

      mine : StaysOrGrows cut pools (offered_pools cut trial pools) (source_of cut).node
          → (slice_get (offered_pools cut trial pools) (source_of cut).node ≡ slice_get pools (source_of cut).node)
          ⊎ (get_or (numbers_of (offered_pools cut trial pools)) (source_of cut).node 0 ≡ get_or (numbers_of pools) (source_of cut).node 0 + 1)
      mine (stays e) = inl e
      mine (grows p q there now) = inr (
          let a = number_got (offered_pools cut trial pools) (source_of cut).node (with_cut p cut) now in
          let b = number_got pools (source_of cut).node p there in
          omega (arith, a, b))

same_pools : (old next : List Held) (n : ℕ) → next ≡ old → PoolsGo old next n
same_pools old next n e = subst (λ (ps : List Held). PoolsGo old ps n) (sym e) (pools_stay old n)

pub pools_go : (kind : Kind) (n : ℕ) (cut : Option Stored) (trial : List Entry) (old new : Banks) → IfSome cut (λ c. (source_of c).node ≡ n)
    → OffersCut kind n cut trial old new → PoolsGo (pools_of kind old) (pools_of kind new) n
pools_go kind zero cut trial old new about e = same_pools (pools_of kind old) (pools_of kind new) 0 (ap (pools_of kind) e)
pools_go kind (suc n) None trial old new about e = same_pools (pools_of kind old) (pools_of kind new) (suc n) (ap (pools_of kind) e)
pools_go kind (suc n) (Some cut) trial old new about h =
    subst (λ (i : ℕ). PoolsGo (pools_of kind old) (pools_of kind new) i) about
    (subst (λ (ps : List Held). PoolsGo (pools_of kind old) ps (source_of cut).node) (sym (ap (pools_of kind) h.banks ∙ pools_with kind _ old))
    (offered_go cut trial (pools_of kind old)))

-- the pool holds as much as the cut
held : (kind : Kind) (cut : Stored) (trial : List Entry) (old new : Banks) (n : ℕ) → (source_of cut).node ≡ n → IsOffered kind cut trial old new
    → (P : Stored → Type 0) → ((pool : Held) → HoldsAsMuch cut trial pool → (c : Stored) × (Contains pool.cuts c × P c))
    → HasMember (pools_of kind new) n P
held kind cut trial old new n about h P found =
    let o : HoldsOffer cut trial (offered_pools cut trial (pools_of kind old))
    = offers_hold.holds cut trial (pools_of kind old) h.pool h.there (compared _ h.taken) in
    let f = found o.pool o.holds in
    subst (λ (i : ℕ). HasMember (pools_of kind new) i P) about
    (subst (λ (ps : List Held). HasMember ps (source_of cut).node P) (sym (ap (pools_of kind) h.banks ∙ pools_with kind _ old))
    (record { pool = o.pool; there = o.stands; cut = f.0; member = f.1.0; holds = f.1.1 }))

pub bound_held : (kind : Kind) (cut : Stored) (trial : List Entry) (value : ℚ) (old new : Banks) (n : ℕ) → (source_of cut).node ≡ n
    → (source_of cut).kind ≡ Bound → value_at_trial cut trial ≡ value → IsOffered kind cut trial old new
    → HasMember (pools_of kind new) n (IsAtLeast trial value)
bound_held kind cut trial value old new n about bound e h = held kind cut trial old new n about h (IsAtLeast trial value) (λ pool k. go pool k)
  where
    go : (pool : Held) → HoldsAsMuch cut trial pool → (c : Stored) × (Contains pool.cuts c × IsAtLeast trial value c)
    go pool (by_cut c i same le) = (c, (i, (same ∙ bound, subst (λ z. z ≤ℚ value_at_trial c trial) e le)))
    go pool (by_zero ray le) = let q : Bound ≡ Ray = sym bound ∙ ray in absurd (cc)

pub ray_held : (kind : Kind) (cut : Stored) (trial : List Entry) (old new : Banks) (n : ℕ) → (source_of cut).node ≡ n
    → (source_of cut).kind ≡ Ray → zero_ℚ <ℚ value_at_trial cut trial → IsOffered kind cut trial old new
    → HasMember (pools_of kind new) n (IsAbove trial)
ray_held kind cut trial old new n about ray above h = held kind cut trial old new n about h (IsAbove trial) (λ pool k. go pool k)
  where
    go : (pool : Held) → HoldsAsMuch cut trial pool → (c : Stored) × (Contains pool.cuts c × IsAbove trial c)
    go pool (by_cut c i same le) = (c, (i, (same ∙ ray, lt_by above (λ k. le_trans_ℚ le k))))
    go pool (by_zero ray le) = absurd (not_le_of_lt_ℚ above le)
