-- How many pools there are behind a change, and which number rises where a cut comes to a pool.
use Rattle.std.proofs.Common.{◌≡◌, ℕ, zero, suc, ◌+◌, ◌<◌, ◌≤◌, Bool, true, false, List, [], ◌∷◌, Option, Some, None, ◌++◌, length, get_or, slice_get, map, arith, refl, sym, ap, ◌∙◌}
use Rattle.std.specs.Option.{option_map, option_to_list}
use Rattle.rationals.specs.Choices.{pick}
use Rattle.scen_defs.specs.Lists.{Each}
use Rattle.scen_defs.specs.Program.{Node}
use Rattle.cut_defs.specs.declared.kinds.Bank.{Bank}
use Rattle.cut_defs.specs.declared.kinds.Bank.TheVariants.{Plain, Cone}
use Rattle.cut_defs.specs.declared.versions.Due.{Due}
use Rattle.cut_defs.specs.Stored.{Stored}
use Rattle.cut_pool.specs.Held.{Held}
use Rattle.cut_pool.specs.Pool.{after_offer}
use Rattle.cut_pool.specs.declared.offer.Offer.{Offer}
use Rattle.cut_pool.specs.declared.offer.Offer.TheVariants as offer
use Rattle.cut_banks.specs.declared.banks.Banks.{Banks}
use Rattle.cut_banks.specs.Banks.{edited_banks}
use Rattle.cut_banks.specs.Pools.{numbers_of, pool_if, with_pool, all_empty, fit_pools, numbers_read, numbers_at, pools_after}
use Rattle.pass_table.specs.declared.table.Reading.{Reading}
use Rattle.pass_core.specs.Counting.{is_added}
use Rattle.pass_core.specs.Tabled.{HasPools}

-- ---- how many pools there are
pub empty_length : (n count : ℕ) → length (all_empty n count) ≡ count
empty_length n zero = refl
empty_length n (suc count) = ap suc (empty_length (suc n) count)

fit_length : (n : ℕ) (places : List (Option Node)) (ps : List Held) → length places ≤ length (fit_pools n places ps)
fit_length n [] ps = omega arith
fit_length n (place ∷ places) [] = omega (arith, fit_length (suc n) places [])
fit_length n (place ∷ places) (p ∷ ps) = omega (arith, fit_length (suc n) places ps)

after_length : (bank : Bank) (n : ℕ) (dues : List Due) (ps : List Held) → length (pools_after bank n dues ps) ≡ length ps
after_length bank n dues [] = refl
after_length bank n dues (p ∷ ps) = ap suc (after_length bank (suc n) dues ps)

-- for the nodes that there were, or for those that there are
pub edited_pools : (grown : Bool) (places : List (Option Node)) (dues : List Due) (b : Banks) (nodes : ℕ)
    → (grown ≡ false → HasPools nodes b) → (grown ≡ true → nodes ≡ length places) → HasPools nodes (edited_banks grown places dues b)
edited_pools true places dues b nodes kept new = record {
  plain = omega (arith, after_length Plain 0 dues (fit_pools 0 places b.plain), fit_length 0 places b.plain, new refl);
  cone = omega (arith, after_length Cone 0 dues (fit_pools 0 places b.cone), fit_length 0 places b.cone, new refl);
}
edited_pools false places dues b nodes kept new = record {
  plain = omega (arith, after_length Plain 0 dues b.plain, (kept refl).plain);
  cone = omega (arith, after_length Cone 0 dues b.cone, (kept refl).cone);
}

-- ---- a change of one pool, which raises its number or keeps it
module _ (test : Held → Bool) (change : Held → Held) (told : Held → Bool)
    (up : (p : Held) → told p ≡ true → (change p).number ≡ p.number + 1) (same : (p : Held) → told p ≡ false → (change p).number ≡ p.number) where
  abbrev pub was_told : Option Held → Bool
  was_told None = false
  was_told (Some p) = told p

  pub risen_at : (n : ℕ) (ps : List Held) → was_told (pool_if test n ps) ≡ true → get_or (numbers_of (with_pool test change n ps)) n 0 ≡ get_or (numbers_of ps) n 0 + 1
  risen_at n [] e = absurd (let no : false ≡ true = e in cc)
  risen_at zero (p ∷ ps) e = go (test p) e
    where
      go : (b : Bool) → was_told (pick b (Some p) None) ≡ true → (pick b (change p) p).number ≡ p.number + 1
      go true e = up p e
      go false e = absurd (let no : false ≡ true = e in cc)
  risen_at (suc n) (p ∷ ps) e = risen_at n ps e

  kept_if : (p : Held) (t : Bool) → told p ≡ t → (t ≡ true → ⊥) → (change p).number ≡ p.number
  kept_if p true e none = absurd (none refl)
  kept_if p false e none = same p e

  at_first : (p : Held) (b : Bool) → (was_told (pick b (Some p) None) ≡ true → zero ≡ zero → ⊥) → (pick b (change p) p).number ≡ p.number
  at_first p true ne = kept_if p (told p) refl (λ e. ne e refl)
  at_first p false ne = refl

  pub others_at : (n k : ℕ) (ps : List Held) → (was_told (pool_if test n ps) ≡ true → k ≡ n → ⊥)
      → get_or (numbers_of (with_pool test change n ps)) k 0 ≡ get_or (numbers_of ps) k 0
  others_at n k [] ne = refl
  others_at zero zero (p ∷ ps) ne = at_first p (test p) ne
  others_at zero (suc k) (p ∷ ps) ne = refl
  others_at (suc n) zero (p ∷ ps) ne = refl
  others_at (suc n) (suc k) (p ∷ ps) ne = others_at n k ps (λ e same. ne e (ap suc same))

-- ---- an offer
added_up : (cut : Stored) (o : Offer) (p : Held) → is_added o ≡ true → (after_offer p cut o).number ≡ p.number + 1
added_up cut offer.Added p e = omega arith
added_up cut (offer.NotNeeded value) p e = absurd (let no : false ≡ true = e in cc)
added_up cut (offer.Stale node part seen known) p e = absurd (let no : false ≡ true = e in cc)
added_up cut (offer.Passed o) p e = absurd (let no : false ≡ true = e in cc)

not_added : (cut : Stored) (o : Offer) (p : Held) → is_added o ≡ false → (after_offer p cut o).number ≡ p.number
not_added cut offer.Added p e = absurd (let no : true ≡ false = e in cc)
not_added cut (offer.NotNeeded value) p e = refl
not_added cut (offer.Stale node part seen known) p e = refl
not_added cut (offer.Passed o) p e = refl

module _ (test : Held → Bool) (cut : Stored) (answer : Held → Offer) where
  abbrev answered : Held → Held
  answered p = after_offer p cut (answer p)

  abbrev added : Held → Bool
  added p = is_added (answer p)

  abbrev pub tells : Option Offer → Bool
  tells None = false
  tells (Some o) = is_added o

  told_same : (o : Option Held) → tells (option_map answer o)
      ≡ was_told test answered added (λ p. added_up cut (answer p) p) (λ p. not_added cut (answer p) p) o
  told_same None = refl
  told_same (Some p) = refl

  pub offered_risen : (n : ℕ) (ps : List Held) → tells (option_map answer (pool_if test n ps)) ≡ true
      → get_or (numbers_of (with_pool test (λ p. after_offer p cut (answer p)) n ps)) n 0 ≡ get_or (numbers_of ps) n 0 + 1
  offered_risen n ps e = risen_at test answered added (λ p. added_up cut (answer p) p) (λ p. not_added cut (answer p) p) n ps
      (sym (told_same (pool_if test n ps)) ∙ e)

  pub offered_others : (n k : ℕ) (ps : List Held) → (tells (option_map answer (pool_if test n ps)) ≡ true → k ≡ n → ⊥)
      → get_or (numbers_of (with_pool test (λ p. after_offer p cut (answer p)) n ps)) k 0 ≡ get_or (numbers_of ps) k 0
  offered_others n k ps ne = others_at test answered added (λ p. added_up cut (answer p) p) (λ p. not_added cut (answer p) p) n k ps
      (λ e. ne (told_same (pool_if test n ps) ∙ e))

-- ---- what is read of pools that are all there
one_number : (ps : List Held) (c : ℕ) → c < length ps → numbers_at ps c ≡ record { child = c; number = get_or (numbers_of ps) c 0 } ∷ []
one_number ps c h = go ps c c h
  where
    go : (qs : List Held) (i d : ℕ) → i < length qs
        → option_to_list (option_map (λ (p : Held). let r : Reading = record { child = d; number = p.number } in r) (slice_get qs i))
        ≡ record { child = d; number = get_or (numbers_of qs) i 0 } ∷ []
    go [] i d h = absurd (omega arith)
    go (q ∷ qs) zero d h = refl
    go (q ∷ qs) (suc i) d h = go qs i d (omega arith)

pub all_numbers : (ps : List Held) (number : ℕ → ℕ) (cs : List ℕ) → Each (λ c. c < length ps) cs → ((c : ℕ) → get_or (numbers_of ps) c 0 ≡ number c)
    → numbers_read ps cs ≡ map (λ c. record { child = c; number = number c }) cs
all_numbers ps number [] h e = refl
all_numbers ps number (c ∷ cs) h e =
    ap (λ (rs : List Reading). rs ++ numbers_read ps cs) (one_number ps c h.0 ∙ ap (λ n. record { child = c; number = n } ∷ []) (e c))
    ∙ ap (λ (rs : List Reading). record { child = c; number = number c } ∷ rs) (all_numbers ps number cs h.1 e)
