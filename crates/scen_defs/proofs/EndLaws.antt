-- What a multiplier's worth is.
use Rattle.std.proofs.Common.{◌≡◌, Bool, true, false, [], ◌∷◌, Option, Some, None, ⊎_elim, refl, sym, ap, ap₂, subst, ◌∙◌}
use Rattle.rationals.specs.Rational.{ℚ, zero_ℚ, ◌+ℚ◌, ◌*ℚ◌, ◌-ℚ◌, ◌≤ℚ◌, ◌<ℚ◌, at_most, at_most_true, at_most_false, by_ring, by_facts, by_linear, terms, le_refl_ℚ, le_of_same_ℚ, le_antisym_ℚ, lt_le_ℚ, lt_by, not_le_of_lt_ℚ, le_total_ℚ, zero_mul_ℚ, mul_mono_ℚ}
use Rattle.rationals.specs.Ring.Facts.{end, by_times}
use Rattle.rationals.specs.Ring.Given.{nothing, fact, equal}
use Rattle.rationals.specs.Intervals.{AtLeast, AtMost, Between, InOrder}
use Rattle.scen_defs.specs.Ends.{used_end, IsFinite, number, IsGoodAt, worth}

-- a good multiplier's worth is at most its product with any number of the interval
pub worth-below : (low high : Option ℚ) (y v : ℚ) → IsGoodAt low high y → Between low high v → worth low high y ≤ℚ y *ℚ v
unfolding worth
worth-below low high y v g b = go (at_most y zero_ℚ) refl (at_most zero_ℚ y) refl g.finite
  where
    by_low : (low : Option ℚ) → zero_ℚ <ℚ y → AtLeast low v → IsFinite low → y *ℚ number low ≤ℚ y *ℚ v
    by_low None p a f = absurd f
    by_low (Some l) p a f = let q : zero_ℚ ≤ℚ y = lt_le_ℚ p in let k : l ≤ℚ v = a in by_facts (y ∷ l ∷ v ∷ []) (by_times q k end) (search terms depth 40) tt

    by_high : (high : Option ℚ) → y <ℚ zero_ℚ → AtMost high v → IsFinite high → y *ℚ number high ≤ℚ y *ℚ v
    by_high None p a f = absurd f
    by_high (Some h) p a f =
        let q : zero_ℚ ≤ℚ zero_ℚ -ℚ y = (let r : y ≤ℚ zero_ℚ = lt_le_ℚ p in by_linear (y ∷ []) (fact r nothing) (search terms depth 40) tt) in
        let k : v ≤ℚ h = a in by_facts (y ∷ h ∷ v ∷ []) (by_times q k end) (search terms depth 40) tt

    go : (s : Bool) → at_most y zero_ℚ ≡ s → (t : Bool) → at_most zero_ℚ y ≡ t → IsFinite (elim s [ false ↦ low | true ↦ elim t [ false ↦ high | true ↦ Some zero_ℚ ] ])
        → y *ℚ number (elim s [ false ↦ low | true ↦ elim t [ false ↦ high | true ↦ Some zero_ℚ ] ]) ≤ℚ y *ℚ v
    go false p t q f = by_low low (at_most_false y zero_ℚ p) b.above f
    go true p false q f = by_high high (at_most_false zero_ℚ y q) b.below f
    go true p true q f =
        let e : y ≡ zero_ℚ = le_antisym_ℚ (at_most_true y zero_ℚ p) (at_most_true zero_ℚ y q) in
        le_of_same_ℚ (ap (λ z. z *ℚ zero_ℚ) e ∙ by_ring (v ∷ []) (search terms depth 40) tt ∙ ap (λ z. z *ℚ v) (sym e))

-- ---- sums and multiples of good multipliers
-- what a good multiplier asks of the ends
pub record Asks (low high : Option ℚ) (y : ℚ) : Type 0 where
  pub when_above : zero_ℚ <ℚ y → IsFinite low
  pub when_below : y <ℚ zero_ℚ → IsFinite high

no_both : {b : Bool} {P : Type 0} → b ≡ true → b ≡ false → P
no_both {b} {P} p q = absurd (clash (sym p ∙ q))
  where
    clash : true ≡ false → ⊥
    clash e = cc

test_yes : (a b : ℚ) → a ≤ℚ b → at_most a b ≡ true
test_yes a b h = go (at_most a b) refl
  where
    go : (s : Bool) → at_most a b ≡ s → s ≡ true
    go true p = refl
    go false p = absurd (not_le_of_lt_ℚ (at_most_false a b p) h)

test_no : (a b : ℚ) → b <ℚ a → at_most a b ≡ false
test_no a b h = go (at_most a b) refl
  where
    go : (s : Bool) → at_most a b ≡ s → s ≡ false
    go false p = refl
    go true p = absurd (not_le_of_lt_ℚ h (at_most_true a b p))

pub asks : (low high : Option ℚ) (y : ℚ) → IsGoodAt low high y → Asks low high y
asks low high y g = record {
  when_above = λ p. subst IsFinite (ap (λ s. elim s [ false ↦ low | true ↦ elim (at_most zero_ℚ y) [ false ↦ high | true ↦ Some zero_ℚ ] ]) (test_no y zero_ℚ p)) g.finite;
  when_below = λ p. subst IsFinite (ap₂ (λ s t. elim s [ false ↦ low | true ↦ elim t [ false ↦ high | true ↦ Some zero_ℚ ] ]) (test_yes y zero_ℚ (lt_le_ℚ p)) (test_no zero_ℚ y p)) g.finite;
}

pub good-if : (low high : Option ℚ) (y : ℚ) → Asks low high y → IsGoodAt low high y
good-if low high y a = record { finite = go (at_most y zero_ℚ) refl (at_most zero_ℚ y) refl }
  where
    go : (s : Bool) → at_most y zero_ℚ ≡ s → (t : Bool) → at_most zero_ℚ y ≡ t → IsFinite (elim s [ false ↦ low | true ↦ elim t [ false ↦ high | true ↦ Some zero_ℚ ] ])
    go false p t q = a.when_above (at_most_false y zero_ℚ p)
    go true p false q = a.when_below (at_most_false zero_ℚ y q)
    go true p true q = tt

pub good-zero : (low high : Option ℚ) → IsGoodAt low high zero_ℚ
good-zero low high = good-if low high zero_ℚ record { when_above = λ p. absurd (not_le_of_lt_ℚ p (le_refl_ℚ zero_ℚ)); when_below = λ p. absurd (not_le_of_lt_ℚ p (le_refl_ℚ zero_ℚ)) }

pub good-add : (low high : Option ℚ) (a b : ℚ) → IsGoodAt low high a → IsGoodAt low high b → IsGoodAt low high (a +ℚ b)
good-add low high a b g h = good-if low high (a +ℚ b) record {
  when_above = λ p. ⊎_elim (λ k. (asks low high b h).when_above (lt_by p (λ z. by_linear (a ∷ b ∷ []) (fact k (fact z nothing)) (search terms depth 40) tt))) (asks low high a g).when_above (le_total_ℚ a zero_ℚ);
  when_below = λ p. ⊎_elim (λ k. (asks low high b h).when_below (lt_by p (λ z. by_linear (a ∷ b ∷ []) (fact k (fact z nothing)) (search terms depth 40) tt))) (asks low high a g).when_below (le_total_ℚ zero_ℚ a);
}

pub good-scale : (low high : Option ℚ) (w a : ℚ) → zero_ℚ ≤ℚ w → IsGoodAt low high a → IsGoodAt low high (w *ℚ a)
good-scale low high w a p g = good-if low high (w *ℚ a) record {
  when_above = λ q. ⊎_elim (λ k. absurd (not_le_of_lt_ℚ q (let m : a ≤ℚ zero_ℚ = k in by_facts (w ∷ a ∷ []) (by_times p m end) (search terms depth 40) tt))) (asks low high a g).when_above (le_total_ℚ a zero_ℚ);
  when_below = λ q. ⊎_elim (λ k. absurd (not_le_of_lt_ℚ q (let m : zero_ℚ ≤ℚ a = k in by_facts (w ∷ a ∷ []) (by_times p m end) (search terms depth 40) tt))) (asks low high a g).when_below (le_total_ℚ zero_ℚ a);
}

pub worth-zero : (low high : Option ℚ) → worth low high zero_ℚ ≡ zero_ℚ
unfolding worth
worth-zero low high = zero_mul_ℚ _

-- the worth is the product with some number of the interval
record Attained (low high : Option ℚ) (y : ℚ) : Type 0 where
  at : ℚ
  inside : Between low high at
  same : worth low high y ≡ y *ℚ at

attained : (low high : Option ℚ) (y : ℚ) → InOrder low high → IsGoodAt low high y → Attained low high y
unfolding worth
attained low high y o g = go (at_most y zero_ℚ) refl (at_most zero_ℚ y) refl g.finite
  where
    worth_by : Option ℚ → ℚ
    worth_by e = y *ℚ number e

    end_by : Bool → Bool → Option ℚ
    end_by s t = elim s [ false ↦ low | true ↦ elim t [ false ↦ high | true ↦ Some zero_ℚ ] ]

    is : (s : Bool) → at_most y zero_ℚ ≡ s → (t : Bool) → at_most zero_ℚ y ≡ t → used_end low high y ≡ elim s [ false ↦ low | true ↦ elim t [ false ↦ high | true ↦ Some zero_ℚ ] ]
    is s p t q = ap₂ (λ s t. elim s [ false ↦ low | true ↦ elim t [ false ↦ high | true ↦ Some zero_ℚ ] ]) p q

    by_low : (low' : Option ℚ) → low ≡ low' → used_end low high y ≡ low → IsFinite low → Attained low high y
    by_low None e u f = absurd (subst IsFinite e f)
    by_low (Some l) e u f = record { at = l; inside = record { above = subst (λ (z : Option ℚ). AtLeast z l) (sym e) (le_refl_ℚ l); below = subst (λ (z : Option ℚ). InOrder z high) e o }; same = ap worth_by (u ∙ e) }

    by_high : (high' : Option ℚ) → high ≡ high' → used_end low high y ≡ high → IsFinite high → Attained low high y
    by_high None e u f = absurd (subst IsFinite e f)
    by_high (Some h) e u f = record { at = h; inside = record { above = over low (subst (λ (z : Option ℚ). InOrder low z) e o); below = subst (λ (z : Option ℚ). AtMost z h) (sym e) (le_refl_ℚ h) }; same = ap worth_by (u ∙ e) }
      where
        over : (low : Option ℚ) → InOrder low (Some h) → AtLeast low h
        over None k = tt
        over (Some l) k = k

    some_inside : (low high : Option ℚ) → InOrder low high → (z : ℚ) × Between low high z
    some_inside None None k = (zero_ℚ, record { above = tt; below = tt })
    some_inside None (Some h) k = (h, record { above = tt; below = le_refl_ℚ h })
    some_inside (Some l) high k = (l, record { above = le_refl_ℚ l; below = k })

    go : (s : Bool) → at_most y zero_ℚ ≡ s → (t : Bool) → at_most zero_ℚ y ≡ t → IsFinite (used_end low high y) → Attained low high y
    go false p t q f = by_low low refl (is false p t q) (subst IsFinite (is false p t q) f)
    go true p false q f = by_high high refl (is true p false q) (subst IsFinite (is true p false q) f)
    go true p true q f =
        let e : y ≡ zero_ℚ = le_antisym_ℚ (at_most_true y zero_ℚ p) (at_most_true zero_ℚ y q) in
        let z : (z : ℚ) × Between low high z = some_inside low high o in
        record { at = z.0; inside = z.1; same = ap worth_by (is true p true q) ∙ ap (λ a. a *ℚ zero_ℚ) e ∙ by_ring (z.0 ∷ []) (search terms depth 40) tt ∙ ap (λ a. a *ℚ z.0) (sym e) }

pub worth-add : (low high : Option ℚ) (a b : ℚ) → InOrder low high → IsGoodAt low high a → IsGoodAt low high b → worth low high a +ℚ worth low high b ≤ℚ worth low high (a +ℚ b)
worth-add low high a b o g h =
    let at : Attained low high (a +ℚ b) = attained low high (a +ℚ b) o (good-add low high a b g h) in
    let p : worth low high a ≤ℚ a *ℚ at.at = worth-below low high a at.at g at.inside in
    let q : worth low high b ≤ℚ b *ℚ at.at = worth-below low high b at.at h at.inside in
    let e : worth low high (a +ℚ b) ≡ (a +ℚ b) *ℚ at.at = at.same in
    by_linear (a ∷ b ∷ at.at ∷ worth low high a ∷ worth low high b ∷ worth low high (a +ℚ b) ∷ []) (fact p (fact q (equal e nothing))) (search terms depth 40) tt

pub worth-scale : (low high : Option ℚ) (w a : ℚ) → InOrder low high → zero_ℚ ≤ℚ w → IsGoodAt low high a → w *ℚ worth low high a ≤ℚ worth low high (w *ℚ a)
worth-scale low high w a o p g =
    let at : Attained low high (w *ℚ a) = attained low high (w *ℚ a) o (good-scale low high w a p g) in
    let q : w *ℚ worth low high a ≤ℚ w *ℚ (a *ℚ at.at) = mul_mono_ℚ p (worth-below low high a at.at g at.inside) in
    let e : worth low high (w *ℚ a) ≡ w *ℚ a *ℚ at.at = at.same in
    by_linear (w ∷ a ∷ at.at ∷ worth low high a ∷ worth low high (w *ℚ a) ∷ []) (fact q (equal e nothing)) (search terms depth 40) tt
