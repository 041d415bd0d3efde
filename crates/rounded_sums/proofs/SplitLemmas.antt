-- Sums in parts.
use Rattle.std.proofs.Common.{◌≡◌, ℕ, zero, suc, ◌+◌, ◌<◌, List, [], ◌∷◌, Option, Some, None, IfSome, length, drop, get_or, slice_set, replicate, refl, sym, ap, ap₂, subst, ◌∙◌, arith, add-one, drop-cons}
use Rattle.rationals.specs.Rational.{ℚ, zero_ℚ, one_ℚ, ◌+ℚ◌, ◌-ℚ◌, ◌*ℚ◌, by_ring, by_eqs, terms, add_zero_ℚ, zero_add_ℚ}
use Rattle.rationals.specs.Ring.Eqs.{done, by_eq}
use Rattle.rounded_sums.specs.declared.side.Side.{Side}
use Rattle.rounded_sums.specs.Sides.{Beside, factor_side}
use Rattle.rounded_sums.specs.Parts.{sum_of}
use Rattle.rounded_sums.proofs.SideLemmas.{beside_refl, beside_trans, beside_add, beside_right}

-- one gives to the other
pub moved_is : (from to share rest more : ℚ) → rest ≡ from -ℚ share → more ≡ to +ℚ share → rest +ℚ more ≡ from +ℚ to
moved_is from to share rest more e f = ap₂ ◌+ℚ◌ e f ∙ by_ring (from ∷ to ∷ share ∷ []) (search terms depth 40) tt

pub swapped : (a b c d : ℚ) → a +ℚ b ≡ c +ℚ d → b +ℚ a ≡ d +ℚ c
swapped a b c d e = by_ring (a ∷ b ∷ []) (search terms depth 40) tt ∙ e ∙ by_ring (c ∷ d ∷ []) (search terms depth 40) tt

-- a part is replaced
pub sum_set : (parts : List ℚ) (i : ℕ) (part d : ℚ) → i < length parts → sum_of (slice_set parts i part) +ℚ get_or parts i d ≡ sum_of parts +ℚ part
sum_set [] i part d h = absurd (omega (arith, h))
sum_set (x ∷ xs) zero part d h = by_ring (x ∷ part ∷ sum_of xs ∷ []) (search terms depth 40) tt
sum_set (x ∷ xs) (suc i) part d h = by_eqs (x ∷ part ∷ sum_of xs ∷ sum_of (slice_set xs i part) ∷ get_or xs i d ∷ [])
    (by_eq one_ℚ (sum_set xs i part d (omega (arith, h))) done) (search terms depth 40) tt

pub put_is : (sum whole number d left more next settled : ℚ) (parts all : List ℚ) (i : ℕ) → i < length parts
    → sum ≡ whole +ℚ sum_of parts → left +ℚ more ≡ number +ℚ get_or parts i d → next +ℚ settled ≡ whole +ℚ more → all ≡ slice_set parts i settled
    → (next +ℚ sum_of all) +ℚ left ≡ sum +ℚ number
put_is sum whole number d left more next settled parts all i h s m w a =
    let changed : sum_of all +ℚ get_or parts i d ≡ sum_of parts +ℚ settled = ap (λ (l : List ℚ). sum_of l +ℚ get_or parts i d) a ∙ sum_set parts i settled d h in
    by_eqs (sum ∷ whole ∷ number ∷ get_or parts i d ∷ left ∷ more ∷ next ∷ settled ∷ sum_of parts ∷ sum_of all ∷ [])
    (by_eq one_ℚ (sym s) (by_eq one_ℚ m (by_eq one_ℚ w (by_eq one_ℚ changed done)))) (search terms depth 40) tt

-- ---- parts that are all 0
pub zeros : (n : ℕ) (part : ℚ) → part ≡ zero_ℚ → sum_of (replicate n part) ≡ zero_ℚ
zeros zero part e = refl
zeros (suc n) part e = ap₂ ◌+ℚ◌ e (zeros n part e) ∙ zero_add_ℚ zero_ℚ

pub alone : (whole parts : ℚ) → parts ≡ zero_ℚ → whole +ℚ parts ≡ whole
alone whole parts e = ap (λ (z : ℚ). whole +ℚ z) e ∙ add_zero_ℚ whole

-- put in two turns, so that nothing is left
pub all_put : (sum left shared rest all : ℚ) → sum +ℚ left ≡ shared +ℚ rest → shared +ℚ rest ≡ all → left ≡ zero_ℚ → sum ≡ all
all_put sum left shared rest all e f z = sym (alone sum left z) ∙ e ∙ f

-- ---- the parts together
pub read_next : (parts : List ℚ) (i : ℕ) (part : ℚ) → i < length parts → part ≡ get_or parts i part → drop i parts ≡ part ∷ drop (i + 1) parts
read_next parts i part h e = rw (add-one i) (drop-cons parts i part h ∙ ap (λ d. d ∷ drop (suc i) parts) (sym e))

pub together_next : (side : Side) (all sum next part : ℚ) (parts more : List ℚ) (i : ℕ) → drop i parts ≡ part ∷ more
    → Beside side all (sum +ℚ sum_of (drop i parts)) → Beside side (sum +ℚ part) next → Beside side all (next +ℚ sum_of more)
together_next side all sum next part parts more i e h k =
    beside_trans side all (sum +ℚ sum_of (drop i parts)) (next +ℚ sum_of more) h
    (subst (λ (z : ℚ). Beside side z (next +ℚ sum_of more))
    (by_ring (sum ∷ part ∷ sum_of more ∷ []) (search terms depth 40) tt ∙ ap (λ (l : List ℚ). sum +ℚ sum_of l) (sym e))
    (beside_add side (sum +ℚ part) next (sum_of more) (sum_of more) k (beside_refl side (sum_of more))))

pub together_done : (side : Side) (all sum : ℚ) (parts : List ℚ) → parts ≡ [] → Beside side all (sum +ℚ sum_of parts) → Beside side all sum
together_done side all sum parts e h = subst (Beside side all) (ap (λ (l : List ℚ). sum +ℚ sum_of l) e ∙ add_zero_ℚ sum) h

-- the sum is rounded first
pub then_step : (side : Side) (all sum product next : ℚ) → Beside side all sum → Beside side (sum +ℚ product) next → Beside side (all +ℚ product) next
then_step side all sum product next h k =
    beside_trans side (all +ℚ product) (sum +ℚ product) next (beside_add side all sum product product h (beside_refl side product)) k

-- the second factor is rounded first
pub then_times : (side : Side) (all factor times number : ℚ) (next : Option ℚ) → Beside (factor_side side factor) times number
    → IfSome next (Beside side (all +ℚ factor *ℚ number)) → IfSome next (Beside side (all +ℚ factor *ℚ times))
then_times side all factor times number None h k = tt
then_times side all factor times number (Some q) h k =
    beside_trans side (all +ℚ factor *ℚ times) (all +ℚ factor *ℚ number) q
    (beside_add side all all (factor *ℚ times) (factor *ℚ number) (beside_refl side all) (beside_right side factor times number h)) k
