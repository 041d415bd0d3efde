-- A step that takes nothing away.
use Rattle.std.proofs.Common.{◌≡◌, Bool, true, false, Ok, refl, sym, ap, subst, ◌∙◌}
use Rattle.rationals.specs.Rational.{ℚ, zero_ℚ, one_ℚ, ◌*ℚ◌, ◌/ℚ◌, zero_mul_ℚ}
use Rattle.rationals.specs.Passes.{answer, too_wide, div_walk, less_product_walk, IsNarrow}
use Rattle.rationals.proofs.WalkLaws.{less_zero_product}

answered : {X P : Type 0} (b : Bool) (p : P) (x y : X) → answer b p x ≡ Ok y → (b ≡ false) × (x ≡ y)
answered true p x y e = absurd (cc)
answered false p x y e = (refl, cc)

-- what is its own quotient by 1 fits
own_fits : (s t : ℚ) → t ≡ s → div_walk s one_ℚ ≡ Ok t → IsNarrow s
own_fits s t same e =
    let p = answered (too_wide (s /ℚ one_ℚ)) _ (s /ℚ one_ℚ) t e in
    subst (λ q. too_wide q ≡ false) (p.1 ∙ same) p.0

-- a number less 0 times another is the number
pub unchanged : (s a b t : ℚ) → t ≡ s → div_walk s one_ℚ ≡ Ok t → a ≡ zero_ℚ → Ok t ≡ less_product_walk s a b
unchanged s a b t same e zero =
    ap (λ q. Ok q) same ∙ sym (less_zero_product s a b (own_fits s t same e) (ap (λ q. q *ℚ b) zero ∙ zero_mul_ℚ b))
