-- A quotient by 0 doesn't pass.
use Rattle.std.proofs.Common.{◌≡◌, false, refl, ap, ◌∙◌}
use Rattle.rationals.specs.Rational.{ℚ, zero_ℚ, inverse_of, inv_ℚ, ◌*ℚ◌, ◌/ℚ◌, mul_zero_ℚ, ◌÷◌, reduce, smaller, divides, nat_divides, same_ℚ}
use Rattle.rationals.specs.declared.Op.TheVariants.{Div}
use Rattle.rationals.specs.Passes.{too_wide, passes}

zero_fits : too_wide zero_ℚ ≡ false
unfolding zero_ℚ ◌÷◌ reduce smaller divides nat_divides
zero_fits = refl

inverse_of_zero : inv_ℚ zero_ℚ ≡ zero_ℚ
unfolding inv_ℚ inverse_of zero_ℚ ◌÷◌ reduce smaller divides nat_divides
inverse_of_zero = same_ℚ (inv_ℚ zero_ℚ) zero_ℚ refl

pub by_zero : (a b : ℚ) → b ≡ zero_ℚ → passes Div a b ≡ false
by_zero a b e = ap (λ (d : ℚ). too_wide (a /ℚ d)) e ∙ ap (λ (d : ℚ). too_wide (a *ℚ d)) inverse_of_zero ∙ ap too_wide (mul_zero_ℚ a) ∙ zero_fits
