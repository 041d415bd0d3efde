use Rattle.std.proofs.Common.{◌≡◌, ◌∙◌, ◌<◌, ◌^◌, ℕ, ℤ, unsigned_abs, to_z, of_z, ap, subst₂}
use Rattle.std.proofs.lemmas.Int.{to_z-of_z, fits_signed_from_abs}
use mir.Syntax.{w128}
use Rattle.decimals.specs.Rounded.{IsRounded}
use Rattle.decimals.proofs.rounded.Decimal.of.Goals as goal

as_passed : (z : ℤ) (r : ℕ) → unsigned_abs z < 2 ^ 127 → r ≡ unsigned_abs (to_z w128 (of_z w128 z)) → r ≡ unsigned_abs z
as_passed z r h e = e ∙ ap (λ (v : ℤ). unsigned_abs v) (to_z-of_z w128 z (fits_signed_from_abs w128 z h))

pub returns-clause-rounded : goal.returns-clause-rounded
returns-clause-rounded c ne =
    let it = c.twelve.result in
    let above : unsigned_abs c.den.result < 2 ^ 127 = rw c.den.ensures.part c.den.ensures.size in
    let num : c.size.result ≡ unsigned_abs c.args.value.num =
    as_passed c.num-num.result c.size.result c.num-num.ensures.size c.size.ensures ∙ ap (λ (z : ℤ). unsigned_abs z) c.num-num.ensures.part in
    let den : c.size-2.result ≡ c.args.value.den =
    as_passed c.den.result c.size-2.result above c.size-2.ensures ∙ ap (λ (z : ℤ). unsigned_abs z) c.den.ensures.part in
    subst₂ (λ (n d : ℕ). IsRounded n d it.digits it.up it.down) num den
    (c.twelve.ensures.rounded c.size.result c.size-2.result c.first_digits-first.ensures.floor)
