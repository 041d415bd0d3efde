use Rattle.std.proofs.Common.{◌≡◌, ◌*◌, ◌∙◌, ap, ap₂, ℤ, ℕ, rules, ◌*ℤ◌, to_z, of_z}
use Rattle.std.specs.Int.{w128}
use Rattle.rationals.specs.Rational.{◌÷◌, ◌+ℚ◌}
use Rattle.ratio128.proofs.RatioLemmas.{passed}
use Rattle.cut_sums.proofs.UnreducedLaws.{product_over, if_some}
use Rattle.cut_sums.proofs.unreduced.Unreduced.step.Goals as goal

pub returns : goal.returns
returns c =
    let p = rw (passed _ c.num.ensures.size, passed _ c.num-2.ensures.size) at c.in_ok-num.ensures in
    let n : c.in_ok-num.num ≡ c.args.factor.num *ℤ c.args.times.num = p ∙ ap₂ (λ (x y : ℤ). x *ℤ y) c.num.ensures.part c.num-2.ensures.part in
    let same : to_z w128 (of_z w128 c.in_ok-num.num) ≡ c.in_ok-num.num = search rules in
    let d : c.in_ok-den.den ≡ c.args.factor.den * c.args.times.den = search rules in
    if_some c.plus.result (λ q e. e ∙ ap (λ z. c.args.self.now +ℚ z) (ap₂ (λ (x : ℤ) (y : ℕ). x ÷ y) (same ∙ n) d ∙ product_over c.args.factor c.args.times)) c.plus.ensures
