use Rattle.std.proofs.Common.{rules, ◌≡◌, ap, ◌∙◌, pos, ◌+ℤ◌, ◌*ℤ◌}
use Rattle.rationals.specs.Rational.{◌÷◌, ◌+ℚ◌}
use Rattle.ratio128.proofs.RatioLemmas.{passed}
use Rattle.cut_sums.proofs.UnreducedLaws.{over_is}
use Rattle.cut_sums.proofs.unreduced.Unreduced.over.Goals as goal

pub returns : goal.returns
returns c =
    let s : c.in_ok-sum.sum ≡ c.in_ok-left.left +ℤ c.in_ok-right.right = search rules in
    let l : c.in_ok-left.left ≡ c.self.inside.num *ℤ pos c.args.own = search rules in
    let r : c.in_ok-right.right ≡ c.args.num *ℤ pos c.args.across = search rules in
    over_is c.self.inside.num c.args.num _ c.in_ok-sum.sum c.in_ok-left.left c.in_ok-right.right c.self.inside.den c.args.den c.args.own c.args.across c.in_ok-common.common c.in_ok-also.also
    c.self.invariant.above_zero c.requires.den c.requires.own (passed _ c.in_ok-sum.ensures.small) s l r c.in_ok-common.ensures.product c.in_ok-also.ensures.product (search rules)
    ∙ ap (λ q. q +ℚ c.args.num ÷ c.args.den) c.self.view_is
