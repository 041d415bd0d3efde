use Rattle.std.proofs.Common.{ap₂}
use Rattle.std.specs.Prelude.{◌+ℤ◌}
use Rattle.ratio128.proofs.RatioLemmas.{product_kept, sum_kept}
use Rattle.ratio128.proofs.parts.sum_of_products.Goals as goal

pub returns : goal.returns
returns c =
    let left = product_kept c.args.a c.in_ok-left.left c.args.b c.ranges.a c.in_ok-left.ensures in
    let right = product_kept c.args.c c.in_ok-right.right c.args.d c.ranges.c c.in_ok-right.ensures in
    sum_kept c.plus.result _ _ (ap₂ (λ x y. x +ℤ y) left right) c.plus.ensures
