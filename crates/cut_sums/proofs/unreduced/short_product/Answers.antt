use Rattle.std.proofs.Common.{rules, ◌<◌, ◌^◌}
use Rattle.std.specs.Prelude.{unsigned_abs}
use Rattle.ratio128.proofs.RatioLemmas.{small_product_passed}
use Rattle.cut_sums.proofs.unreduced.short_product.Goals as goal

pub returns-then-unsigned_abs-lt-HALF-2 : goal.returns-then-unsigned_abs-lt-HALF-2
returns-then-unsigned_abs-lt-HALF-2 c =
    let p : unsigned_abs c.args.a < 2 ^ 63 = search rules in
    let q : unsigned_abs c.args.b < 2 ^ 63 = search rules in
    small_product_passed c.args.a c.args.b p q
