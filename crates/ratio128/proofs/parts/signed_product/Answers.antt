use Rattle.std.proofs.Common.{◌<◌, ◌^◌}
use Rattle.std.specs.Prelude.{unsigned_abs}
use Rattle.ratio128.proofs.RatioLemmas.{product_read, value_kept, least_passes, value_passes, size_read, small_product, small_product_passed, small_product_fits}
use Rattle.ratio128.proofs.parts.signed_product.Goals as goal

pub overflow_mul-result : goal.overflow_mul-result
overflow_mul-result c =
    let p : unsigned_abs c.args.a < 2 ^ 63 = rw (size_read c.args.a _ c.ranges.a c.unsigned_abs.ensures.value) c.if-unsigned_abs-lt-HALF.true in
    let q : unsigned_abs c.args.b < 2 ^ 63 = rw (size_read c.args.b _ c.ranges.b c.unsigned_abs-then-unsigned_abs-lt-HALF.ensures.value) c.if-unsigned_abs-lt-HALF-2.true in
    small_product_fits c.args.a c.args.b p q

pub returns-then-unsigned_abs-lt-HALF-2 : goal.returns-then-unsigned_abs-lt-HALF-2
returns-then-unsigned_abs-lt-HALF-2 c =
    let p : unsigned_abs c.args.a < 2 ^ 63 = rw (size_read c.args.a _ c.ranges.a c.unsigned_abs.ensures.value) c.if-unsigned_abs-lt-HALF.true in
    let q : unsigned_abs c.args.b < 2 ^ 63 = rw (size_read c.args.b _ c.ranges.b c.unsigned_abs-then-unsigned_abs-lt-HALF.ensures.value) c.if-unsigned_abs-lt-HALF-2.true in
    (small_product c.args.a c.args.b p q, small_product_passed c.args.a c.args.b p q)

pub returns-in-Some : goal.returns-in-Some
returns-in-Some c = value_kept _ _ c.in-Some.product (product_read c.args.a c.args.b c.ranges.a c.ranges.b) c.in-Some.ensures c.if-product.true

pub returns-in_default : goal.returns-in_default
returns-in_default c = least_passes _ _ c.in-Some.product (product_read c.args.a c.args.b c.ranges.a c.ranges.b) c.in-Some.ensures c.if-product.false

pub returns-in_default-2 : goal.returns-in_default-2
returns-in_default-2 c = value_passes _ _ (product_read c.args.a c.args.b c.ranges.a c.ranges.b) c.in_default.ensures
