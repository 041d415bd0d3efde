use Rattle.std.proofs.Common.{◌≤◌, ◌^◌}
use Rattle.std.specs.Prelude.{unsigned_abs}
use Rattle.ratio128.proofs.RatioLemmas.{multiple_read, value_kept, least_passes, value_passes, size_read, times_fits, times_passed}
use Rattle.ratio128.proofs.parts.times.Goals as goal

pub overflow_mul-result : goal.overflow_mul-result
overflow_mul-result c =
    let p : unsigned_abs c.args.a ≤ 2 ^ 63 = rw (size_read c.args.a _ c.ranges.a c.unsigned_abs.ensures.value) c.if-unsigned_abs-le-HALF.true in
    times_fits c.args.a c.args.b p c.if-b-lt-HALF.true

pub returns-then-unsigned_abs-le-HALF : goal.returns-then-unsigned_abs-le-HALF
returns-then-unsigned_abs-le-HALF c =
    let p : unsigned_abs c.args.a ≤ 2 ^ 63 = rw (size_read c.args.a _ c.ranges.a c.unsigned_abs.ensures.value) c.if-unsigned_abs-le-HALF.true in
    times_passed c.args.a c.args.b p c.if-b-lt-HALF.true

pub returns-in-Some : goal.returns-in-Some
returns-in-Some c = value_kept _ _ c.in-Some.product (multiple_read c.args.a c.args.b c.ranges.a c.requires) c.in-Some.ensures c.if-product.true

pub returns-in_default : goal.returns-in_default
returns-in_default c = least_passes _ _ c.in-Some.product (multiple_read c.args.a c.args.b c.ranges.a c.requires) c.in-Some.ensures c.if-product.false

pub returns-in_default-2 : goal.returns-in_default-2
returns-in_default-2 c = value_passes _ _ (multiple_read c.args.a c.args.b c.ranges.a c.requires) c.in_default.ensures
