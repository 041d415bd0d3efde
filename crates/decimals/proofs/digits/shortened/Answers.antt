use Rattle.std.proofs.Common.{◌+◌, ◌*◌, ◌/◌, ◌^◌, ◌<◌, ◌≤◌, arith, Fits-lit}
use Rattle.decimals.proofs.DigitSteps.{ten_step, drop_low, drop_high, up_short}
use Rattle.decimals.proofs.digits.shortened.Goals as goal

pub overflow_add-up : goal.overflow_add-up
overflow_add-up c =
    let some : 0 < c.shorten.number = omega (arith, c.shorten-test.true) in
    let short : c.shorten.up < 39 = up_short c.shorten.number c.shorten.up c.args.whole some c.shorten.invariant.low c.requires.fits in
    search (arith, short)

pub shorten-preserved : goal.shorten-preserved
shorten-preserved c =
    let n = c.shorten.number in
    let p = 10 ^ c.shorten.up in
    let tens : 10 * (n / 10) ≤ n = omega arith in
    let ones : n + 1 ≤ 10 * (n / 10) + 10 = omega arith in
    record {
      least = omega (arith, c.shorten-test.true);
      low = rw (ten_step c.shorten.up) (drop_low n (n / 10) p c.args.whole tens c.shorten.invariant.low);
      high = rw (ten_step c.shorten.up) (drop_high n (n / 10) p c.args.whole ones c.shorten.invariant.high);
    }

pub returns-clause-short : goal.returns-clause-short
returns-clause-short c =
    let some : 0 < c.shorten.number = omega (arith, c.shorten.invariant.least) in
    up_short c.shorten.number c.shorten.up c.args.whole some c.shorten.invariant.low c.requires.fits
