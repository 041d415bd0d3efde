use Rattle.std.proofs.Common.{◌≡◌, ◌∙◌, ◌+◌, ◌*◌, ◌^◌, ◌<◌, ◌≤◌, subst, sym, arith}
use Rattle.decimals.proofs.DigitSteps.{ten_step, grow_kept, grow_smaller, some_times, down_short}
use Rattle.decimals.proofs.digits.lengthened.Goals as goal

pub overflow_add-down : goal.overflow_add-down
overflow_add-down c =
    let it = c.lengthen in
    let short : it.down < 51 =
    down_short c.args.num it.down it.number c.args.den it.rest c.requires.some it.invariant.kept c.lengthen-test.true it.invariant.rest c.requires.fits in
    search (arith, short)

pub lengthen-smaller : goal.lengthen-smaller
lengthen-smaller c =
    let it = c.lengthen in
    let next = c.next_digit-next in
    let times : 0 < c.args.num * 10 ^ it.down = some_times c.args.num it.down c.requires.some in
    let some : 0 < it.number * c.args.den + it.rest = rw it.invariant.kept times in
    grow_smaller 1000000000000 it.number c.args.den it.rest next.result.quotient next.result.rest c.lengthen-test.true it.invariant.rest some
    next.ensures.whole

pub lengthen-preserved : goal.lengthen-preserved
lengthen-preserved c =
    let it = c.lengthen in
    let next = c.next_digit-next in
    record {
      most = omega (arith, c.lengthen-test.true, next.ensures.digit);
      rest = next.ensures.rest;
      kept = rw (ten_step it.down)
          (grow_kept it.number it.rest c.args.den c.args.num (10 ^ it.down) next.result.quotient next.result.rest it.invariant.kept next.ensures.whole);
    }
