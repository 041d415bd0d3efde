use Rattle.std.proofs.Common.{rules, Ok, ◌<◌, ◌∙◌, ap, arith}
use Rattle.std.specs.Prelude.{FitsSigned, ℤ, pos, neg_ℤ, ◌+ℤ◌, length}
use Rattle.std.specs.Int.{w32, w128}
use Rattle.std.proofs.lemmas.Int.{to_z-of_z}
use Rattle.frac128.specs.Numbers.{power_value}
use Rattle.frac128.proofs.LiteralLemmas.{long_value, zero_value, found_value, some_left, some_right}
use Rattle.frac128.proofs.literal.decimal.Goals as goal
use Rattle.frac128.proofs.literal.decimal.Goals.{else-is_empty-via-then-is_empty+else-is_empty-2, else-is_empty-via-else-is_empty}

pub returns-in_default-of_digits : goal.returns-in_default-of_digits
returns-in_default-of_digits c =
    long_value c.args.is_negative c.args.whole.now c.args.places.now c.args.rest.now _ c.in-Some.ensures c.in_default-of_digits.ensures

pub returns-then-number-eq0 : goal.returns-then-number-eq0
returns-then-number-eq0 c =
    let t = rw c.if-number-eq0.true at c.in-Some-of_digits.ensures.1 in
    ap Ok c.zero.ensures ∙ elim c.else-is_empty.branch [
      | else-is_empty-via-then-is_empty+else-is_empty-2 w ↦
          zero_value c.args.is_negative c.args.whole.now c.args.places.now c.args.rest.now _ _ (some_right c.args.whole.now c.args.places.now w.if-is_empty-2.ensures) c.in-Some.ensures t
      | else-is_empty-via-else-is_empty w ↦
          zero_value c.args.is_negative c.args.whole.now c.args.places.now c.args.rest.now _ _ (some_left c.args.whole.now c.args.places.now w.if-is_empty.ensures) c.in-Some.ensures t
    ]

pub returns : goal.returns
returns c =
    let m : 0 < c.in-Some-of_digits.number.m = omega (arith, c.if-number-eq0.false) in
    let f : FitsSigned w128 c.without_point-exponent.result = search rules in
    let g : FitsSigned w32 c.in-Some.exponent = search rules in
    let shift : ℤ → ℤ = λ e. (e +ℤ neg_ℤ (pos (length c.args.places.now))) +ℤ pos c.in-Some-of_digits.number.zeros in
    c.power.ensures ∙ ap (power_value c.args.is_negative c.in-Some-of_digits.number.m) (to_z-of_z w128 c.without_point-exponent.result f ∙ c.without_point-exponent.ensures ∙ ap shift (to_z-of_z w32 c.in-Some.exponent g))
    ∙ found_value c.args.is_negative c.args.whole.now c.args.places.now c.args.rest.now _ _ _ m c.in-Some.ensures c.in-Some-of_digits.ensures.1
