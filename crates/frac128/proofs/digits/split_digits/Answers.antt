use Rattle.std.proofs.Common.{sym, ap, subst, ◌∙◌, take, ◌++◌, append-nil, drop_of_length-le}
use Rattle.frac128.specs.Numbers.{digits}
use Rattle.frac128.specs.Significand.{AllDigits}
use Rattle.frac128.proofs.DigitLemmas.{all_digits, all_left}
use Rattle.frac128.proofs.digits.split_digits.Goals as goal

pub returns-clause-front : goal.returns-clause-front
returns-clause-front c =
    c.split_at-2.ensures.front ∙ sym (append-nil (take c.digits.i c.args.text.now))
    ∙ ap (λ l. take c.digits.i c.args.text.now ++ digits l) (sym (drop_of_length-le c.args.text.now c.digits-test.false)) ∙ c.digits.invariant.front

pub returns-then-not-is_ascii_digit-clause-all : goal.returns-then-not-is_ascii_digit-clause-all
returns-then-not-is_ascii_digit-clause-all c =
    subst AllDigits (sym c.split_at.ensures.front) (all_left _ _ (subst AllDigits (sym c.digits.invariant.front) (all_digits c.args.text.now)))

pub returns-clause-all : goal.returns-clause-all
returns-clause-all c =
    subst AllDigits (sym c.split_at-2.ensures.front) (all_left _ _ (subst AllDigits (sym c.digits.invariant.front) (all_digits c.args.text.now)))
