use Rattle.std.proofs.Common.{subst, ℕ}
use Rattle.frac128.specs.Significand.{IsSignificand}
use Rattle.frac128.proofs.LiteralLemmas.{long_first, number-append}
use Rattle.frac128.proofs.significand.Significand.of_digits.Goals as goal

pub returns-in_err-with_digits : goal.returns-in_err-with_digits
returns-in_err-with_digits c =
    rw c.from_residual.ensures (long_first c.args.whole.now c.args.places.now c.requires.places c.in_err-with_digits.ensures.value)

pub returns : goal.returns
returns c =
    let S : ℕ → Type 0 = λ n. IsSignificand n c.with_digits-2.result in
    subst S (number-append c.args.whole.now c.args.places.now _ _ c.in_ok-with_digits.ensures.value.1) c.with_digits-2.ensures.value
