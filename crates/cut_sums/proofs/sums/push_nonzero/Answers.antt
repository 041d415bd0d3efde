use Rattle.std.proofs.Common.{true, false, ◌≡◌, refl, sym, ap, ◌∙◌, ◌++◌, append-nil}
use Rattle.rationals.specs.Rational.{zero_ℚ}
use Rattle.frac128.proofs.FormLemmas.{put_zero, put_nonzero}
use Rattle.cut_sums.proofs.sums.push_nonzero.Goals as goal

pub returns-in_ok-push : goal.returns-in_ok-push
returns-in_ok-push c =
    let n : c.args.value ≡ zero_ℚ → ⊥ = λ e. (let q : false ≡ true = rw c.if-not-is_zero.true at (c.is_zero.ensures.1 e) in absurd (cc)) in
    c.in_ok-push.ensures.ok ∙ ap (λ l. c.args.form.now ++ l) (sym (put_nonzero c.args.column c.args.value n))

pub returns-else-not-is_zero : goal.returns-else-not-is_zero
returns-else-not-is_zero c =
    sym (append-nil c.args.form.now) ∙ ap (λ l. c.args.form.now ++ l) (sym (put_zero c.args.column c.args.value (c.if-not-is_zero.ensures.0 refl)))
