use Rattle.std.proofs.Common.{true, false, ◌≡◌, refl, sym, ap, ◌∙◌, ◌++◌, append-nil}
use Rattle.rationals.specs.Rational.{zero_ℚ}
use Rattle.frac128.proofs.FormLemmas.{put_zero, put_nonzero}
use Rattle.tail_risk.proofs.costs.push_nonzero.Goals as goal

pub returns-in_ok-push : goal.returns-in_ok-push
returns-in_ok-push c =
    let n : c.args.value ≡ zero_ℚ → ⊥ = λ e. (let q : false ≡ true = rw c.if-not-is_zero.true at (c.is_zero.ensures.1 e) in absurd (cc)) in
    c.in_ok-push.ensures.items ∙ ap (λ l. c.args.all.now.items ++ l) (sym (put_nonzero c.args.column c.args.value n))

pub returns-else-not-is_zero : goal.returns-else-not-is_zero
returns-else-not-is_zero c =
    sym (append-nil c.args.all.now.items) ∙ ap (λ l. c.args.all.now.items ++ l) (sym (put_zero c.args.column c.args.value (c.if-not-is_zero.ensures.0 refl)))
