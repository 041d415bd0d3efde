use Rattle.std.proofs.Common.{true, false, ◌≡◌, sym, ap, ◌∙◌, ◌++◌, append-nil}
use Rattle.rationals.specs.Rational.{zero_ℚ}
use Rattle.frac128.proofs.FormLemmas.{put_zero, put_nonzero}
use Rattle.tail_risk.proofs.costs.with_nonzero.Goals as goal

pub returns-then-is_zero : goal.returns-then-is_zero
returns-then-is_zero c =
    sym (append-nil c.args.form) ∙ ap (λ l. c.args.form ++ l) (sym (put_zero c.args.column c.args.cost (c.is_zero.ensures.0 c.if-is_zero.true)))

pub returns : goal.returns
returns c =
    let n : c.args.cost ≡ zero_ℚ → ⊥ = λ e. (let q : false ≡ true = rw c.if-is_zero.false at (c.is_zero.ensures.1 e) in absurd (cc)) in
    c.in_ok-push.ensures.ok ∙ ap (λ l. c.args.form ++ l) (sym (put_nonzero c.args.column c.args.cost n))
