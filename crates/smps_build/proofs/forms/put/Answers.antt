use Rattle.std.proofs.Common.{◌≡◌, true, false, ◌++◌, suc, sym, ap, subst, ◌∙◌, append-nil}
use Rattle.rationals.specs.Rational.{zero_ℚ}
use Rattle.rationals.specs.Forms.{EndsBelow}
use Rattle.frac128.proofs.FormLemmas.{put_zero, put_nonzero}
use Rattle.smps_build.proofs.BelowLemmas.{below-more, below-push}
use Rattle.smps_build.proofs.forms.put.Goals as goal

pub returns-in_ok-push-clause-ok : goal.returns-in_ok-push-clause-ok
returns-in_ok-push-clause-ok c =
    let n : c.args.value ≡ zero_ℚ → ⊥ = λ e. (let q : false ≡ true = rw c.if-not-is_zero.true at (c.is_zero.ensures.1 e) in absurd (cc)) in
    c.in_ok-push.ensures.ok ∙ ap (λ l. c.args.form.now ++ l) (sym (put_nonzero c.args.column c.args.value n))

pub returns-in_ok-push-clause-below : goal.returns-in_ok-push-clause-below
returns-in_ok-push-clause-below c = subst (EndsBelow (suc c.args.column)) (sym c.in_ok-push.ensures.ok) (below-push _ _ _ c.requires)

pub returns-else-not-is_zero-clause-ok : goal.returns-else-not-is_zero-clause-ok
returns-else-not-is_zero-clause-ok c =
    sym (append-nil c.args.form.now) ∙ ap (λ l. c.args.form.now ++ l) (sym (put_zero c.args.column c.args.value (c.is_zero.ensures.0 c.if-not-is_zero.false)))

pub returns-else-not-is_zero-clause-below : goal.returns-else-not-is_zero-clause-below
returns-else-not-is_zero-clause-below c = below-more _ _ c.requires
