use Rattle.std.proofs.Common.{◌≡◌, true, false, sym, ap, ◌∙◌, ◌++◌}
use Rattle.rationals.specs.Rational.{zero_ℚ}
use Rattle.cut_sums.proofs.OuterLaws.{kept_as, own_as, zero_as}
use Rattle.cut_sums.proofs.gathered.push_outer.Goals as goal
use Rattle.cut_sums.proofs.gathered.push_outer.Goals.{else-not-is_zero-via-then-not-is_zero+else-not-is_own_near, else-not-is_zero-via-else-not-is_zero}

pub returns-in_ok-push : goal.returns-in_ok-push
returns-in_ok-push c =
    let n : c.term.inside.value ≡ zero_ℚ → ⊥ = λ e. (let q : false ≡ true = rw c.if-not-is_zero.true at (c.is_zero.ensures.1 e) in absurd (cc)) in
    let o = sym c.is_own_near.ensures ∙ c.if-not-is_own_near.true in
    c.in_ok-push.ensures.items ∙ ap (λ l. c.args.all.now.items ++ l) (kept_as c.args.bounds.now _ c.args.term c.term.view_is o n)

pub returns-else-not-is_zero : goal.returns-else-not-is_zero
returns-else-not-is_zero c = elim c.else-not-is_zero.branch [
  | else-not-is_zero-via-then-not-is_zero+else-not-is_own_near w ↦ own_as c.args.bounds.now _ c.args.term c.args.all.now.items c.term.view_is (sym w.is_own_near.ensures ∙ w.if-not-is_own_near.false)
  | else-not-is_zero-via-else-not-is_zero w ↦ zero_as c.args.bounds.now _ c.args.term c.args.all.now.items c.term.view_is (c.is_zero.ensures.0 w.if-not-is_zero.false)
]
