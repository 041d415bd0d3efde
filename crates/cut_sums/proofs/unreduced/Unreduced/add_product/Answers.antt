use Rattle.std.proofs.Common.{inl, inr}
use Rattle.cut_sums.proofs.UnreducedLaws.{unadded, step_is}
use Rattle.cut_sums.proofs.unreduced.Unreduced.add_product.Goals as goal
use Rattle.cut_sums.proofs.unreduced.Unreduced.add_product.Goals.{then-is_zero-via-then-is_zero, then-is_zero-via-else-is_zero+then-is_zero-2}

pub returns-then-is_zero : goal.returns-then-is_zero
returns-then-is_zero c = unadded c.args.self c.args.factor c.args.times c.keeps_size.ensures
    (elim c.then-is_zero.branch [ then-is_zero-via-then-is_zero w ↦ inl (c.is_zero.ensures.0 w.if-is_zero.true) | then-is_zero-via-else-is_zero+then-is_zero-2 w ↦ inr (w.is_zero-else-is_zero.ensures.0 w.if-is_zero-2.true) ])

pub returns-in-Some : goal.returns-in-Some
returns-in-Some c = step_is c.args.self c.args.factor c.args.times c.in-Some.sum c.in-Some.ensures c.keeps_size-in-Some.ensures
