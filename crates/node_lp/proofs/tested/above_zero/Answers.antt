use Rattle.std.proofs.Common.{sym, subst, ◌∙◌}
use Rattle.rationals.specs.Rational.{at_most_false, ◌<ℚ◌}
use Rattle.node_lp.proofs.tested.above_zero.Goals as goal

pub returns-else-is_at_most : goal.returns-else-is_at_most
returns-else-is_at_most c =
    subst (λ q. q <ℚ c.args.number) c.zero.ensures (at_most_false c.args.number c.zero.result (sym c.is_at_most.ensures ∙ c.if-is_at_most.false))
