use Rattle.std.proofs.Common.{sym, ◌∙◌}
use Rattle.rationals.specs.Rational.{at_most_true}
use Rattle.node_lp.proofs.point_tests.at_most.Goals as goal

pub returns-then-is_at_most : goal.returns-then-is_at_most
returns-then-is_at_most c = at_most_true c.args.a c.args.b (sym c.is_at_most.ensures ∙ c.if-is_at_most.true)
