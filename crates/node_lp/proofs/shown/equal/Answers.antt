use Rattle.std.proofs.Common.{sym, ◌∙◌}
use Rattle.rationals.specs.OrderLaws.{same_means}
use Rattle.node_lp.proofs.shown.equal.Goals as goal

pub returns-then-is_same : goal.returns-then-is_same
returns-then-is_same c = (same_means c.args.a c.args.b).0 (sym c.is_same.ensures ∙ c.if-is_same.true)
