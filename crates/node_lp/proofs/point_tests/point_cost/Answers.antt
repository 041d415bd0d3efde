use Rattle.std.proofs.Common.{sym, ap₂, List, ◌∙◌}
use Rattle.std.proofs.lemmas.Result.{MatchResult-weaker}
use Rattle.rationals.specs.Rational.{ℚ, ◌+ℚ◌}
use Rattle.rationals.specs.Sparse.{coefficient}
use Rattle.cut_defs.specs.declared.datum.Share.{Share}
use Rattle.node_lp.specs.Records.{shared_cost}
use Rattle.node_lp.proofs.PointTests.{product_is}
use Rattle.node_lp.proofs.point_tests.point_cost.Goals as goal

pub returns : goal.returns
returns c = MatchResult-weaker c.shared_cost.result c.shared_cost.ensures
    (λ value e. e ∙ ap₂ (λ (q : ℚ) (ss : List Share). q +ℚ shared_cost ss c.args.costs.now)
    (product_is (coefficient c.args.point.now) c.zero.result c.in_ok-own.own c.terms.result.now c.args.task.now.datum.cost c.zero.ensures (c.terms.ensures ∙ c.cost.ensures) (sym c.in_ok-own.ensures))
    c.shares.ensures) (λ f e. tt)
