use Rattle.std.proofs.Common.{sym, subst}
use Rattle.rationals.specs.Intervals.{Between}
use Rattle.rationals.specs.Sparse.{coefficient}
use Rattle.cut_sums.proofs.TallyLaws.{on_ok}
use Rattle.node_lp.proofs.PointTests.{product_is}
use Rattle.node_lp.proofs.point_tests.test_row.Goals as goal

pub returns : goal.returns
returns c = on_ok c.test_between.result
    (λ (b : Between c.args.row.now.low c.args.row.now.high c.in_ok-sum.sum). record {
      meets = subst (Between c.args.row.now.low c.args.row.now.high)
          (product_is (coefficient c.args.at.now) c.zero.result c.in_ok-sum.sum c.terms.result.now c.args.row.now.entries c.zero.ensures c.terms.ensures (sym c.in_ok-sum.ensures)) b;
    }) c.test_between.ensures
