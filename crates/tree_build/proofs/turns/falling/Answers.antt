use Rattle.std.proofs.Common.{arith}
use Rattle.tree_build.proofs.TurnLemmas.{run_next}
use Rattle.tree_build.proofs.turns.falling.Goals as goal

pub run-preserved : goal.run-preserved
run-preserved c = record {
  some = omega arith;
  within = omega (arith, c.run-test.true);
  falls = run_next c.args.sets.now c.run.count c.index-sets-count.result c.index-sets-count-in-run.result c.run.invariant.some c.run-test.true c.index-sets-count.is c.index-sets-count-in-run.is
      c.run.invariant.falls (c.are_falling.ensures c.if-are_falling.true);
}
