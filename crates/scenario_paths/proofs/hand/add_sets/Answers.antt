-- The value before those that are set is set.
use Rattle.std.proofs.Common.{arith}
use Rattle.scenario_paths.proofs.HandLemmas.{sets_step}
use Rattle.scenario_paths.proofs.hand.add_sets.Goals as goal

pub loop-left-preserved : goal.loop-left-preserved
loop-left-preserved c = record {
  within = omega arith;
  values = sets_step c.args.sets.now c.loop-left.values.entries c.insert.new.self.entries c.args.values.now.entries c.loop-left.left c.index-sets-left.result
      (omega arith) c.loop-left.invariant.within c.index-sets-left.is c.in_ok-insert.ensures.updates.0 c.loop-left.invariant.values;
}
