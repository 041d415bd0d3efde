use Rattle.std.proofs.Common.{ap, ◌∙◌, arith}
use Rattle.cut_defs.specs.Support.{support}
use Rattle.cut_proof.proofs.Behind.{more_rise, used_at}
use Rattle.cut_proof.proofs.stamps.with_uses.Goals as goal

-- what was merged rises again, and the next cut was merged
pub loop-one-preserved : goal.loop-one-preserved
loop-one-preserved c = record {
  rises = more_rise c.loop-one.all.items c.support.result.now c.in_ok-all.all.items _ c.loop-one.invariant.rises c.support.ensures c.in_ok-all.ensures;
  kept = used_at c.loop-one.all.items c.in_ok-all.all.items c.support.result.now _ c.args.used.now c.loop-one.one-index _ c.one-item.result (omega arith) c.loop-one-test.true c.one-item.is (c.support.ensures ∙ ap support c.cut.ensures) c.in_ok-all.ensures c.loop-one.invariant.kept;
}
