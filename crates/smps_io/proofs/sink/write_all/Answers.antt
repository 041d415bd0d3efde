use Rattle.std.proofs.Common.{arith}
use Rattle.std.proofs.lemmas.List.{take_rest}
use Rattle.smps_io.proofs.PutLemmas.{appends_more, rose_more}
use Rattle.smps_io.proofs.sink.write_all.Goals as goal

pub loop-at-preserved : goal.loop-at-preserved
loop-at-preserved g c = (
  omega (arith, c.in_ok-count.ensures.some),
  appends_more _ _ _ c.args.bytes.now c.loop-at.at c.in_ok-count.count c.loop-at.invariant.1 (simp (take_rest) at c.in_ok-count.ensures.appended),
  omega (arith, c.loop-at.invariant.2, c.put.ensures.cause.later),
  rose_more _ _ _ c.loop-at.at c.in_ok-count.count c.loop-at.invariant.3 c.in_ok-count.ensures.counts,
)
