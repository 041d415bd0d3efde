use Rattle.std.proofs.Common.{ap}
use Rattle.tree_build.specs.declared.limits.Counts.{Counts}
use Rattle.tree_build.specs.Values.{all_content}
use Rattle.tree_build.specs.Limits.{entries_in, rows_in, costs_in}
use Rattle.tree_build.proofs.LeastLemmas.{core_step, core_over}
use Rattle.tree_build.proofs.least.is_core_over.Goals as goal

pub returns-in-None : goal.returns-in-None
returns-in-None c = λ _. core_over c.loop-debut.counts (all_content c.args.base.now) c.args.debuts.now c.loop-debut.debut-index c.loop-debut-test.true c.in-None.ensures
    c.loop-debut.invariant.entries c.loop-debut.invariant.rows c.loop-debut.invariant.costs

pub loop-debut-preserved : goal.loop-debut-preserved
loop-debut-preserved c =
    let i = c.loop-debut.debut-index in
    let base = all_content c.args.base.now in
    let debuts = c.args.debuts.now in
    let inside = c.loop-debut-test.true in
    let kept = c.loop-debut.invariant in
    let added = c.in-Some.ensures.0 in
    record {
      entries = core_step entries_in base debuts i c.loop-debut.counts.entries _ _ inside (ap (λ (s : Counts). s.entries) added) kept.entries;
      rows = core_step rows_in base debuts i c.loop-debut.counts.rows _ _ inside (ap (λ (s : Counts). s.rows) added) kept.rows;
      costs = core_step costs_in base debuts i c.loop-debut.counts.costs _ _ inside (ap (λ (s : Counts). s.costs) added) kept.costs;
      small = c.in-Some.ensures.1;
    }
