use Rattle.std.proofs.Common.{◌≡◌, ◌+◌, drop, sum_by}
use Rattle.tree_build.specs.Values.{all_content}
use Rattle.tree_build.specs.Limits.{entries_in, rows_in, costs_in, AreSmall}
use Rattle.tree_build.specs.Least.{core_nodes}
use Rattle.tree_build.proofs.least.is_core_over.Given as goal

abbrev pub invariant-loop-debut : goal.invariant-loop-debut
invariant-loop-debut l = record {
  entries : l.counts.entries + sum_by entries_in (core_nodes (all_content l.base) (drop l.debut-index l.debuts)) ≡ sum_by entries_in (core_nodes (all_content l.base) l.debuts);
  rows : l.counts.rows + sum_by rows_in (core_nodes (all_content l.base) (drop l.debut-index l.debuts)) ≡ sum_by rows_in (core_nodes (all_content l.base) l.debuts);
  costs : l.counts.costs + sum_by costs_in (core_nodes (all_content l.base) (drop l.debut-index l.debuts)) ≡ sum_by costs_in (core_nodes (all_content l.base) l.debuts);
  small : AreSmall l.counts;
}
