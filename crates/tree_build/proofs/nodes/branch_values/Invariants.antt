use Rattle.std.proofs.Common.{◌≡◌, [], map, drop, sum_by}
use Rattle.stoch_defs.specs.Random.{branch_content}
use Rattle.time_defs.specs.Periods.{stages}
use Rattle.tree_build.specs.Values.{all_content}
use Rattle.tree_build.specs.Numbering.{paths_content}
use Rattle.tree_build.specs.Limits.{entries_in, rows_in, costs_in, AreSmall}
use Rattle.tree_build.specs.Nodes.{branch_nodes}
use Rattle.tree_build.proofs.nodes.branch_values.Given as goal

abbrev pub invariant-loop-debut : goal.invariant-loop-debut
invariant-loop-debut l = record {
  kept : branch_nodes l.core (stages l.periods) (all_content l.base) (map branch_content l.branches) (paths_content l.paths) (all_content l.all.items) (drop l.debut-index l.debuts)
      ≡ branch_nodes l.core (stages l.periods) (all_content l.base) (map branch_content l.branches) (paths_content l.paths) [] l.debuts;
  entries : l.counts.entries ≡ sum_by entries_in (all_content l.all.items);
  rows : l.counts.rows ≡ sum_by rows_in (all_content l.all.items);
  costs : l.counts.costs ≡ sum_by costs_in (all_content l.all.items);
  small : AreSmall l.counts;
}
