use Rattle.std.proofs.Common.{◌≡◌, ◌++◌, map, drop, sum_by}
use Rattle.stoch_defs.specs.Random.{block_content}
use Rattle.time_defs.specs.Periods.{stages}
use Rattle.tree_build.specs.Values.{all_content}
use Rattle.tree_build.specs.Limits.{entries_in, rows_in, costs_in, AreSmall}
use Rattle.tree_build.specs.Nodes.{block_node}
use Rattle.tree_build.proofs.nodes.block_values.Given as goal

abbrev pub invariant-loop-debut : goal.invariant-loop-debut
invariant-loop-debut l = record {
  kept : all_content l.all.items ++ map (block_node l.core (stages l.periods) (all_content l.base) (map block_content l.blocks) l.wheels) (drop l.debut-index l.debuts)
      ≡ map (block_node l.core (stages l.periods) (all_content l.base) (map block_content l.blocks) l.wheels) l.debuts;
  entries : l.counts.entries ≡ sum_by entries_in (all_content l.all.items);
  rows : l.counts.rows ≡ sum_by rows_in (all_content l.all.items);
  costs : l.counts.costs ≡ sum_by costs_in (all_content l.all.items);
  small : AreSmall l.counts;
}
