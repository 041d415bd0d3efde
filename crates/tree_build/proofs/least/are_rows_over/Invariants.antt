use Rattle.std.proofs.Common.{◌≡◌, ◌≤◌, [], drop, map}
use Rattle.stoch_defs.specs.Random.{branch_content}
use Rattle.build_defs.specs.Built.{most_node_parts}
use Rattle.tree_build.specs.Values.{all_content}
use Rattle.tree_build.specs.Numbering.{paths_content}
use Rattle.tree_build.specs.Least.{branch_counts}
use Rattle.tree_build.proofs.LeastLemmas.{total}
use Rattle.tree_build.proofs.least.are_rows_over.Given as goal

abbrev pub invariant-loop-debut : goal.invariant-loop-debut
invariant-loop-debut l = record {
  kept : branch_counts (all_content l.base) (map branch_content l.branches) (paths_content l.paths) l.counts.items (drop l.debut-index l.debuts)
      ≡ branch_counts (all_content l.base) (map branch_content l.branches) (paths_content l.paths) [] l.debuts;
  rows : l.rows ≡ total l.counts.items;
  small : l.rows ≤ most_node_parts;
}
