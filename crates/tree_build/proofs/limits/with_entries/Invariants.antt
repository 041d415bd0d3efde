use Rattle.std.proofs.Common.{◌≡◌, ◌≤◌, ◌+◌, drop, sum_by}
use Rattle.build_defs.specs.Built.{most_node_parts}
use Rattle.tree_build.specs.Limits.{entry_count}
use Rattle.tree_build.proofs.limits.with_entries.Given as goal

abbrev pub invariant-loop-row : goal.invariant-loop-row
invariant-loop-row l = record {
  small : l.sum ≤ most_node_parts;
  kept : l.sum + sum_by entry_count (drop l.row-index l.rows) ≡ l.count + sum_by entry_count l.rows;
}
