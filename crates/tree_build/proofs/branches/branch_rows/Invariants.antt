use Rattle.std.proofs.Common.{◌≡◌, [], map, length, drop}
use Rattle.stoch_defs.specs.Random.{branch_content}
use Rattle.tree_build.specs.Numbering.{rows_content}
use Rattle.tree_build.specs.Branches.{branch_rows}
use Rattle.tree_build.proofs.branches.branch_rows.Given as goal

abbrev pub invariant-loop-number : goal.invariant-loop-number
invariant-loop-number l = record {
  long : length (rows_content l.rows.items) ≡ l.number;
  kept : branch_rows l.count (rows_content l.rows.items) (map branch_content (drop l.number l.branches)) ≡ branch_rows l.count [] (map branch_content l.branches);
}
