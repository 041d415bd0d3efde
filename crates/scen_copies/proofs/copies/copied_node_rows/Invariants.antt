use Rattle.std.proofs.Common.{◌≡◌, ◌++◌, drop}
use Rattle.scen_copies.proofs.copies.copied_node_rows.Given as goal

abbrev pub invariant-loop-row : goal.invariant-loop-row
invariant-loop-row l = l.all.items ++ drop l.row-index l.rows ≡ l.rows
