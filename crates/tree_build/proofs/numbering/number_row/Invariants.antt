use Rattle.std.proofs.Common.{◌≡◌, ◌≤◌, length, ◌++◌, drop}
use Rattle.build_defs.specs.Built.{most_nodes}
use Rattle.tree_build.specs.Numbering.{keys_of, debuts_from, numbers_from, row_debuts}
use Rattle.tree_build.proofs.numbering.number_row.Given as goal

abbrev pub invariant-loop-stage : goal.invariant-loop-stage
invariant-loop-stage l = record {
  path : l.path.items ++ numbers_from l.debuts.items (row_debuts l.scenario l.stage (drop l.stage l.row)) ≡ numbers_from l.initial.debuts.items (row_debuts l.scenario 0 l.row);
  debuts : debuts_from l.debuts.items (row_debuts l.scenario l.stage (drop l.stage l.row)) ≡ debuts_from l.initial.debuts.items (row_debuts l.scenario 0 l.row);
  tied : l.seen ≡ keys_of l.debuts.items;
  few : length l.debuts.items ≤ most_nodes;
}
