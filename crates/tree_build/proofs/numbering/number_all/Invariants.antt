use Rattle.std.proofs.Common.{◌≡◌, ◌≤◌, length, ◌++◌, [], drop}
use Rattle.build_defs.specs.Built.{most_nodes}
use Rattle.tree_build.specs.Numbering.{keys_of, debuts_from, all_debuts, paths_from, rows_content, paths_content}
use Rattle.tree_build.proofs.numbering.number_all.Given as goal

abbrev pub invariant-loop-scenario : goal.invariant-loop-scenario
invariant-loop-scenario l = record {
  paths : paths_content l.paths.items ++ paths_from l.debuts.items l.scenario (rows_content (drop l.scenario l.rows)) ≡ paths_from [] 0 (rows_content l.rows);
  debuts : debuts_from l.debuts.items (all_debuts l.scenario (rows_content (drop l.scenario l.rows))) ≡ debuts_from [] (all_debuts 0 (rows_content l.rows));
  tied : l.seen ≡ keys_of l.debuts.items;
  few : length l.debuts.items ≤ most_nodes;
}
