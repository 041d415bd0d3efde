use Rattle.std.proofs.Common.{◌≡◌, ◌++◌, drop, map}
use Rattle.rationals.specs.Forms.{IsForm}
use Rattle.scen_defs.specs.Lists.{Each}
use Rattle.scen_defs.specs.Values.{EndsBefore}
use Rattle.dual_assemble.specs.Values.{numbers_by_node, point_entries}
use Rattle.dual_assemble.proofs.values.points_of.Given as goal

abbrev pub invariant-loop-place : goal.invariant-loop-place
invariant-loop-place l = record {
  ends : EndsBefore l.values l.place 0;
  forms : Each IsForm (map point_entries (drop l.place l.points)) → Each IsForm (map point_entries l.points);
  kept : l.values ++ numbers_by_node l.place (map point_entries (drop l.place l.points)) ≡ numbers_by_node 0 (map point_entries l.points);
}
