use Rattle.std.proofs.Common.{◌≡◌, ◌≤◌, ◌-◌, length}
use Rattle.lp_defs.specs.Phases.{driven}
use Rattle.lp_defs.specs.Stages.{HasRisen}
use Rattle.simplex_core.proofs.drive.drive.Given as goal

abbrev pub invariant-loop-index : goal.invariant-loop-index
invariant-loop-index l = record {
  within : l.count ≤ l.pivots;
  risen : HasRisen l.tableau;
  long : length l.tableau.rows ≡ length l.fn.tableau.rows;
  kept : driven l.columns (length l.fn.tableau.rows - l.index) l.index (l.pivots - l.count) l.count l.tableau ≡ driven l.columns (length l.fn.tableau.rows) 0 (l.pivots - l.made) l.made l.fn.tableau;
}
