use Rattle.std.proofs.Common.{◌≡◌, ◌++◌, drop}
use Rattle.rationals.specs.Forms.{IsForm}
use Rattle.scen_defs.specs.Lists.{Each}
use Rattle.scen_defs.specs.Values.{EndsBefore}
use Rattle.dual_assemble.specs.Values.{numbers_by_node}
use Rattle.dual_assemble.proofs.values.values_of.Given as goal

abbrev pub invariant-loop-place : goal.invariant-loop-place
invariant-loop-place l = record {
  ends : EndsBefore l.values l.place 0;
  forms : Each IsForm (drop l.place l.forms) → Each IsForm l.forms;
  kept : l.values ++ numbers_by_node l.place (drop l.place l.forms) ≡ numbers_by_node 0 l.forms;
}
