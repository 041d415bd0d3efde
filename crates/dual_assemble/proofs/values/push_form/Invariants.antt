use Rattle.std.proofs.Common.{◌≡◌, ◌++◌, ◌+◌, drop}
use Rattle.scen_defs.specs.Values.{EndsBefore}
use Rattle.dual_assemble.specs.Values.{node_values}
use Rattle.dual_assemble.proofs.Pushing.{Ready}
use Rattle.dual_assemble.proofs.values.push_form.Given as goal

abbrev pub invariant-loop-term : goal.invariant-loop-term
invariant-loop-term l = record {
  ready : Ready l.place (drop l.term-index l.term-items) l.values;
  ends : EndsBefore l.values (l.place + 1) 0;
  kept : l.values ++ node_values l.place (drop l.term-index l.term-items) ≡ l.fn.values ++ node_values l.place l.form;
}
