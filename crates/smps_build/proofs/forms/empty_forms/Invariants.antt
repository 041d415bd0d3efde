use Rattle.std.proofs.Common.{◌≡◌, [], ◌++◌, drop, map}
use Rattle.core_defs.specs.declared.parts.RowDef.{RowDef}
use Rattle.smps_build.proofs.forms.empty_forms.Given as goal

abbrev pub invariant-loop-row : goal.invariant-loop-row
invariant-loop-row l = l.forms.items ++ map (λ (row : RowDef). []) (drop l._row-index l.rows) ≡ map (λ (row : RowDef). []) l.rows
