-- A form more, and none left.
use Rattle.std.proofs.Common.{◌∙◌, [], map}
use Rattle.core_defs.specs.declared.parts.RowDef.{RowDef}
use Rattle.smps_build.proofs.MapLoops.{map_more, map_end}
use Rattle.smps_build.proofs.forms.empty_forms.Goals as goal

pub loop-row-preserved : goal.loop-row-preserved
loop-row-preserved c =
    map_more (λ (row : RowDef). []) c.args.rows.now c.loop-row._row-index c._row-item.result c.loop-row.forms.items _ _ c.loop-row-test.true c._row-item.is c.empty.ensures c.in_ok-push.ensures.items
    ∙ c.loop-row.invariant

pub returns : goal.returns
returns c = map_end (λ (row : RowDef). []) c.args.rows.now c.loop-row._row-index c.loop-row.forms.items (map (λ (row : RowDef). []) c.args.rows.now) c.loop-row-test.false c.loop-row.invariant
