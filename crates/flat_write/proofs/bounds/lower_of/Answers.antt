use Rattle.std.proofs.Common.{sym, ap, ◌∙◌}
use Rattle.scen_defs.specs.declared.program.Column.{Column}
use Rattle.scen_defs.proofs.NodeReads.{column_read}
use Rattle.flat_write.proofs.ColumnLemmas.{column_beyond}
use Rattle.flat_write.proofs.bounds.lower_of.Goals as goal

pub returns-then-place-columns : goal.returns-then-place-columns
returns-then-place-columns c =
    ap (λ (d : Column). d.lower) (sym c.index-columns-place.is ∙ sym (column_read _ _ c.index-columns-place.result c.if-place-columns.true c.index-columns-place.is))

pub returns-else-place-columns : goal.returns-else-place-columns
returns-else-place-columns c = ap (λ (d : Column). d.lower) (sym (column_beyond _ _ c.if-place-columns.false))
