use Rattle.std.proofs.Common.{sym, ap, ◌∙◌}
use Rattle.edit_defs.specs.After.{change_row, with_entry}
use Rattle.edit_entries.proofs.OneRow.{once_set}
use Rattle.edit_entries.proofs.set.set_rows_entry.Goals as goal

pub returns-clause-ok : goal.returns-clause-ok
returns-clause-ok c = once_set c.args.row (with_entry c.args.column c.args.value) c.args.rows.now c.row_place-place.result c.index-rows-place.result c.set_row_entry.new.found
    c.row_place-place.ensures.within c.index-rows-place.is (c.row_place-place.ensures.row c.index-rows-place.result c.index-rows-place.is)
    (c.in_ok-set_row_entry.ensures.ok ∙ ap (change_row c.args.row (with_entry c.args.column c.args.value)) (sym c.index-rows-place.is)) c.requires
