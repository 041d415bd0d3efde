use Rattle.std.proofs.Common.{sym, ap, ◌∙◌}
use Rattle.edit_defs.specs.After.{change_row, with_ends}
use Rattle.edit_entries.proofs.OneRow.{once_set}
use Rattle.edit_entries.proofs.set.set_row_ends.Goals as goal

pub returns : goal.returns
returns c = once_set c.args.row (with_ends c.args.ends.now) c.args.rows.now c.row_place-place.result c.index-rows-place.result c.set_row.new.found
    c.row_place-place.ensures.within c.index-rows-place.is (c.row_place-place.ensures.row c.index-rows-place.result c.index-rows-place.is)
    (c.set_row.ensures ∙ ap (change_row c.args.row (with_ends c.args.ends.now)) (sym c.index-rows-place.is)) c.requires
