use Rattle.std.proofs.Common.{◌≡◌, ◌++◌, drop}
use Rattle.std.specs.List.{flat_map}
use Rattle.flat_write.specs.FlatText.{row_text}
use Rattle.flat_write.proofs.rows.put_rows_at.Given as goal

abbrev pub invariant-loop-row : goal.invariant-loop-row
invariant-loop-row l =
    l.out.items ++ flat_map (row_text l.part l.node) (drop l.row-index l.rows) ≡ l.fn.out.items ++ flat_map (row_text l.part l.node) l.rows
