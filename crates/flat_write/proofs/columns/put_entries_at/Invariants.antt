use Rattle.std.proofs.Common.{◌≡◌, ◌++◌, drop}
use Rattle.std.specs.List.{flat_map}
use Rattle.flat_write.specs.FlatText.{entry_text}
use Rattle.flat_write.proofs.columns.put_entries_at.Given as goal

abbrev pub invariant-loop-row : goal.invariant-loop-row
invariant-loop-row l =
    l.out.items ++ flat_map (entry_text l.name l.column l.node) (drop l.row-index l.rows) ≡ l.fn.out.items ++ flat_map (entry_text l.name l.column l.node) l.rows
