use Rattle.std.proofs.Common.{◌≡◌, ◌++◌, drop}
use Rattle.std.specs.List.{flat_map}
use Rattle.scen_defs.specs.Program.{content, view_of}
use Rattle.flat_write.specs.FlatText.{bound_text}
use Rattle.flat_write.proofs.bounds.put_bounds_at.Given as goal

abbrev pub invariant-loop-column : goal.invariant-loop-column
invariant-loop-column l =
    l.out.items ++ flat_map (bound_text (view_of (content l.program)) l.node) (drop l.column-index l.columns) ≡ l.fn.out.items ++ flat_map (bound_text (view_of (content l.program)) l.node) l.columns
