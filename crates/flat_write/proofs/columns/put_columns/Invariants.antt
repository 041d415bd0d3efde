use Rattle.std.proofs.Common.{◌≡◌, ◌++◌, drop}
use Rattle.std.specs.List.{flat_map}
use Rattle.scen_defs.specs.Program.{content, view_of}
use Rattle.flat_write.specs.FlatText.{column_text}
use Rattle.flat_write.proofs.columns.put_columns.Given as goal

abbrev pub invariant-loop-node : goal.invariant-loop-node
invariant-loop-node l =
    l.out.items ++ flat_map (λ n. flat_map (column_text (view_of (content l.program)) n) ((view_of (content l.program)).columns ((view_of (content l.program)).stage n))) (drop l.node-index l.live) ≡ l.fn.out.items ++ flat_map (λ n. flat_map (column_text (view_of (content l.program)) n) ((view_of (content l.program)).columns ((view_of (content l.program)).stage n))) l.live
