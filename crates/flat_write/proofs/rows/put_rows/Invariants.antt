use Rattle.std.proofs.Common.{◌≡◌, ◌++◌, drop}
use Rattle.std.specs.List.{flat_map}
use Rattle.scen_defs.specs.Program.{content, view_of}
use Rattle.flat_write.specs.FlatText.{row_text}
use Rattle.flat_write.proofs.rows.put_rows.Given as goal

abbrev pub invariant-loop-node : goal.invariant-loop-node
invariant-loop-node l =
    l.out.items ++ flat_map (λ n. flat_map (row_text l.part n) ((view_of (content l.program)).rows n)) (drop l.node-index l.live) ≡ l.fn.out.items ++ flat_map (λ n. flat_map (row_text l.part n) ((view_of (content l.program)).rows n)) l.live
