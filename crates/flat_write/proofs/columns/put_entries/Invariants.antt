use Rattle.std.proofs.Common.{◌≡◌, ◌++◌, drop}
use Rattle.std.specs.List.{flat_map}
use Rattle.scen_defs.specs.Program.{content, view_of}
use Rattle.flat_write.specs.FlatText.{entry_text}
use Rattle.flat_write.proofs.columns.put_entries.Given as goal

abbrev pub invariant-loop-node : goal.invariant-loop-node
invariant-loop-node l =
    l.out.items ++ flat_map (λ m. flat_map (entry_text l.name l.column m) ((view_of (content l.program)).rows m)) (drop l.node-index l.nodes) ≡ l.fn.out.items ++ flat_map (λ m. flat_map (entry_text l.name l.column m) ((view_of (content l.program)).rows m)) l.nodes
