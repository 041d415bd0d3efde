use Rattle.std.proofs.Common.{◌≡◌, ◌++◌, drop}
use Rattle.scen_defs.specs.Lists.{keep}
use Rattle.scen_defs.specs.Program.{content, view_of}
use Rattle.scen_defs.specs.Flat.{is_above}
use Rattle.flat_write.proofs.lists.subtree.Given as goal

abbrev pub invariant-loop-lower : goal.invariant-loop-lower
invariant-loop-lower l =
    l.nodes.items ++ keep (λ m. is_above (view_of (content l.program)) l.node m) (drop l.lower-index l.live) ≡ keep (λ m. is_above (view_of (content l.program)) l.node m) l.live
