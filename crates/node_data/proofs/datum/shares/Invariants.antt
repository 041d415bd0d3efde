use Rattle.std.proofs.Common.{◌≡◌, ◌++◌, drop, map}
use Rattle.node_data.specs.NodeData.{share_in}
use Rattle.node_data.proofs.datum.shares.Given as goal

abbrev pub invariant-loop-child : goal.invariant-loop-child
invariant-loop-child l = l.all.items ++ map (share_in l.tree) (drop l.child-index l.children) ≡ map (share_in l.tree) l.children
