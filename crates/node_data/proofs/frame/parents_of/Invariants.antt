use Rattle.std.proofs.Common.{◌≡◌, ◌++◌, drop, map}
use Rattle.scen_defs.specs.Program.{nodes_content}
use Rattle.node_data.specs.Frames.{parent_of}
use Rattle.node_data.proofs.frame.parents_of.Given as goal

abbrev pub invariant-loop-place : goal.invariant-loop-place
invariant-loop-place l = l.parents.items ++ map parent_of (nodes_content (drop l.place-index l.nodes)) ≡ map parent_of (nodes_content l.nodes)
