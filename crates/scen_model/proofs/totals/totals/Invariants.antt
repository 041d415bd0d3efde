use Rattle.std.proofs.Common.{◌≡◌, drop}
use Rattle.scen_defs.specs.Lists.{places}
use Rattle.scen_defs.specs.Program.{is_live, nodes_content, content, view_of}
use Rattle.scen_model.specs.Walks.{totals_walk}
use Rattle.scen_model.proofs.totals.totals.Given as goal

abbrev pub invariant-loop-node : goal.invariant-loop-node
invariant-loop-node l = totals_walk (view_of (content l.program)) (places is_live l.node (nodes_content (drop l.node l.program.nodes.items))) ≡ totals_walk (view_of (content l.program)) (view_of (content l.program)).live
