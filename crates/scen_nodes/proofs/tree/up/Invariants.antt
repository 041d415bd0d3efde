use Rattle.std.proofs.Common.{◌≡◌}
use Rattle.scen_defs.specs.Program.{content, view_of}
use Rattle.scen_defs.specs.Flat.{up}
use Rattle.scen_nodes.proofs.tree.up.Given as goal

abbrev pub invariant-loop-stage : goal.invariant-loop-stage
invariant-loop-stage l = l.at ≡ up (view_of (content l.program)) l._stage l.node
