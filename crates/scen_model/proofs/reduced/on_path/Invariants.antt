use Rattle.std.proofs.Common.{◌≡◌, ◌-◌}
use Rattle.scen_defs.specs.Program.{content, view_of}
use Rattle.scen_defs.specs.Flat.{up}
use Rattle.scen_model.proofs.reduced.on_path.Given as goal

abbrev pub invariant-loop-above : goal.invariant-loop-above
invariant-loop-above l = l.at ≡ up (view_of (content l.program)) (l._above - l.stage) l.node
