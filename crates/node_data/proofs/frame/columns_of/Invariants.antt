use Rattle.std.proofs.Common.{◌≡◌, drop, length}
use Rattle.scen_defs.specs.Program.{content, view_of}
use Rattle.node_data.specs.Frames.{stage_lists, columns_from}
use Rattle.node_data.proofs.FrameLemmas.{finished}
use Rattle.node_data.proofs.frame.columns_of.Given as goal

abbrev pub invariant-loop-number : goal.invariant-loop-number
invariant-loop-number l =
    finished (drop l.number l.program.columns.items) l.number 0 (stage_lists l.all.items)
    ≡ columns_from (view_of (content l.program)) 0 (length l.program.periods.items)
