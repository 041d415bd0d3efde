use Rattle.scen_defs.specs.Lists.{Each}
use Rattle.scen_defs.specs.Values.{at}
use Rattle.scen_defs.specs.Flat.{along}
use Rattle.scen_defs.specs.Program.{content, view_of}
use Rattle.scen_model.proofs.NodeSteps.{live_from}
use Rattle.rounded_ends.specs.Met.{RowsMet}
use Rattle.rounded_ends.proofs.meets.are_all_rows_met.Given as goal

abbrev pub invariant-loop-place : goal.invariant-loop-place
invariant-loop-place l =
    let v = view_of (content l.program) in
    Each (λ n. RowsMet (along v (at l.values) n) (v.rows n)) (live_from l.place l.program.nodes.items) → Each (λ n. RowsMet (along v (at l.values) n) (v.rows n)) v.live
