use Rattle.rationals.specs.Rational.{zero_ℚ}
use Rattle.scen_defs.specs.Values.{at}
use Rattle.scen_defs.specs.Program.{content, view_of}
use Rattle.scen_model.proofs.NodeSteps.{live_from}
use Rattle.rounded_ends.specs.Runs.{Runs, rows_good, rows_worth}
use Rattle.rounded_ends.proofs.worths.add_all_rows.Given as goal

abbrev pub invariant-loop-place : goal.invariant-loop-place
invariant-loop-place l =
    let v = view_of (content l.program) in
    Runs l.side (rows_good v (at l.values)) (rows_worth v (at l.values)) zero_ℚ v.live l.sum (live_from l.place l.program.nodes.items)
