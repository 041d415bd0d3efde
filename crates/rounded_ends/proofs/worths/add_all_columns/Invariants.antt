use Rattle.scen_defs.specs.Program.{content, view_of}
use Rattle.scen_model.specs.Gathered.{lists_in, column_number}
use Rattle.scen_model.proofs.NodeSteps.{live_from}
use Rattle.rounded_ends.specs.Runs.{Runs, columns_good, columns_worth}
use Rattle.rounded_ends.proofs.worths.add_all_columns.Given as goal

abbrev pub invariant-loop-place : goal.invariant-loop-place
invariant-loop-place l =
    let v = view_of (content l.program) in
    let d = column_number (lists_in l.numbers) l.seats in
    Runs l.side (columns_good v d) (columns_worth v d) l.fn.start v.live l.sum (live_from l.place l.program.nodes.items)
