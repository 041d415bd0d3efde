use Rattle.std.proofs.Common.{eqb}
use Rattle.scen_defs.specs.declared.program.Column.{Column}
use Rattle.scen_defs.specs.Program.{content, view_of}
use Rattle.scen_model.specs.Gathered.{lists_in, column_number}
use Rattle.scen_model.proofs.PlaceSteps.{places_from}
use Rattle.rounded_ends.specs.Runs.{Runs, column_good, column_worth}
use Rattle.rounded_ends.proofs.worths.add_columns.Given as goal

abbrev pub invariant-loop-place : goal.invariant-loop-place
invariant-loop-place l =
    let v = view_of (content l.program) in
    let d = column_number (lists_in l.numbers) l.seats l.node in
    Runs l.side (column_good v d) (column_worth v d) l.fn.start (v.columns (v.stage l.node)) l.sum
    (places_from (λ (c : Column). eqb c.stage (v.stage l.node)) l.place l.program.columns.items)
