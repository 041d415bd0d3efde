use Rattle.std.proofs.Common.{◌≡◌, eqb}
use Rattle.scen_defs.specs.declared.program.Column.{Column}
use Rattle.scen_defs.specs.Program.{content, view_of}
use Rattle.scen_model.specs.Walks.{fold_walk, worth_step}
use Rattle.scen_model.specs.Gathered.{lists_in, column_number, columns_with}
use Rattle.scen_model.proofs.PlaceSteps.{places_from}
use Rattle.scen_model.proofs.quick.add_numbers.Given as goal

abbrev pub invariant-loop-place : goal.invariant-loop-place
invariant-loop-place l =
    let v = view_of (content l.program) in
    fold_walk (λ t j. worth_step (v.lower j) (v.upper j) (column_number (lists_in l.numbers) l.seats l.node j) t) l.sum (places_from (λ (c : Column). eqb c.stage (v.stage l.node)) l.place l.program.columns.items)
    ≡ columns_with v (column_number (lists_in l.numbers) l.seats l.node) l.fn.start l.node
