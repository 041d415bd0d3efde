use Rattle.std.proofs.Common.{eqb}
use Rattle.rationals.specs.Intervals.{Between}
use Rattle.scen_defs.specs.declared.program.Column.{Column}
use Rattle.scen_defs.specs.Lists.{Each}
use Rattle.scen_defs.specs.Values.{at}
use Rattle.scen_defs.specs.Program.{content, view_of}
use Rattle.scen_model.proofs.PlaceSteps.{places_from}
use Rattle.rounded_ends.specs.Met.{BoundsMet}
use Rattle.rounded_ends.proofs.meets.are_bounds_met.Given as goal

abbrev pub invariant-loop-place : goal.invariant-loop-place
invariant-loop-place l =
    let v = view_of (content l.program) in
    Each (λ j. Between (v.lower j) (v.upper j) (at l.values l.node j)) (places_from (λ (c : Column). eqb c.stage (v.stage l.node)) l.place l.program.columns.items)
    → BoundsMet v (at l.values) l.node
