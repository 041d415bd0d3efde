use Rattle.scen_model.specs.Gathered.{lists_in}
use Rattle.scen_model.proofs.Homes.{SeatedTo}
use Rattle.scen_model.proofs.seats.are_seated.Given as goal

abbrev pub invariant-loop-place : goal.invariant-loop-place
invariant-loop-place l = SeatedTo l.columns (lists_in l.own) l.seats l.place
