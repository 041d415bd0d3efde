use Rattle.scen_defs.specs.Values.{at}
use Rattle.scen_defs.specs.Program.{content, view_of}
use Rattle.scen_model.specs.Walks.{fold_walk, less_step}
use Rattle.scen_model.specs.Gathered.{lists_in}
use Rattle.scen_model.proofs.NodeSteps.{live_from}
use Rattle.scen_model.proofs.Homes.{AllSame}
use Rattle.scen_model.proofs.reduced.less_all.Given as goal

abbrev pub invariant-loop-place : goal.invariant-loop-place
invariant-loop-place l =
    let v = view_of (content l.program) in
    AllSame v l.program.columns.items l.seats (λ k j s ns. fold_walk (less_step v (at l.values) k j) s ns) (lists_in l.numbers) (live_from l.place l.program.nodes.items) (lists_in l.initial.numbers) v.live
