use Rattle.std.proofs.Common.{◌≡◌}
use Rattle.rationals.specs.Rational.{zero_ℚ}
use Rattle.scen_defs.specs.Values.{at}
use Rattle.scen_defs.specs.Program.{content, view_of}
use Rattle.scen_model.specs.Walks.{fold_walk, cost_step}
use Rattle.scen_model.proofs.NodeSteps.{live_from}
use Rattle.scen_model.proofs.costs.add_nodes.Given as goal

abbrev pub invariant-loop-place : goal.invariant-loop-place
invariant-loop-place l =
    let v = view_of (content l.program) in
    fold_walk (λ s n. cost_step v.scenarios (v.cost n) (at l.values n) n s) l.sum (live_from l.place l.program.nodes.items)
    ≡ fold_walk (λ s n. cost_step v.scenarios (v.cost n) (at l.values n) n s) zero_ℚ v.live
