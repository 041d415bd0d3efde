use Rattle.std.proofs.Common.{◌≡◌, get_or}
use Rattle.rationals.specs.Rational.{zero_ℚ}
use Rattle.scen_defs.specs.Values.{at}
use Rattle.scen_defs.specs.Program.{content, view_of}
use Rattle.scen_model.specs.Walks.{fold_walk}
use Rattle.scen_model.specs.Gathered.{cost_step_with, costs_with}
use Rattle.scen_model.proofs.NodeSteps.{live_from}
use Rattle.scen_model.proofs.costs.add_costs.Given as goal

abbrev pub invariant-loop-place : goal.invariant-loop-place
invariant-loop-place l =
    let v = view_of (content l.program) in
    fold_walk (λ s n. cost_step_with (get_or l.totals n zero_ℚ) (v.cost n) (at l.values n) s) l.sum (live_from l.place l.program.nodes.items) ≡ costs_with v l.totals (at l.values)
