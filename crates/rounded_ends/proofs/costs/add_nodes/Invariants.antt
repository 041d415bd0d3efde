use Rattle.std.proofs.Common.{slice_index_or}
use Rattle.rationals.specs.Rational.{zero_ℚ, ◌*ℚ◌}
use Rattle.scen_defs.specs.Values.{at}
use Rattle.scen_defs.specs.Flat.{node_cost}
use Rattle.scen_defs.specs.Program.{content, view_of}
use Rattle.scen_model.proofs.NodeSteps.{live_from}
use Rattle.rounded_ends.specs.Runs.{Runs}
use Rattle.rounded_ends.proofs.RunLemmas.{Free}
use Rattle.rounded_ends.proofs.costs.add_nodes.Given as goal

abbrev pub invariant-loop-place : goal.invariant-loop-place
invariant-loop-place l =
    let v = view_of (content l.program) in
    Runs l.side Free (λ n. slice_index_or l.totals n zero_ℚ *ℚ node_cost v (at l.values) n) zero_ℚ v.live l.sum (live_from l.place l.program.nodes.items)
