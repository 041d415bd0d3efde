use Rattle.std.proofs.Common.{◌≡◌, drop}
use Rattle.scen_defs.specs.Program.{content, nodes_content}
use Rattle.found_ends.specs.Costs.{node_costs_from, joined_cost}
use Rattle.found_ends.proofs.costs.cost.Given as goal

abbrev pub invariant-loop-place : goal.invariant-loop-place
invariant-loop-place l =
    node_costs_from l.tree.chances.totals l.lasts.nodes.items l.place l.sum (nodes_content (drop l.place l.program.nodes.items))
    ≡ joined_cost (content l.program).nodes l.tree.chances.totals l.lasts.nodes.items
