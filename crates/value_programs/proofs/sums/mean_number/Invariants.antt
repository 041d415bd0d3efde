use Rattle.std.proofs.Common.{◌≡◌, drop, get_or}
use Rattle.rationals.specs.Rational.{zero_ℚ}
use Rattle.rationals.specs.Passes.{add_product_walk}
use Rattle.scen_defs.specs.Ends.{number}
use Rattle.scen_defs.specs.Program.{node_at, nodes_content}
use Rattle.value_programs.specs.Mean.{row_end, mean_number, node_by_node}
use Rattle.value_programs.proofs.sums.mean_number.Given as goal

abbrev pub invariant-loop-node : goal.invariant-loop-node
invariant-loop-node l =
    node_by_node (λ sum n. add_product_walk sum (get_or l.tree.chances.totals n zero_ℚ) (number (row_end l.end l.place (node_at (nodes_content l.nodes) n)))) l.sum (drop l.node-index l.over)
    ≡ mean_number (λ n. get_or l.tree.chances.totals n zero_ℚ) (λ n. number (row_end l.end l.place (node_at (nodes_content l.nodes) n))) l.over
