use Rattle.std.proofs.Common.{◌≡◌, drop, get_or}
use Rattle.rationals.specs.Rational.{zero_ℚ}
use Rattle.rationals.specs.Forms.{add_scaled_walk}
use Rattle.scen_defs.specs.Program.{node_at, nodes_content}
use Rattle.value_programs.specs.Mean.{node_form, mean_form, node_by_node}
use Rattle.value_programs.proofs.sums.mean_form.Given as goal

abbrev pub invariant-loop-node : goal.invariant-loop-node
invariant-loop-node l =
    node_by_node (λ sum n. add_scaled_walk sum (get_or l.tree.chances.totals n zero_ℚ) (node_form l.form (node_at (nodes_content l.nodes) n))) l.sum (drop l.node-index l.over)
    ≡ mean_form (λ n. get_or l.tree.chances.totals n zero_ℚ) (λ n. node_form l.form (node_at (nodes_content l.nodes) n)) l.over
