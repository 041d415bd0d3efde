use Rattle.std.proofs.Common.{◌∙◌, ℕ, Some, ap, get_or, length, arith}
use Rattle.rationals.specs.Rational.{ℚ, zero_ℚ}
use Rattle.scen_defs.specs.Program.{content, node_content, nodes_content}
use Rattle.scen_defs.proofs.Contents.{nodes_push}
use Rattle.value_programs.specs.Mean.{mean_nodes}
use Rattle.value_programs.proofs.MeanSteps.{handed, nodes_fail, nodes_more}
use Rattle.value_programs.proofs.means.mean_nodes.Goals as goal

pub returns-in_err-node : goal.returns-in_err-node
returns-in_err-node c =
    let w : ℕ → ℚ = λ n. get_or c.args.tree.now.chances.totals n zero_ℚ in
    let count : ℕ = length c.args.program.now.periods.items in
    handed c.from_residual.result _ c.in_err-node.field-0.0 _ c.from_residual.ensures.1
    (nodes_fail (content c.args.program.now) w count (mean_nodes (content c.args.program.now) w 0 count) (nodes_content c.loop-stage.nodes.items) c.loop-stage.stage c.in_err-node.field-0.0
    (omega (arith, c.loop-stage-test.true, c.len-stage-end.ensures)) c.loop-stage.invariant c.in_err-node.ensures)

pub loop-stage-preserved : goal.loop-stage-preserved
loop-stage-preserved c =
    let w : ℕ → ℚ = λ n. get_or c.args.tree.now.chances.totals n zero_ℚ in
    let count : ℕ = length c.args.program.now.periods.items in
    nodes_more (content c.args.program.now) w count (mean_nodes (content c.args.program.now) w 0 count) (nodes_content c.loop-stage.nodes.items) _ c.loop-stage.stage (node_content c.in_ok-node.node)
    (omega (arith, c.loop-stage-test.true, c.len-stage-end.ensures)) c.in_ok-node.ensures (ap nodes_content c.in_ok-push.ensures.items ∙ nodes_push c.loop-stage.nodes.items (Some c.in_ok-node.node)) c.loop-stage.invariant
