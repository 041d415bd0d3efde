use Rattle.std.proofs.Common.{◌∙◌, ℕ, ap, length, arith}
use Rattle.scen_defs.specs.Program.{content, place_content, nodes_content}
use Rattle.scen_defs.proofs.Contents.{nodes_push}
use Rattle.tail_risk.specs.TailWalk.{nodes_walk}
use Rattle.tail_risk.proofs.Steps.{handed, nodes_fail, nodes_more}
use Rattle.tail_risk.proofs.nodes.tail_nodes.Goals as goal

pub returns-in_err-place : goal.returns-in_err-place
returns-in_err-place c =
    let count : ℕ = length c.args.program.now.nodes.items in
    handed c.from_residual.result _ c.in_err-place.field-0.0 _ c.from_residual.ensures.1
    (nodes_fail (content c.args.program.now) c.args.rates.now count (nodes_walk (content c.args.program.now) c.args.rates.now 0 count) (nodes_content c.loop-number.nodes.items) c.loop-number.number c.in_err-place.field-0.0
    (omega (arith, c.loop-number-test.true, c.len-number-end.ensures)) c.loop-number.invariant c.in_err-place.ensures)

pub loop-number-preserved : goal.loop-number-preserved
loop-number-preserved c =
    let count : ℕ = length c.args.program.now.nodes.items in
    nodes_more (content c.args.program.now) c.args.rates.now count (nodes_walk (content c.args.program.now) c.args.rates.now 0 count) (nodes_content c.loop-number.nodes.items) _ c.loop-number.number (place_content c.in_ok-place.place)
    (omega (arith, c.loop-number-test.true, c.len-number-end.ensures)) c.in_ok-place.ensures (ap nodes_content c.in_ok-push.ensures.items ∙ nodes_push c.loop-number.nodes.items c.in_ok-place.place) c.loop-number.invariant
