use Rattle.scen_defs.specs.Program.{nodes_content}
use Rattle.edit_apply.proofs.Numbers.{copies_end}
use Rattle.edit_apply.proofs.copies.copies.Goals as goal

pub returns : goal.returns
returns c = copies_end (nodes_content c.args.nodes.now) (nodes_content c.loop-stage.all.items) c.args.path.now c.args.stages c.args.first c.loop-stage.stage c.loop-stage.above c.loop-stage-test.false c.loop-stage.invariant
