use Rattle.edit_apply.specs.Kept.{with_path}
use Rattle.edit_apply.proofs.Marks.{marks_end, next_mark}
use Rattle.edit_apply.proofs.kept.mark_path.Goals as goal

pub returns : goal.returns
returns c = marks_end c.args.path.now c.loop-node.node-index c.loop-node.marks (with_path c.args.path.now 0 c.args.marks.now) c.loop-node-test.false c.loop-node.invariant

pub loop-node-preserved : goal.loop-node-preserved
loop-node-preserved c = next_mark c.args.path.now c.loop-node.node-index c.loop-node.marks c.mark.new.marks (with_path c.args.path.now 0 c.args.marks.now) c.loop-node-test.true c.mark.ensures c.loop-node.invariant
