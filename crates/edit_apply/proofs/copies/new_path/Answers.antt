use Rattle.edit_apply.proofs.Numbers.{numbers_end}
use Rattle.edit_apply.proofs.copies.new_path.Goals as goal

pub returns : goal.returns
returns c = numbers_end c.loop-stage.new.items c.args.path.now c.args.stages c.args.first c.loop-stage.stage c.loop-stage-test.false c.loop-stage.invariant
