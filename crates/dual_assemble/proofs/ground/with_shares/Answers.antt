use Rattle.dual_assemble.proofs.Quotients.{shares_next}
use Rattle.dual_assemble.proofs.ground.with_shares.Goals as goal

pub loop-place-preserved : goal.loop-place-preserved
loop-place-preserved c =
    shares_next c.args.shares.now c.args.children.now c.loop-place.place c.index-shares-place.result c.index-children-place.result c.in_ok-cut.cut c.loop-place.used.items c.push.new.self.items _
    c.loop-place-test.true c.index-shares-place.is c.if-place-children.false c.index-children-place.is c.in_ok-cut.ensures c.in_ok-push.ensures.items c.loop-place.invariant
