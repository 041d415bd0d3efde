use Rattle.std.proofs.Common.{◌≡◌, ◌+◌, rules}
use Rattle.edit_chances.proofs.PortionSums.{all_read, next_portions}
use Rattle.edit_chances.proofs.portions.all_portions.Goals as goal

pub loop-scenario-preserved : goal.loop-scenario-preserved
loop-scenario-preserved c =
    let sum : c.in_ok-all.all ≡ c.loop-scenario.all + c.in_ok-own.own = search rules in
    next_portions c.args.common c.loop-scenario.all c.in_ok-own.own c.in_ok-all.all c.args.scenarios.now c.loop-scenario.scenario-index c.scenario-item.result
    c.loop-scenario-test.true c.scenario-item.is c.in_ok-own.ensures sum c.loop-scenario.invariant

pub returns : goal.returns
returns c = all_read c.args.common c.loop-scenario.all c.args.scenarios.now c.loop-scenario.scenario-index c.loop-scenario-test.false c.loop-scenario.invariant
