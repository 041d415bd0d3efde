use Rattle.scen_model.specs.Gathered.{lists_in}
use Rattle.scen_model.proofs.Homes.{seated_next, all_seated}
use Rattle.scen_model.proofs.seats.are_seated.Goals as goal

pub loop-place-preserved : goal.loop-place-preserved
loop-place-preserved c =
    seated_next c.args.columns.now (lists_in c.args.own.now) c.args.seats.now c.loop-place.place c.index-columns-place.result c.loop-place-test.true c.index-columns-place.is c.loop-place.invariant
    (c.is_seated.ensures c.if-not-is_seated.false)

pub returns : goal.returns
returns c _ = all_seated c.args.columns.now (lists_in c.args.own.now) c.args.seats.now c.loop-place.place c.loop-place-test.false c.loop-place.invariant
