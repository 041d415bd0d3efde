use Rattle.std.proofs.Common.{ap, ◌∙◌, arith, length, length-append}
use Rattle.scen_model.proofs.Homes.{stages_next}
use Rattle.scen_model.proofs.seats.stages.Goals as goal

pub loop-column-preserved : goal.loop-column-preserved
loop-column-preserved c = record {
  long = omega (arith, c.loop-column.invariant.long, ap length c.in_ok-push.ensures.items ∙ length-append c.loop-column.stages.items _);
  stages = stages_next c.args.columns.now c.loop-column.column-index c.column-item.result c.loop-column.stages.items c.push.new.self.items c.loop-column-test.true c.column-item.is c.loop-column.invariant.long
      c.in_ok-push.ensures.items c.loop-column.invariant.stages;
}
