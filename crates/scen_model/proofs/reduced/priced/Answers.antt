use Rattle.std.proofs.Common.{sym, ap, ◌∙◌, arith, length, length-append}
use Rattle.scen_defs.specs.Program.{content, view_of}
use Rattle.scen_model.specs.Walks.{costs_of}
use Rattle.scen_model.proofs.Homes.{number_next}
use Rattle.scen_model.proofs.reduced.priced.Goals as goal

pub loop-column-preserved : goal.loop-column-preserved
loop-column-preserved c = record {
  long = omega (arith, c.loop-column.invariant.long, ap length c.in_ok-push.ensures.items ∙ length-append c.loop-column.numbers.items _);
  priced = number_next c.args.total (costs_of c.args.costs (view_of (content c.args.program.now)) c.args.node) c.args.own.now c.loop-column.column-index c.loop-column.numbers.items c.push.new.self.items c.cost_at.result c.in_ok-number.number
      c.loop-column.invariant.long c.in_ok-push.ensures.items c.cost_at.ensures (sym c.in_ok-number.ensures) c.loop-column.invariant.priced;
}
