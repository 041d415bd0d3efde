use Rattle.std.proofs.Common.{ap, ◌∙◌, arith, length, length-append}
use Rattle.scen_defs.specs.Program.{content, view_of}
use Rattle.scen_model.specs.Walks.{costs_of}
use Rattle.scen_model.specs.Gathered.{lists_in}
use Rattle.scen_model.proofs.Homes.{priced_next, content_long}
use Rattle.scen_model.proofs.reduced.all_priced.Goals as goal

pub loop-node-preserved : goal.loop-node-preserved
loop-node-preserved c =
    let p = content c.args.program.now in
    record {
      long = omega (arith, c.loop-node.invariant.long, ap length c.in_ok-push.ensures.items ∙ length-append c.loop-node.numbers.items _);
      priced = priced_next p (costs_of c.args.costs (view_of p)) c.args.totals.now (lists_in c.args.own.now) c.loop-node.node c.loop-node.numbers.items c.push.new.self.items c.in_ok-list.list
          c.loop-node.invariant.long c.in_ok-push.ensures.items c.loop-node.invariant.priced c.in_ok-list.ensures;
    }

pub returns : goal.returns
returns c k h live =
    c.loop-node.invariant.priced k (omega (arith, h, content_long c.args.program.now.nodes.items, c.len-count.ensures, c.args.program.now.nodes.ok.0, c.loop-node-test.false)) live
