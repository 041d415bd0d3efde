use Rattle.std.proofs.Common.{◌≡◌, ◌+◌, ◌-◌, arith}
use Rattle.scen_defs.specs.Program.{Program, content, node_at}
use Rattle.tail_risk.proofs.Steps.{path_starts, path_first, next_apart, next_costs}
use Rattle.tail_risk.proofs.path.path_costs.Goals as goal

pub loop-up-init : goal.loop-up-init
loop-up-init c =
    let p : Program = content c.args.program.now in
    let s : c.stage.result ≡ (node_at p.nodes c.args.node).stage = c.stage.ensures in
    record {
      apart = path_starts p c.args.program.now.keeps c.args.node c.requires c.empty-form.result (c.stage.result + 1 - 0) c.empty-form.ensures (omega (arith, s));
      kept = path_first p.nodes c.args.node c.empty-form.result (c.stage.result + 1 - 0) c.empty-form.ensures (omega (arith, s));
    }

pub loop-up-preserved : goal.loop-up-preserved
loop-up-preserved c =
    let p : Program = content c.args.program.now in
    record {
      apart = next_apart p.nodes c.loop-up.form c.in_ok-form.form _ c.loop-up._up c.loop-up.at c.parent-at.result c.loop-up-test.true c.in_ok-form.ensures c.parent-at.ensures c.loop-up.invariant.apart;
      kept = next_costs p.nodes c.loop-up.form c.in_ok-form.form _ c.loop-up._up c.loop-up.at c.parent-at.result _ c.loop-up-test.true c.in_ok-form.ensures c.parent-at.ensures c.loop-up.invariant.kept;
    }
