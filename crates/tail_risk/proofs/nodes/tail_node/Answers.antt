use Rattle.std.proofs.Common.{sym, ap}
use Rattle.scen_defs.specs.Program.{Node, content}
use Rattle.tail_risk.proofs.Steps.{scaled_ends}
use Rattle.tail_risk.proofs.nodes.tail_node.Goals as goal

pub with_added_costs-requires : goal.with_added_costs-requires
with_added_costs-requires c = scaled_ends (content c.args.program.now) c.args.program.now.keeps c.args.number c.requires.live c.args.rates.now.old c.args.node.now.cost c.in_ok-scaled.scaled
    (sym (ap (λ (x : Node). x.cost) c.requires.node)) c.in_ok-scaled.ensures
