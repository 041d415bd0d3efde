use Rattle.std.proofs.Common.{sym, ◌∙◌}
use Rattle.cut_defs.specs.Stored.{source_of}
use Rattle.node_lp.proofs.ShownLemmas.{weight_other, weight_ray}
use Rattle.node_lp.proofs.shown.with_weight.Goals as goal

pub returns-else-node : goal.returns-else-node
returns-else-node c =
    weight_other (source_of c.args.cut.now).kind (source_of c.args.cut.now).node c.args.node c.args.weight c.args.sum (sym c.kind.ensures ∙ c.in-Bound.is) (λ e. c.if-node.false (c.node.ensures ∙ e))

pub returns-in-Ray : goal.returns-in-Ray
returns-in-Ray c =
    weight_ray (source_of c.args.cut.now).kind (source_of c.args.cut.now).node c.args.node c.args.weight c.args.sum (sym c.kind.ensures ∙ c.in-Ray.is)
