use Rattle.std.proofs.Common.{◌∙◌, ap, sym, get_or}
use Rattle.tree_build.specs.declared.numbering.Path.{Path}
use Rattle.tree_build.proofs.RangeLemmas.{past_end}
use Rattle.tree_build.proofs.NodeLemmas.{path_at, path_past}
use Rattle.tree_build.proofs.nodes.node_in.Goals as goal

pub returns-then-stage-nodes : goal.returns-then-stage-nodes
returns-then-stage-nodes c =
    ap (λ row. get_or row c.args.stage 0)
    (c.deref-nodes.ensures.value ∙ ap (λ (r : Path). r.nodes.items) (sym c.index-paths-scenario.is) ∙ sym (path_at c.args.paths.now c.args.scenario c.index-paths-scenario.result c.if-scenario-paths.true c.index-paths-scenario.is))

pub returns-else-stage-nodes : goal.returns-else-stage-nodes
returns-else-stage-nodes c =
    past_end c.deref-nodes.result.now c.args.stage c.if-stage-nodes.false
    ∙ ap (λ row. get_or row c.args.stage 0)
    (c.deref-nodes.ensures.value ∙ ap (λ (r : Path). r.nodes.items) (sym c.index-paths-scenario.is) ∙ sym (path_at c.args.paths.now c.args.scenario c.index-paths-scenario.result c.if-scenario-paths.true c.index-paths-scenario.is))

pub returns-else-scenario-paths : goal.returns-else-scenario-paths
returns-else-scenario-paths c = sym (ap (λ row. get_or row c.args.stage 0) (path_past c.args.paths.now c.args.scenario c.if-scenario-paths.false))
