use Rattle.std.proofs.Common.{◌≡◌, get_or, Option, subst, ◌∙◌}
use Rattle.scen_defs.specs.declared.program.Node.{Node as NodeOf}
use Rattle.edit_entries.specs.InPlace.{with_cost}
use Rattle.edit_entries.proofs.Places.{live_within, node_set, node_back, never_dead, on_err}
use Rattle.edit_entries.proofs.set.set_cost.Goals as goal

pub bounds-nodes-place : goal.bounds-nodes-place
bounds-nodes-place c = live_within c.args.nodes.now c.args.place c.requires

pub returns-in_err-set_node_cost-in-Some-clause-err : goal.returns-in_err-set_node_cost-in-Some-clause-err
returns-in_err-set_node_cost-in-Some-clause-err c = on_err _ (node_back c.args.nodes.now c.args.place c.in-Some.node c.set_node_cost.new.node (live_within c.args.nodes.now c.args.place c.requires)
    (subst (λ (x : Option NodeOf). x ≡ get_or c.args.nodes.now c.args.place x) (c.index-nodes-place.is ∙ c.in-Some.is) c.index-nodes-place.is) c.in_err-set_node_cost-in-Some.ensures.err)

pub returns-in_ok-set_node_cost-in-Some-clause-ok : goal.returns-in_ok-set_node_cost-in-Some-clause-ok
returns-in_ok-set_node_cost-in-Some-clause-ok c = node_set (with_cost c.args.column c.args.value) c.args.nodes.now c.args.place c.in-Some.node c.set_node_cost.new.node (live_within c.args.nodes.now c.args.place c.requires)
    (subst (λ (x : Option NodeOf). x ≡ get_or c.args.nodes.now c.args.place x) (c.index-nodes-place.is ∙ c.in-Some.is) c.index-nodes-place.is) c.in_ok-set_node_cost-in-Some.ensures.ok

pub returns-in-None-clause-ok : goal.returns-in-None-clause-ok
returns-in-None-clause-ok c = absurd (never_dead c.args.nodes.now c.args.place (live_within c.args.nodes.now c.args.place c.requires)
    (subst (λ (x : Option NodeOf). x ≡ get_or c.args.nodes.now c.args.place x) (c.index-nodes-place.is ∙ c.in-None.is) c.index-nodes-place.is) c.requires)
