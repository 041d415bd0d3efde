use Rattle.std.proofs.Common.{◌≡◌, get_or, Option, subst, ◌∙◌}
use Rattle.scen_defs.specs.declared.program.Node.{Node as NodeOf}
use Rattle.edit_entries.specs.InPlace.{with_row_ends}
use Rattle.edit_entries.proofs.OneRow.{once_read}
use Rattle.edit_entries.proofs.Places.{live_within, node_set, never_dead}
use Rattle.edit_entries.proofs.set.set_ends.Goals as goal

pub bounds-nodes-place : goal.bounds-nodes-place
bounds-nodes-place c = live_within c.args.nodes.now c.args.place c.requires.live

pub returns-in-Some : goal.returns-in-Some
returns-in-Some c = node_set (with_row_ends c.args.row c.args.ends.now) c.args.nodes.now c.args.place c.in-Some.node c.set_node_ends.new.node (live_within c.args.nodes.now c.args.place c.requires.live)
    (subst (λ (x : Option NodeOf). x ≡ get_or c.args.nodes.now c.args.place x) (c.index-nodes-place.is ∙ c.in-Some.is) c.index-nodes-place.is) c.set_node_ends.ensures

pub returns-in-None : goal.returns-in-None
returns-in-None c = absurd (never_dead c.args.nodes.now c.args.place (live_within c.args.nodes.now c.args.place c.requires.live)
    (subst (λ (x : Option NodeOf). x ≡ get_or c.args.nodes.now c.args.place x) (c.index-nodes-place.is ∙ c.in-None.is) c.index-nodes-place.is) c.requires.live)

pub set_node_ends-requires : goal.set_node_ends-requires
set_node_ends-requires c = once_read c.args.nodes.now c.args.place c.args.row c.in-Some.node (live_within c.args.nodes.now c.args.place c.requires.live)
    (subst (λ (x : Option NodeOf). x ≡ get_or c.args.nodes.now c.args.place x) (c.index-nodes-place.is ∙ c.in-Some.is) c.index-nodes-place.is) c.requires.once
