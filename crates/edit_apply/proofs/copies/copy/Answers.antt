use Rattle.scen_defs.proofs.NodeReads.{node_read, dead_read, past_read}
use Rattle.edit_apply.proofs.Grown.{copied_from, copied_ok}
use Rattle.edit_apply.proofs.copies.copy.Goals as goal

pub returns-then-place-nodes : goal.returns-then-place-nodes
returns-then-place-nodes c = copied_from _ c.args.above c.args.node _ c.bare.result (past_read _ _ c.if-place-nodes.true) c.bare.ensures

pub returns-in-Some : goal.returns-in-Some
returns-in-Some c = copied_ok c.copied.result _ c.args.above c.args.node _ (node_read _ _ _ c.if-place-nodes.false (rw c.in-Some.is at c.index-nodes-place.is)) c.copied.ensures

pub returns-in-None : goal.returns-in-None
returns-in-None c = copied_from _ c.args.above c.args.node _ c.bare-in-None.result (dead_read _ _ c.if-place-nodes.false (rw c.in-None.is at c.index-nodes-place.is)) c.bare-in-None.ensures
