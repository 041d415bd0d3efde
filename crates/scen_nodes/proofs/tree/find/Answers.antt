use Rattle.std.proofs.Common.{sym}
use Rattle.scen_defs.proofs.NodeReads.{node_read, dead_read, past_read, live_read, not_live_read, not_live_past}
use Rattle.scen_nodes.proofs.tree.find.Goals as goal

pub returns-in-Some : goal.returns-in-Some
returns-in-Some c = record {
  live = sym (live_read _ _ _ c.if-place-nodes.false (rw c.in-Some.is at c.index-nodes-place.is));
  node = node_read _ _ _ c.if-place-nodes.false (rw c.in-Some.is at c.index-nodes-place.is);
}

pub returns-then-place-nodes : goal.returns-then-place-nodes
returns-then-place-nodes c = record { live = sym (not_live_past _ _ c.if-place-nodes.true); node = past_read _ _ c.if-place-nodes.true }

pub returns-in-None : goal.returns-in-None
returns-in-None c = record {
  live = sym (not_live_read _ _ c.if-place-nodes.false (rw c.in-None.is at c.index-nodes-place.is));
  node = dead_read _ _ c.if-place-nodes.false (rw c.in-None.is at c.index-nodes-place.is);
}
