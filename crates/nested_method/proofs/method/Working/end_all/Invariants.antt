use Rattle.std.proofs.Common.{◌≡◌, ◌≤◌, max, length}
use Rattle.scen_defs.specs.Program.{content}
use Rattle.pass_table.specs.Machine.{Machine}
use Rattle.pass_core.specs.declared.state.State.{State}
use Rattle.nested_method.specs.Batches.{Batch, LeavesFewer}
use Rattle.nested_method.proofs.method.Working.end_all.Given as goal

abbrev pub invariant-ends : goal.invariant-ends
invariant-ends g l = record {
  tree : l.self.tree ≡ l.fn.self.tree;
  ended : (start : Machine) (first : State) → Batch (content l.program) l.fn.self.tree start first l.fn.self.state l.fn.jobs.items
      → Batch (content l.program) l.fn.self.tree start first l.self.state l.jobs.items;
  no_more : l.self.state.counts.since_item ≤ max l.work l.fn.self.state.counts.since_item;
  fewer : LeavesFewer l.did l.fn.self.state l.self.state;
}

abbrev pub decreases-ends : goal.decreases-ends
decreases-ends g l = length l.jobs.items
