use Rattle.std.proofs.Common.{◌≡◌, ◌≤◌, ◌-◌, [], length}
use Rattle.scen_defs.specs.Program.{content}
use Rattle.pass_table.specs.Machine.{Machine}
use Rattle.pass_core.specs.declared.state.State.{State}
use Rattle.nested_method.specs.Batches.{Batch}
use Rattle.nested_method.proofs.method.Working.begin_all.Given as goal

abbrev pub invariant-begins : goal.invariant-begins
invariant-begins l = record {
  tree : l.self.tree ≡ l.fn.self.tree;
  others : l.self.state ≡ record l.fn.self.state { table = l.self.state.table };
  workers : length l.self.state.table.flights.items ≡ length l.fn.self.state.table.flights.items;
  begun : (start : Machine) (first : State) → l.wanted ≤ length l.fn.self.state.table.flights.items
      → Batch (content l.program) l.fn.self.tree start first l.fn.self.state []
      → Batch (content l.program) l.fn.self.tree start first l.self.state l.jobs.items;
}

abbrev pub decreases-begins : goal.decreases-begins
decreases-begins l = l.wanted - length l.jobs.items
