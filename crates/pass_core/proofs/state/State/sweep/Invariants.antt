use Rattle.std.proofs.Common.{◌≡◌, drop}
use Rattle.cut_banks.specs.Banks.{swept_banks}
use Rattle.pass_core.proofs.state.State.sweep.Given as goal

abbrev pub invariant-loop-due : goal.invariant-loop-due
invariant-loop-due l = record {
  banks : swept_banks (drop l.due-index l.dues) l.self.banks ≡ swept_banks l.dues l.initial.self.banks;
  versions : l.self.versions ≡ l.initial.self.versions;
  frame : l.self.frame ≡ l.initial.self.frame;
  budget : l.self.budget ≡ l.initial.self.budget;
  table : l.self.table ≡ l.initial.self.table;
  begun : l.self.is_begun ≡ l.initial.self.is_begun;
  counts : l.self.counts ≡ l.initial.self.counts;
}
