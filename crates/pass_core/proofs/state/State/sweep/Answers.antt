use Rattle.std.proofs.Common.{◌∙◌}
use Rattle.cut_banks.specs.Banks.{swept_banks}
use Rattle.cut_banks.proofs.Sweeps.{swept_step, swept_done}
use Rattle.pass_core.proofs.state.State.sweep.Goals as goal

pub loop-due-preserved : goal.loop-due-preserved
loop-due-preserved c = record {
  banks = swept_step c.args.dues.now c.loop-due.due-index c.due-item.result c.loop-due.self.banks c.sweep_for.new.self.banks
      c.loop-due-test.true c.due-item.is c.in_ok-sweep_for.ensures.banks
      ∙ c.loop-due.invariant.banks;
  versions = c.sweep_for.ensures.versions ∙ c.loop-due.invariant.versions;
  frame = c.sweep_for.ensures.frame ∙ c.loop-due.invariant.frame;
  budget = c.sweep_for.ensures.budget ∙ c.loop-due.invariant.budget;
  table = c.sweep_for.ensures.table ∙ c.loop-due.invariant.table;
  begun = c.sweep_for.ensures.begun ∙ c.loop-due.invariant.begun;
  counts = c.sweep_for.ensures.counts ∙ c.loop-due.invariant.counts;
}

pub returns-clause-banks : goal.returns-clause-banks
returns-clause-banks c = swept_done c.args.dues.now c.loop-due.due-index (swept_banks c.args.dues.now c.args.self.now.banks)
    c.loop-due.self.banks c.loop-due-test.false c.loop-due.invariant.banks
