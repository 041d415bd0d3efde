use Rattle.std.proofs.Common.{sym, subst}
use Rattle.scen_defs.specs.Program.{content, scenarios_content}
use Rattle.edit_defs.specs.declared.edit.Edit.TheVariants.{Prob}
use Rattle.edit_defs.specs.Causes.{refused}
use Rattle.edit_apply.specs.declared.fault.ApplyFault.{ApplyFault}
use Rattle.edit_apply.specs.Faults.{ApplyFaultOf}
use Rattle.edit_apply.proofs.Ends.{prob_ok, prob_none, prob_err}
use Rattle.edit_apply.proofs.Keeping.{prob_keeps}
use Rattle.edit_apply.proofs.apply_prob.apply_prob.Goals as goal

pub returns-in-Ok-clause-ok : goal.returns-in-Ok-clause-ok
returns-in-Ok-clause-ok c = prob_ok (content c.args.program.now) c.args.name.now c.args.probability (scenarios_content c.in-Ok.scenarios.items) c.in-Ok.ensures

pub returns-in-Ok-clause-cause : goal.returns-in-Ok-clause-cause
returns-in-Ok-clause-cause c = prob_none (content c.args.program.now) c.args.name.now c.args.probability (scenarios_content c.in-Ok.scenarios.items) c.in_ok-test_prob.ensures c.in-Ok.ensures

pub returns-in-Err-clause-cause : goal.returns-in-Err-clause-cause
returns-in-Err-clause-cause c = subst (λ (r : ApplyFault). ApplyFaultOf (refused (content c.args.program.now) (Prob c.args.name.now c.args.probability)) r) (sym c.refusal.ensures)
    (prob_err (content c.args.program.now) c.args.name.now c.args.probability c.in-Err.fault c.in_ok-test_prob.ensures c.in-Err.ensures)

pub invariant_of-program : goal.invariant_of-program
invariant_of-program c = record {
  keeps = prob_keeps (content c.args.program.now) c.args.name.now c.args.probability (scenarios_content c.in-Ok.scenarios.items) c.args.program.now.keeps
      (prob_none (content c.args.program.now) c.args.name.now c.args.probability (scenarios_content c.in-Ok.scenarios.items) c.in_ok-test_prob.ensures c.in-Ok.ensures) c.in-Ok.ensures;
}
