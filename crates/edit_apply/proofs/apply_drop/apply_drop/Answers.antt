use Rattle.std.proofs.Common.{Bool, List, ap, sym, subst, ◌∙◌}
use Rattle.scen_defs.specs.Program.{Program, content, scenarios_content}
use Rattle.scen_defs.specs.Valid.{IsProgram}
use Rattle.edit_defs.specs.declared.edit.Edit.TheVariants.{Drop}
use Rattle.edit_defs.specs.Causes.{refused}
use Rattle.edit_apply.specs.declared.fault.ApplyFault.{ApplyFault}
use Rattle.edit_apply.specs.Faults.{ApplyFaultOf}
use Rattle.edit_apply.specs.Kept.{kept_from}
use Rattle.edit_apply.proofs.Ends.{drop_ok, drop_none, drop_err}
use Rattle.edit_apply.proofs.Keeping.{drop_keeps}
use Rattle.edit_apply.proofs.apply_drop.apply_drop.Goals as goal

pub returns-in_ok-all-in-Ok-clause-ok : goal.returns-in_ok-all-in-Ok-clause-ok
returns-in_ok-all-in-Ok-clause-ok c = c.leave.ensures
    ∙ ap (λ (ms : List Bool). let q : Program = record (content c.args.program.now) { nodes = kept_from ms 0 (content c.args.program.now).nodes; scenarios = scenarios_content c.in-Ok.left.scenarios.items } in q) c.in-Ok.ensures.marks
    ∙ drop_ok (content c.args.program.now) c.args.name.now (scenarios_content c.in-Ok.left.scenarios.items) c.in-Ok.ensures.scenarios

pub returns-in_ok-all-in-Ok-clause-cause : goal.returns-in_ok-all-in-Ok-clause-cause
returns-in_ok-all-in-Ok-clause-cause c = drop_none (content c.args.program.now) c.args.name.now (scenarios_content c.in-Ok.left.scenarios.items) c.in_ok-test_drop.ensures c.in-Ok.ensures.scenarios

pub returns-in-Err-clause-cause : goal.returns-in-Err-clause-cause
returns-in-Err-clause-cause c = subst (λ (r : ApplyFault). ApplyFaultOf (refused (content c.args.program.now) (Drop c.args.name.now)) r) (sym c.refusal.ensures)
    (drop_err (content c.args.program.now) c.args.name.now c.in-Err.fault c.in_ok-test_drop.ensures c.in-Err.ensures.scenarios)

pub leave-requires : goal.leave-requires
leave-requires c =
    subst (λ (ms : List Bool). let q : Program = record (content c.args.program.now) { nodes = kept_from ms 0 (content c.args.program.now).nodes; scenarios = scenarios_content c.in-Ok.left.scenarios.items } in IsProgram q)
    (sym c.in-Ok.ensures.marks)
    (drop_keeps (content c.args.program.now) c.args.name.now (scenarios_content c.in-Ok.left.scenarios.items) c.args.program.now.keeps
    (drop_none (content c.args.program.now) c.args.name.now (scenarios_content c.in-Ok.left.scenarios.items) c.in_ok-test_drop.ensures c.in-Ok.ensures.scenarios) c.in-Ok.ensures.scenarios)
