use Rattle.std.proofs.Common.{◌≡◌, None, Option, MatchResult, sym, subst, ◌∙◌}
use Rattle.refusals.specs.declared.cause.Cause.{Cause}
use Rattle.scen_defs.specs.Program.{content, nodes_content, scenario_content}
use Rattle.edit_apply.specs.Faults.{ApplyFaultOf}
use Rattle.edit_apply.proofs.Ends.{add_after, add_left_is, ok_both}
use Rattle.edit_apply.proofs.Keeping.{add_keeps}
use Rattle.edit_apply.proofs.apply_add.apply_add.Goals as goal

pub returns-clause-ok : goal.returns-clause-ok
returns-clause-ok c = ok_both c.add.result c.add.ensures.scenarios c.add.ensures.rest (λ s r. add_after (content c.args.program.now) (content c.add.new.program) c.args.name.now c.args.parent.now c.args.probability c.args.stage (scenario_content c.in_ok-new.new) (nodes_content c.in_ok-nodes.nodes.items)
    (record { unknown = c.in_ok-test_add.ensures.new; scenario = c.in_ok-new.ensures; nodes_are = c.in_ok-nodes.ensures.nodes }) s r)

pub returns-clause-cause : goal.returns-clause-cause
returns-clause-cause c = subst (λ (x : Option Cause). MatchResult c.add.result (λ _. x ≡ None) (ApplyFaultOf x))
    (add_left_is (content c.args.program.now) c.args.name.now c.args.parent.now c.args.probability c.args.stage (scenario_content c.in_ok-new.new) (nodes_content c.in_ok-nodes.nodes.items)
    (record { unknown = c.in_ok-test_add.ensures.new; scenario = c.in_ok-new.ensures; nodes_are = c.in_ok-nodes.ensures.nodes }) ∙ sym c.in_ok-test_add.ensures.cause) c.add.ensures.cause

pub add-requires-clause-keeps : goal.add-requires-clause-keeps
add-requires-clause-keeps c = add_keeps (content c.args.program.now) c.args.name.now c.args.parent.now c.args.probability c.args.stage (scenario_content c.in_ok-new.new) (nodes_content c.in_ok-nodes.nodes.items)
    c.args.program.now.keeps c.requires.field c.in_ok-nodes.ensures.room
    (record { unknown = c.in_ok-test_add.ensures.new; scenario = c.in_ok-new.ensures; nodes_are = c.in_ok-nodes.ensures.nodes }) c.in_ok-test_add.ensures.cause
