use Rattle.std.proofs.Common.{None, ap, sym, ◌∙◌}
use Rattle.refusals.specs.declared.cause.Cause.TheVariants.{ScenarioLimit}
use Rattle.scen_defs.specs.Program.{Program, content, nodes_content}
use Rattle.edit_defs.specs.Causes.{refused_if}
use Rattle.edit_defs.specs.Limits.{are_many, counts}
use Rattle.edit_apply.proofs.Counting.{cost_after}
use Rattle.edit_apply.proofs.apply_set.apply_cost.Goals as goal

pub returns-then-are_many-clause-cause : goal.returns-then-are_many-clause-cause
returns-then-are_many-clause-cause c = ap (λ b. refused_if b ScenarioLimit None) (ap are_many (sym (cost_after (content c.args.program.now) c.args.scenario.now c.args.column c.args.value c.args.place c.cost_lengths-less.result.0 c.cost_lengths-less.result.1 c.in_ok-all.field-0 c.args.counted.now (nodes_content c.deref.result.now) (ap nodes_content c.deref.ensures.value)
    c.args.program.now.keeps c.requires.applies c.requires.place c.requires.counted c.cost_lengths-less.ensures.less c.cost_lengths-less.ensures.more c.in_ok-all.ensures)) ∙ sym c.are_many.ensures ∙ c.if-are_many.true)

pub returns-clause-cause : goal.returns-clause-cause
returns-clause-cause c = ap (λ b. refused_if b ScenarioLimit None) (ap are_many (sym (cost_after (content c.args.program.now) c.args.scenario.now c.args.column c.args.value c.args.place c.cost_lengths-less.result.0 c.cost_lengths-less.result.1 c.in_ok-all.field-0 c.args.counted.now (nodes_content c.deref.result.now) (ap nodes_content c.deref.ensures.value)
    c.args.program.now.keeps c.requires.applies c.requires.place c.requires.counted c.cost_lengths-less.ensures.less c.cost_lengths-less.ensures.more c.in_ok-all.ensures)) ∙ sym c.are_many.ensures ∙ c.if-are_many.false)

pub returns-clause-counted : goal.returns-clause-counted
returns-clause-counted c = cost_after (content c.args.program.now) c.args.scenario.now c.args.column c.args.value c.args.place c.cost_lengths-less.result.0 c.cost_lengths-less.result.1 c.in_ok-all.field-0 c.args.counted.now (nodes_content c.deref.result.now) (ap nodes_content c.deref.ensures.value)
    c.args.program.now.keeps c.requires.applies c.requires.place c.requires.counted c.cost_lengths-less.ensures.less c.cost_lengths-less.ensures.more c.in_ok-all.ensures
    ∙ ap (λ (p : Program). counts p.nodes) (sym c.in_ok-set_column_cost.ensures.ok)
