use Rattle.std.proofs.Common.{ap, sym, ◌∙◌}
use Rattle.scen_defs.specs.Program.{Program, content}
use Rattle.edit_defs.specs.Limits.{counts}
use Rattle.edit_apply.proofs.Counting.{right_counts}
use Rattle.edit_apply.proofs.apply_set.apply_right_side.Goals as goal

pub returns-clause-counted : goal.returns-clause-counted
returns-clause-counted c = c.requires.counted ∙ sym (right_counts (content c.args.program.now) c.args.scenario.now c.args.row c.args.value) ∙ ap (λ (p : Program). counts p.nodes) (sym c.in_ok-set_right_side.ensures.ok)
