use Rattle.std.proofs.Common.{List, Option, ap, ◌∙◌}
use Rattle.scen_defs.specs.Program.{nodes_content}
use Rattle.scen_defs.specs.declared.program.Node.{Node as NodeOf}
use Rattle.edit_defs.specs.Limits.{counts}
use Rattle.smps_session.proofs.items.Progress.begin.Goals as goal

pub returns-clause-counted : goal.returns-clause-counted
returns-clause-counted c = c.in_ok-counted.ensures ∙ ap (λ (nodes : List (Option NodeOf)). counts (nodes_content nodes)) c.deref.ensures.value

pub returns-clause-stands : goal.returns-clause-stands
returns-clause-stands c = c.in_ok-method.ensures.stands

pub returns-clause-begins : goal.returns-clause-begins
returns-clause-begins c = λ few. c.in_ok-method.ensures.begins few
