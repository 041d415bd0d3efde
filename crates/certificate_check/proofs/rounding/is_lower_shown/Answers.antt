use Rattle.std.proofs.Common.{Ok, sym, ap, ◌∙◌}
use Rattle.std.specs.Prelude.{is_some}
use Rattle.scen_defs.proofs.Valid.{programs_are_trees}
use Rattle.scen_defs.specs.Program.{content}
use Rattle.certificate_check.proofs.HoldsLemmas.{lower_shown}
use Rattle.certificate_check.proofs.rounding.is_lower_shown.Goals as goal

pub returns-in-Ok-Holds : goal.returns-in-Ok-Holds
returns-in-Ok-Holds c = λ yes_it_is.
    lower_shown c.args.program.now (programs_are_trees (content c.args.program.now) c.args.program.now.keeps).0 c.args.lower c.args.dual.now
    (ap is_some c.in-Some-Some.is-0 ∙ sym (ap is_some c.in-Some-Some.is-1)) (c.in-Ok-Holds.ensures ∙ ap Ok c.in-Ok-Holds.field-0-is)
