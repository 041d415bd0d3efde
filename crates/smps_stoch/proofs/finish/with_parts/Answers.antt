-- Nothing is left.
use Rattle.std.proofs.Common.{◌∙◌, ap, map}
use Rattle.stoch_defs.specs.Finish.{with_parts}
use Rattle.stoch_defs.specs.Random.{case_content}
use Rattle.smps_stoch.specs.View.{cases_in}
use Rattle.smps_stoch.proofs.FinishLemmas.{ended, whole, no_parts}
use Rattle.smps_stoch.proofs.finish.with_parts.Goals as goal

pub returns : goal.returns
returns c =
    whole (cases_in c.loop-case.done) (with_parts c.loop-case.rest.now (map case_content c.loop-case.case-iterator.rest.items)) _
    (ap (λ left. with_parts c.loop-case.rest.now (map case_content left)) (ended c.loop-case.case-iterator.rest.items c.loop-case.case-iterator.rest.len c.loop-case.case-iterator.rest.ok.0 c.in-None.ensures.steps.0)
    ∙ no_parts c.loop-case.rest.now) c.loop-case.invariant
