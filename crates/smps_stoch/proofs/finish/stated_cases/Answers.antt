-- Nothing is left.
use Rattle.std.proofs.Common.{◌∙◌, ap, map}
use Rattle.stoch_defs.specs.Finish.{stated_cases}
use Rattle.smps_stoch.specs.View.{sets_in, cases_in}
use Rattle.smps_stoch.proofs.FinishLemmas.{ended, whole, no_stated}
use Rattle.smps_stoch.proofs.finish.stated_cases.Goals as goal

pub returns : goal.returns
returns c =
    whole (cases_in c.loop-sets.cases) (stated_cases c.loop-sets.rest.now (map sets_in c.loop-sets.sets-iterator.rest.items)) _
    (ap (λ left. stated_cases c.loop-sets.rest.now (map sets_in left)) (ended c.loop-sets.sets-iterator.rest.items c.loop-sets.sets-iterator.rest.len c.loop-sets.sets-iterator.rest.ok.0 c.in-None.ensures.steps.0)
    ∙ no_stated c.loop-sets.rest.now) c.loop-sets.invariant
