-- Nothing is left.
use Rattle.std.proofs.Common.{◌∙◌, ap, map, sym}
use Rattle.stoch_defs.specs.Finish.{blocks_from}
use Rattle.smps_stoch.specs.View.{cases_in, blocks_in}
use Rattle.smps_stoch.proofs.FinishLemmas.{ended, no_more_blocks}
use Rattle.smps_stoch.proofs.finish.blocks_from.Goals as goal

pub returns : goal.returns
returns c =
    sym c.loop-cases.invariant
    ∙ ap (λ left. blocks_from (blocks_in c.loop-cases.done) c.loop-cases.rest.now (map cases_in left)) (ended c.loop-cases.cases-iterator.rest.items c.loop-cases.cases-iterator.rest.len c.loop-cases.cases-iterator.rest.ok.0 c.in-None.ensures.steps.0)
    ∙ no_more_blocks (blocks_in c.loop-cases.done) c.loop-cases.rest.now
