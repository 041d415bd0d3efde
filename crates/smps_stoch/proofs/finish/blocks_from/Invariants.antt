-- The blocks from here on are those from the start.
use Rattle.std.proofs.Common.{◌≡◌, [], map}
use Rattle.stoch_defs.specs.Finish.{blocks_from}
use Rattle.smps_stoch.specs.View.{cases_in, blocks_in}
use Rattle.smps_stoch.proofs.finish.blocks_from.Given as goal

abbrev pub invariant-loop-cases : goal.invariant-loop-cases
invariant-loop-cases l = blocks_from (blocks_in l.done) l.rest (map cases_in l.cases-iterator.rest.items) ≡ blocks_from [] l.stages (map cases_in l.fn.all.items)
