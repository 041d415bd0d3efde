-- The quotients from here on are those from the start.
use Rattle.std.proofs.Common.{◌≡◌, [], drop}
use Rattle.stoch_defs.specs.Finish.{divided_from}
use Rattle.smps_stoch.proofs.finish.divided.Given as goal

abbrev pub invariant-loop-value : goal.invariant-loop-value
invariant-loop-value l = divided_from l.total l.parts.items (drop l.value-index l.values) ≡ divided_from l.total [] l.values
