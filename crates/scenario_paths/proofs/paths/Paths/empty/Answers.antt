-- Nothing is at hand.
use Rattle.std.proofs.Common.{map}
use Rattle.scenario_paths.specs.Paths.{node_stated}
use Rattle.scenario_paths.proofs.paths.Paths.empty.Goals as goal

pub invariant_of-result : goal.invariant_of-result
invariant_of-result c = c.empty.ensures (map node_stated c.new.result.items)
