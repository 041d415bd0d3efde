use Rattle.std.proofs.Common.{◌≡◌, ◌++◌, map, drop}
use Rattle.found_ends.specs.Lasts.{last_point}
use Rattle.found_ends.proofs.last.Lasts.points.Given as goal

abbrev pub invariant-loop-place : goal.invariant-loop-place
invariant-loop-place l = l.all.items ++ map last_point (drop l.place-index l.self.nodes.items) ≡ map last_point l.self.nodes.items
