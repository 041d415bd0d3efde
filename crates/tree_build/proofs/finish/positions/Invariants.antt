use Rattle.std.proofs.Common.{◌≡◌, ◌++◌, map, drop}
use Rattle.tree_build.specs.Numbering.{paths_content}
use Rattle.tree_build.specs.Finish.{position_at}
use Rattle.tree_build.proofs.finish.positions.Given as goal

abbrev pub invariant-loop-debut : goal.invariant-loop-debut
invariant-loop-debut l = l.all.items ++ map (position_at (paths_content l.paths)) (drop l.debut-index l.debuts) ≡ map (position_at (paths_content l.paths)) l.debuts
