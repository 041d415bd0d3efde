-- The scenarios so far and the others are all.
use Rattle.std.proofs.Common.{◌≡◌, [], map}
use Rattle.std.specs.Vec.Iter.{into_iter_items}
use Rattle.scen_defs.specs.Program.{scenarios_content}
use Rattle.stoch_defs.specs.Random.{branch_content}
use Rattle.tree_build.specs.Numbering.{paths_content}
use Rattle.tree_build.specs.Finish.{branch_paths}
use Rattle.tree_build.proofs.scenarios.branch_scenarios.Given as goal

abbrev pub invariant-loop-found : goal.invariant-loop-found
invariant-loop-found l =
    (goal.iterator-loop-found).can_next l.found-iterator ×
    (goal.iterator-loop-found).is_finite l.found-iterator ×
    (branch_paths (map branch_content l.branches) (scenarios_content l.all.items) (paths_content (into_iter_items l.found-iterator)) ≡ branch_paths (map branch_content l.branches) [] (paths_content l.fn.paths.items))
