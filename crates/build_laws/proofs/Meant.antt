-- The builder's loop makes the program that is meant.
use Rattle.std.proofs.Common.{◌≡◌, ◌∙◌, subst, ℕ, [], map, length}
use Rattle.stoch_defs.specs.Random.Random.{Blocks, Branches}
use Rattle.scen_defs.specs.Lists.{Each}
use Rattle.build_defs.specs.Scenarios.{scenarios_of}
use Rattle.tree_build.specs.Wheels.{wheels_of, product, sizes_of}
use Rattle.tree_build.specs.Branches.{branch_rows}
use Rattle.tree_build.specs.Finish.{block_paths, branch_paths}
use Rattle.tree_build.specs.Walks.{debuts_of, paths_of, block_rows, block_all, branch_all}
use Rattle.tree_build.proofs.ScenarioLaws.{block_rows_long, block_rows_length}
use Rattle.build_laws.proofs.Numbered.{stand_of}
use Rattle.build_laws.proofs.Numbered.{NumberedAreMeant}
use Rattle.build_laws.proofs.BlockValues.{IsInside, all_inside, blocks_meant, meant_values}
use Rattle.build_laws.proofs.BranchValues.{branches_meant}
use Rattle.build_laws.proofs.Finish.{walk_is, limits_are}

pub numbered_are_meant : NumberedAreMeant
numbered_are_meant core p (Blocks blocks) cases numbered =
    let wheels = wheels_of (length p.names) blocks in
    let rows = block_rows (length p.names) wheels in
    let scenarios = scenarios_of p (Blocks blocks) in
    let long : length rows ≡ length scenarios = block_rows_length (length p.names) wheels ∙ numbered.count in
    let inside = subst (λ (n : ℕ). Each (IsInside n (length p.names)) (debuts_of rows)) long (all_inside rows (length p.names) (block_rows_long (length p.names) wheels)) in
    let values : block_all core p blocks wheels rows ≡ map (meant_values core p) (map (stand_of scenarios) (debuts_of rows)) = blocks_meant core p blocks wheels scenarios (debuts_of rows) inside numbered.sets in
    record {
      over = limits_are core p scenarios rows (product (sizes_of wheels)) (block_all core p blocks wheels rows) numbered.numbered numbered.count values;
      walk = walk_is core p scenarios rows (block_paths blocks wheels [] (paths_of rows)) (block_all core p blocks wheels rows) numbered.numbered numbered.walk values;
    }
numbered_are_meant core p (Branches branches) cases numbered =
    let rows = branch_rows (length p.names) [] branches in
    let scenarios = scenarios_of p (Branches branches) in
    let values : branch_all core p branches rows ≡ map (meant_values core p) (map (stand_of scenarios) (debuts_of rows)) = branches_meant core p branches scenarios cases.ancestral numbered.count numbered.sets in
    record {
      over = limits_are core p scenarios rows (length branches) (branch_all core p branches rows) numbered.numbered numbered.count values;
      walk = walk_is core p scenarios rows (branch_paths branches [] (paths_of rows)) (branch_all core p branches rows) numbered.numbered numbered.walk values;
    }
