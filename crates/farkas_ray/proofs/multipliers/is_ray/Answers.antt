use Rattle.std.proofs.Common.{rules, ◌≡◌, Ok}
use Rattle.farkas_ray.specs.Sums.{ray_walk}
use Rattle.farkas_ray.proofs.Exact.{ray_decides}
use Rattle.farkas_ray.proofs.multipliers.is_ray.Goals as goal

pub returns-clause-certified : goal.returns-clause-certified
returns-clause-certified c =
    let e : ray_walk c.args.program.now c.args.duals.now ≡ Ok c.if-has_good_sums.result = search rules in
    ray_decides c.args.program.now c.args.duals.now c.if-has_good_sums.result c.requires e
