use Rattle.std.proofs.Common.{◌≡◌, ◌≤◌, ◌*◌, ◌-◌, ◌^◌, min, drop}
use Rattle.tree_build.specs.Wheels.{product, sizes_of}
use Rattle.tree_build.proofs.wheels.count_of.Given as goal

abbrev pub invariant-loop-wheel : goal.invariant-loop-wheel
invariant-loop-wheel l = record {
  small : l.count ≤ 2 ^ 64 - 1;
  kept : min (l.count * product (sizes_of (drop l.wheel-index l.wheels))) (2 ^ 64 - 1) ≡ min (product (sizes_of l.wheels)) (2 ^ 64 - 1);
}
