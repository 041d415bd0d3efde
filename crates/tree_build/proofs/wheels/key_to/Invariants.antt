use Rattle.std.proofs.Common.{◌≡◌, ◌≤◌, ◌+◌, ◌*◌, drop}
use Rattle.tree_build.specs.Wheels.{product, sizes_of, IsWithin, key_to}
use Rattle.tree_build.proofs.wheels.key_to.Given as goal

abbrev pub invariant-loop-place : goal.invariant-loop-place
invariant-loop-place l = record {
  within : IsWithin (sizes_of (drop l.place l.wheels)) (drop l.place l.digits);
  fits : (l.key + 1) * product (sizes_of (drop l.place l.wheels)) ≤ product (sizes_of l.wheels);
  kept : key_to l.stage (drop l.place l.wheels) (drop l.place l.digits) l.key ≡ key_to l.stage l.wheels l.digits 0;
}
