use Rattle.std.proofs.Common.{◌≡◌, ◌<◌, ◌++◌, drop}
use Rattle.tree_build.specs.Wheels.{product, sizes_of, digits_of}
use Rattle.tree_build.proofs.wheels.digits_of.Given as goal

abbrev pub invariant-loop-wheel : goal.invariant-loop-wheel
invariant-loop-wheel l = record {
  total : l.total ≡ product (sizes_of (drop l.wheel-index l.wheels));
  rest : l.rest < l.total;
  kept : l.digits.items ++ digits_of (sizes_of (drop l.wheel-index l.wheels)) l.rest ≡ digits_of (sizes_of l.wheels) l.number;
}
