use Rattle.std.proofs.Common.{◌≡◌, map, drop}
use Rattle.rationals.specs.Rational.{one_ℚ}
use Rattle.stoch_defs.specs.Random.{block_content}
use Rattle.build_defs.specs.Built.{product_from}
use Rattle.tree_build.specs.Choices.{chances_of}
use Rattle.tree_build.proofs.choices.chance.Given as goal

abbrev pub invariant-loop-place : goal.invariant-loop-place
invariant-loop-place l =
    product_from l.product (chances_of (map block_content l.blocks) (drop l.place l.wheels) (drop l.place l.digits)) ≡ product_from one_ℚ (chances_of (map block_content l.blocks) l.wheels l.digits)
