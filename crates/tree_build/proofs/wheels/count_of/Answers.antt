use Rattle.std.proofs.Common.{◌≡◌, ◌∙◌, ◌*◌, ◌-◌, ◌^◌, ◌+◌, ap, sym, min, drop, get_or, drop_of_length-le, arith}
use Rattle.tree_build.specs.Wheels.{product, sizes_of}
use Rattle.tree_build.proofs.WheelLemmas.{capped, no_wheel, product_read}
use Rattle.tree_build.proofs.wheels.count_of.Goals as goal

pub loop-wheel-preserved : goal.loop-wheel-preserved
loop-wheel-preserved c =
    let i = c.loop-wheel.wheel-index in
    let wheels = c.args.wheels.now in
    let count = c.loop-wheel.count in
    let size = (get_or wheels i no_wheel).size in
    let rest = product (sizes_of (drop (i + 1) wheels)) in
    record {
      small = omega (arith, c.saturating_mul-count.ensures);
      kept =
          ap (λ n. min (n * rest) (2 ^ 64 - 1)) c.saturating_mul-count.ensures ∙ capped (2 ^ 64 - 1) count size rest
          ∙ ap (λ p. min (count * p) (2 ^ 64 - 1)) (sym (product_read wheels i c.loop-wheel-test.true)) ∙ c.loop-wheel.invariant.kept;
    }

pub returns : goal.returns
returns c =
    let none = drop_of_length-le c.args.wheels.now c.loop-wheel-test.false in
    let last : min (c.loop-wheel.count * 1) (2 ^ 64 - 1) ≡ min (product (sizes_of c.args.wheels.now)) (2 ^ 64 - 1) =
    sym (ap (λ ws. min (c.loop-wheel.count * product (sizes_of ws)) (2 ^ 64 - 1)) none) ∙ c.loop-wheel.invariant.kept in
    let same : c.loop-wheel.count ≡ min (c.loop-wheel.count * 1) (2 ^ 64 - 1) = omega (arith, c.loop-wheel.invariant.small) in
    same ∙ last
