use Rattle.std.proofs.Common.{◌≡◌, ◌∙◌, ◌+◌, ap, sym, Ok, map, drop, get_or}
use Rattle.rationals.specs.Passes.{mul_walk}
use Rattle.stoch_defs.specs.Random.{block_content}
use Rattle.build_defs.specs.Built.{product_from}
use Rattle.tree_build.specs.Choices.{case_at, chances_of}
use Rattle.tree_build.proofs.WheelLemmas.{no_wheel}
use Rattle.tree_build.proofs.ChoiceLemmas.{chances_read, chances_past, product_more}
use Rattle.tree_build.proofs.choices.chance.Goals as goal
use Rattle.tree_build.proofs.choices.chance.Goals.{then-place-digits+in_ok-product, else-place-digits}

pub loop-place-preserved : goal.loop-place-preserved
loop-place-preserved c =
    let i = c.loop-place.place in
    let blocks = map block_content c.args.blocks.now in
    let wheels = c.args.wheels.now in
    let digits = c.args.digits.now in
    let product = c.loop-place.product in
    let rest = chances_of blocks (drop (i + 1) wheels) (drop (i + 1) digits) in
    elim c.if-place-digits.branch [
      | then-place-digits+in_ok-product w ↦
          (let p = (case_at blocks (get_or wheels i no_wheel).block (get_or digits i 0)).probability in
          let made : mul_walk product p ≡ Ok w.in_ok-product.product = ap (mul_walk product) (sym w.probability_at.ensures) ∙ sym w.mul.ensures ∙ w.in_ok-product.was in
          ap (λ n. product_from n rest) w.product-is
          ∙ sym (product_more product w.in_ok-product.product p rest made)
          ∙ sym (ap (product_from product) (chances_read blocks wheels digits i c.loop-place-test.true w.if-place-digits.true)) ∙ c.loop-place.invariant)
      | else-place-digits w ↦
          ap (λ n. product_from n rest) w.product-is ∙ ap (product_from product) (chances_past blocks wheels digits i w.if-place-digits.false) ∙ c.loop-place.invariant
    ]
