use Rattle.std.proofs.Common.{◌≡◌, ◌∙◌, ◌++◌, ◌∷◌, ◌+◌, ◌/◌, ◌%◌, ◌*◌, ◌<◌, [], ap, sym, subst, ℕ, drop, get_or, append_assoc, arith}
use Rattle.tree_build.specs.Wheels.{product, sizes_of, digits_of}
use Rattle.tree_build.proofs.WheelLemmas.{behind_is, behind_some, no_wheel, product_read, read_wheel}
use Rattle.tree_build.proofs.wheels.digits_of.Goals as goal

pub loop-wheel-preserved : goal.loop-wheel-preserved
loop-wheel-preserved c =
    let i = c.loop-wheel.wheel-index in
    let wheels = c.args.wheels.now in
    let size = (get_or wheels i no_wheel).size in
    let rest = c.loop-wheel.rest in
    let total = c.loop-wheel.total in
    let behind = product (sizes_of (drop (i + 1) wheels)) in
    let whole : total ≡ size * behind = c.loop-wheel.invariant.total ∙ product_read wheels i c.loop-wheel-test.true in
    let is : total / size ≡ behind = behind_is total size behind rest whole c.loop-wheel.invariant.rest in
    let some : 0 < behind = behind_some total size behind rest whole c.loop-wheel.invariant.rest in
    record {
      total = is;
      rest = subst (λ (b : ℕ). rest % b < b) (sym is) (omega (arith, some));
      kept =
          ap (λ l. l ++ digits_of (sizes_of (drop (i + 1) wheels)) (rest % (total / size))) c.in_ok-push.ensures.items
          ∙ append_assoc c.loop-wheel.digits.items (rest / (total / size) ∷ []) (digits_of (sizes_of (drop (i + 1) wheels)) (rest % (total / size)))
          ∙ ap (λ b. c.loop-wheel.digits.items ++ rest / b ∷ digits_of (sizes_of (drop (i + 1) wheels)) (rest % b)) is
          ∙ sym (ap (λ ws. c.loop-wheel.digits.items ++ digits_of (sizes_of ws) rest) (read_wheel wheels i c.loop-wheel-test.true))
          ∙ c.loop-wheel.invariant.kept;
    }
