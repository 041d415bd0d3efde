use Rattle.std.proofs.Common.{◌≡◌, ◌∙◌, ◌+◌, ◌*◌, ◌≤◌, List, ℕ, ap, ap₂, sym, subst, true, false, drop, get_or, nat_le, arith, if◌then◌else◌}
use Rattle.std.proofs.lemmas.Bool.Decides.{nat_tests}
use Rattle.tree_build.specs.declared.wheels.Wheel.{Wheel}
use Rattle.tree_build.specs.Wheels.{product, sizes_of, key_to}
use Rattle.tree_build.proofs.WheelLemmas.{within_some, room, next_key, same_key, no_wheel, digit_there, within_read, read_wheel, read_digit, product_read}
use Rattle.tree_build.proofs.wheels.key_to.Goals as goal
use Rattle.tree_build.proofs.wheels.key_to.Goals.{then-wheel-stage+then-place-digits, else-wheel-stage, else-wheel-stage-via-then-wheel-stage+else-place-digits, else-wheel-stage-via-else-wheel-stage}

pub overflow_mul-key : goal.overflow_mul-key
overflow_mul-key c =
    let i = c.loop-place.place in
    let wheels = c.args.wheels.now in
    let digits = c.args.digits.now in
    let key = c.loop-place.key in
    let size = (get_or wheels i no_wheel).size in
    let rest = product (sizes_of (drop (i + 1) wheels)) in
    let read = within_read wheels digits i c.loop-place.invariant.within c.loop-place-test.true in
    let some = within_some (sizes_of (drop (i + 1) wheels)) (drop (i + 1) digits) read.1 in
    let fits : (key + 1) * (size * rest) ≤ product (sizes_of wheels) = subst (λ (p : ℕ). (key + 1) * p ≤ product (sizes_of wheels)) (product_read wheels i c.loop-place-test.true) c.loop-place.invariant.fits in
    let space : (key + 1) * size ≤ product (sizes_of wheels) = room key size rest (product (sizes_of wheels)) some fits in
    let low : key * size ≤ (key + 1) * size = omega arith in
    omega (arith, space, low, c.requires.fits)

pub overflow_add-key : goal.overflow_add-key
overflow_add-key c =
    let i = c.loop-place.place in
    let wheels = c.args.wheels.now in
    let digits = c.args.digits.now in
    let key = c.loop-place.key in
    let size = (get_or wheels i no_wheel).size in
    let rest = product (sizes_of (drop (i + 1) wheels)) in
    let read = within_read wheels digits i c.loop-place.invariant.within c.loop-place-test.true in
    let some = within_some (sizes_of (drop (i + 1) wheels)) (drop (i + 1) digits) read.1 in
    let fits : (key + 1) * (size * rest) ≤ product (sizes_of wheels) = subst (λ (p : ℕ). (key + 1) * p ≤ product (sizes_of wheels)) (product_read wheels i c.loop-place-test.true) c.loop-place.invariant.fits in
    let space : (key + 1) * size ≤ product (sizes_of wheels) = room key size rest (product (sizes_of wheels)) some fits in
    let low : key * size + get_or digits i 0 ≤ (key + 1) * size = omega (arith, read.0) in
    omega (arith, space, low, c.requires.fits)

pub loop-place-preserved : goal.loop-place-preserved
loop-place-preserved c =
    let i = c.loop-place.place in
    let wheels = c.args.wheels.now in
    let digits = c.args.digits.now in
    let key = c.loop-place.key in
    let stage = c.args.stage in
    let wheel = get_or wheels i no_wheel in
    let digit = get_or digits i 0 in
    let whole = product (sizes_of wheels) in
    let rest = product (sizes_of (drop (i + 1) wheels)) in
    let inside = digit_there wheels digits i c.loop-place.invariant.within c.loop-place-test.true in
    let read = within_read wheels digits i c.loop-place.invariant.within c.loop-place-test.true in
    let fits : (key + 1) * (wheel.size * rest) ≤ whole = subst (λ (p : ℕ). (key + 1) * p ≤ whole) (product_read wheels i c.loop-place-test.true) c.loop-place.invariant.fits in
    let kept : key_to stage (drop (i + 1) wheels) (drop (i + 1) digits) (if nat_le wheel.stage stage then key * wheel.size + digit else key) ≡ key_to stage wheels digits 0 =
    sym (ap₂ (λ (ws : List Wheel) (ds : List ℕ). key_to stage ws ds key) (read_wheel wheels i c.loop-place-test.true) (read_digit digits i inside)) ∙ c.loop-place.invariant.kept in
    elim c.if-wheel-stage.branch [
      | then-wheel-stage+then-place-digits w ↦
          (let is : nat_le wheel.stage stage ≡ true = grind (arith, nat_tests, w.if-wheel-stage.true) in
          record {
            within = read.1;
            fits = subst (λ (k : ℕ). (k + 1) * rest ≤ whole) (sym w.key-is) (next_key key wheel.size digit rest whole read.0 fits);
            kept =
                ap (key_to stage (drop (i + 1) wheels) (drop (i + 1) digits)) w.key-is
                ∙ sym (ap (λ b. key_to stage (drop (i + 1) wheels) (drop (i + 1) digits) (if b then key * wheel.size + digit else key)) is) ∙ kept;
          })
      | else-wheel-stage w ↦ elim w.else-wheel-stage.branch [
        | else-wheel-stage-via-then-wheel-stage+else-place-digits w' ↦ absurd (omega (arith, w'.if-place-digits.false, inside))
        | else-wheel-stage-via-else-wheel-stage w' ↦
            (let is : nat_le wheel.stage stage ≡ false = grind (arith, nat_tests, w'.if-wheel-stage.false) in
            record {
              within = read.1;
              fits = subst (λ (k : ℕ). (k + 1) * rest ≤ whole) (sym w.key-is) (same_key key wheel.size rest whole (omega (arith, read.0)) fits);
              kept =
                  ap (key_to stage (drop (i + 1) wheels) (drop (i + 1) digits)) w.key-is
                  ∙ sym (ap (λ b. key_to stage (drop (i + 1) wheels) (drop (i + 1) digits) (if b then key * wheel.size + digit else key)) is) ∙ kept;
            })
      ]
    ]
