-- Digits and the numbers that they make.
use Rattle.std.proofs.Common.{◌≡◌, ◌∙◌, ap, sym, refl, subst, ℕ, zero, suc, ◌+◌, ◌*◌, ◌/◌, ◌%◌, ◌<◌, ◌≤◌, min, Bool, true, false, List, [], ◌∷◌, length, get_or, drop, length-drop, nat_le, arith}
use Rattle.std.proofs.Math.Nat.{div-lt_iff_lt-mul, mul-div_cancel_left, mul_assoc, mul-le-mul_left, mul-le-mul_right}
use Rattle.std.proofs.lemmas.List.{drop_more}
use Rattle.std.proofs.lemmas.Bool.Decides.{nat_tests}
use Rattle.tree_build.specs.declared.wheels.Wheel.{Wheel}
use Rattle.tree_build.specs.Wheels.{product, sizes_of, digits_of, IsWithin}

-- each size is above its digit, so their product is above 0
pub within_some : (sizes digits : List ℕ) → IsWithin sizes digits → 0 < product sizes
within_some [] [] w = omega arith
within_some [] (d ∷ digits) w = absurd w
within_some (s ∷ sizes) [] w = absurd w
within_some (s ∷ sizes) (d ∷ digits) w = let later = within_some sizes digits w.1 in above s (product sizes) (omega (arith, w.0)) later
  where
    above : (s p : ℕ) → 0 < s → 0 < p → 0 < s * p
    above s p a b = grind arith

some_size : (s p rest : ℕ) → rest < s * p → 0 < s
some_size zero p rest h = absurd (let none : zero * p ≡ 0 = omega arith in omega (arith, h, none))
some_size (suc s) p rest h = omega arith

some_rest : (s p rest : ℕ) → rest < s * p → 0 < p
some_rest s zero rest h = absurd (let none : s * zero ≡ 0 = omega arith in omega (arith, h, none))
some_rest s (suc p) rest h = omega arith

-- the digits of a number are below their sizes
pub digits_within : (sizes : List ℕ) (number : ℕ) → number < product sizes → IsWithin sizes (digits_of sizes number)
digits_within [] number below = tt
digits_within (s ∷ sizes) number below =
    let some : 0 < product sizes = some_rest s (product sizes) number below in
    ((div-lt_iff_lt-mul some).1 below, digits_within sizes (number % product sizes) (omega (arith, some)))

pub behind_is : (total s p rest : ℕ) → total ≡ s * p → rest < total → total / s ≡ p
behind_is total s p rest e h = ap (λ t. t / s) e ∙ mul-div_cancel_left p (some_size s p rest (subst (λ (t : ℕ). rest < t) e h))

pub behind_some : (total s p rest : ℕ) → total ≡ s * p → rest < total → 0 < p
behind_some total s p rest e h = some_rest s p rest (subst (λ (t : ℕ). rest < t) e h)

-- a number of these digits so far has room for one more
pub room : (key s p total : ℕ) → 0 < p → (key + 1) * (s * p) ≤ total → (key + 1) * s ≤ total
room key s p total some h =
    let more : s ≤ s * p = more_by s p some in
    let all : (key + 1) * s ≤ (key + 1) * (s * p) = mul-le-mul_left (key + 1) more in
    omega (arith, all, h)
  where
    more_by : (s p : ℕ) → 0 < p → s ≤ s * p
    more_by s zero some = absurd (omega (arith, some))
    more_by s (suc p) some = omega arith

pub next_key : (key s d p total : ℕ) → d < s → (key + 1) * (s * p) ≤ total → (key * s + d + 1) * p ≤ total
next_key key s d p total below h =
    let low : key * s + d + 1 ≤ (key + 1) * s = omega (arith, below) in
    let all : (key * s + d + 1) * p ≤ (key + 1) * s * p = mul-le-mul_right p low in
    let same : (key + 1) * s * p ≡ (key + 1) * (s * p) = mul_assoc (key + 1) s p in
    omega (arith, all, same, h)

pub same_key : (key s p total : ℕ) → 0 < s → (key + 1) * (s * p) ≤ total → (key + 1) * p ≤ total
same_key key s p total some h =
    let more : p ≤ s * p = more_by s p some in
    let all : (key + 1) * p ≤ (key + 1) * (s * p) = mul-le-mul_left (key + 1) more in
    omega (arith, all, h)
  where
    more_by : (s p : ℕ) → 0 < s → p ≤ s * p
    more_by zero p some = absurd (omega (arith, some))
    more_by (suc s) p some = omega arith

-- ---- a capped product

pub capped : (m a s p : ℕ) → min (min (a * s) m * p) m ≡ min (a * (s * p)) m
capped m a s p = go (nat_le (a * s) m) refl
  where
    much : (x q : ℕ) → m ≤ x → m ≤ x * suc q
    much x q h = omega (arith, h)

    past : (q : ℕ) → m < a * s → min (m * q) m ≡ min (a * (s * q)) m
    past zero h = let one : m * zero ≡ 0 = omega arith in let other : a * (s * zero) ≡ 0 = ap (λ x. a * x) (let z : s * zero ≡ 0 = omega arith in z) ∙ (let z : a * 0 ≡ 0 = omega arith in z) in ap (λ x. min x m) (one ∙ sym other)
    past (suc q) h =
        let first = much m q (omega arith) in
        let second = much (a * s) q (omega (arith, h)) in
        let assoc : a * s * suc q ≡ a * (s * suc q) = mul_assoc a s (suc q) in
        omega (arith, first, second, assoc)

    go : (b : Bool) → nat_le (a * s) m ≡ b → min (min (a * s) m * p) m ≡ min (a * (s * p)) m
    go true is =
        let low : a * s ≤ m = grind (arith, nat_tests, is) in
        let same : min (a * s) m ≡ a * s = omega (arith, low) in
        ap (λ x. min (x * p) m) same ∙ ap (λ x. min x m) (mul_assoc a s p)
    go false is =
        let high : m < a * s = grind (arith, nat_tests, is) in
        let same : min (a * s) m ≡ m = omega (arith, high) in
        ap (λ x. min (x * p) m) same ∙ past p high

-- ---- a wheel and its digit

abbrev pub no_wheel : Wheel
no_wheel = record { block = 0; stage = 0; size = 0 }

within_long : (sizes digits : List ℕ) → IsWithin sizes digits → length sizes ≡ length digits
within_long [] [] w = refl
within_long [] (d ∷ digits) w = absurd w
within_long (s ∷ sizes) [] w = absurd w
within_long (s ∷ sizes) (d ∷ digits) w = ap suc (within_long sizes digits w.1)

sizes_length : (wheels : List Wheel) → length (sizes_of wheels) ≡ length wheels
sizes_length [] = refl
sizes_length (wheel ∷ wheels) = ap suc (sizes_length wheels)

pub digit_there : (wheels : List Wheel) (digits : List ℕ) (i : ℕ) → IsWithin (sizes_of (drop i wheels)) (drop i digits) → i < length wheels → i < length digits
digit_there wheels digits i w below =
    let same : length (sizes_of (drop i wheels)) ≡ length (drop i digits) = within_long (sizes_of (drop i wheels)) (drop i digits) w in
    let long : length (drop i wheels) ≡ length (drop i digits) = sym (sizes_length (drop i wheels)) ∙ same in
    omega (arith, long, length-drop i wheels, length-drop i digits, below)

pub read_wheel : (wheels : List Wheel) (i : ℕ) → i < length wheels → drop i wheels ≡ get_or wheels i no_wheel ∷ drop (i + 1) wheels
read_wheel wheels i below = drop_more wheels i no_wheel below

pub read_digit : (digits : List ℕ) (i : ℕ) → i < length digits → drop i digits ≡ get_or digits i 0 ∷ drop (i + 1) digits
read_digit digits i below = drop_more digits i 0 below

pub within_read : (wheels : List Wheel) (digits : List ℕ) (i : ℕ) → IsWithin (sizes_of (drop i wheels)) (drop i digits) → i < length wheels →
    (get_or digits i 0 < (get_or wheels i no_wheel).size) × IsWithin (sizes_of (drop (i + 1) wheels)) (drop (i + 1) digits)
within_read wheels digits i w below =
    let inside = digit_there wheels digits i w below in
    subst (λ (ds : List ℕ). IsWithin (sizes_of (get_or wheels i no_wheel ∷ drop (i + 1) wheels)) ds) (read_digit digits i inside)
    (subst (λ (ws : List Wheel). IsWithin (sizes_of ws) (drop i digits)) (read_wheel wheels i below) w)

pub product_read : (wheels : List Wheel) (i : ℕ) → i < length wheels → product (sizes_of (drop i wheels)) ≡ (get_or wheels i no_wheel).size * product (sizes_of (drop (i + 1) wheels))
product_read wheels i below = ap (λ ws. product (sizes_of ws)) (read_wheel wheels i below)
