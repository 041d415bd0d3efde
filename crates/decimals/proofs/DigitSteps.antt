-- Long division, step by step.
use Rattle.std.proofs.Common.{◌≡◌, ℕ, ◌+◌, ◌-◌, ◌*◌, ◌^◌, ◌<◌, ◌≤◌, ◌/◌, ◌%◌, ◌⊎◌, inl, inr, arith, add-one, lit≤, div-add-mod'}
use Rattle.std.proofs.lemmas.Bool.{cases_lt}
use Rattle.std.proofs.lemmas.Nat.{mod_below}
use Rattle.std.proofs.Math.Nat.{pow-le-pow_right, mul-le-mul_right, div-mul-le_self}
use native.Mathlib.Nat.{pow-succ', pow-zero}

pub ten_step : (k : ℕ) → 10 ^ (k + 1) ≡ 10 * 10 ^ k
ten_step k = rw (add-one k) (pow-succ' 10 k)

pub ten_zero : 10 ^ 0 ≡ 1
ten_zero = pow-zero 10

pub ten_large : (m k : ℕ) → m ≤ k → 10 ^ m ≤ 10 ^ k
ten_large m k h = let positive : 0 < 10 = omega arith in pow-le-pow_right positive h

le_times : (n p : ℕ) → 0 < n → p ≤ n * p
le_times n p h = let one : 1 ≤ n = omega arith in let t : 1 * p ≤ n * p = mul-le-mul_right p one in omega arith

-- ---- without the last digit

pub drop_low : (n q p w : ℕ) → 10 * q ≤ n → n * p ≤ w → q * (10 * p) ≤ w
drop_low n q p w a b = let h : (10 * q) * p ≤ n * p = mul-le-mul_right p a in omega arith

pub drop_high : (n q p w : ℕ) → n + 1 ≤ 10 * q + 10 → w < (n + 1) * p → w < (q + 1) * (10 * p)
drop_high n q p w a b = let h : (n + 1) * p ≤ (10 * q + 10) * p = mul-le-mul_right p a in omega arith

pub up_short : (n k w : ℕ) → 0 < n → n * 10 ^ k ≤ w → w < 2 ^ 127 → k < 39
up_short n k w a b c = go (cases_lt k 39)
  where
    go : (k < 39) ⊎ (39 ≤ k) → k < 39
    go (inl h) = h
    go (inr h) =
        let least : 2 ^ 127 ≤ 10 ^ 39 = lit≤ tt in
        let most : 10 ^ 39 ≤ 10 ^ k = ten_large 39 k h in
        let times : 10 ^ k ≤ n * 10 ^ k = le_times n (10 ^ k) a in
        omega arith

-- ---- with one digit more

pub grow_kept : (q r d n p g s : ℕ) → q * d + r ≡ n * p → g * d + s ≡ 10 * r → (q * 10 + g) * d + s ≡ n * (10 * p)
grow_kept q r d n p g s a b = omega arith

-- as long as there are fewer digits, the whole number with its rest is small
pub below : (l q d r : ℕ) → q < l → r < d → q * d + r < l * d
below l q d r a b = let one : q + 1 ≤ l = omega arith in let h : (q + 1) * d ≤ l * d = mul-le-mul_right d one in omega arith

pub grow_smaller : (l q d r g s : ℕ) → q < l → r < d → 0 < q * d + r → g * d + s ≡ 10 * r
    → l * d - ((q * 10 + g) * d + s) < l * d - (q * d + r)
grow_smaller l q d r g s a b c e = let h : q * d + r < l * d = below l q d r a b in omega arith

pub some_times : (n k : ℕ) → 0 < n → 0 < n * 10 ^ k
some_times n k h =
    let one : 10 ^ 0 ≤ 10 ^ k = ten_large 0 k (omega arith) in
    let times : 10 ^ k ≤ n * 10 ^ k = le_times n (10 ^ k) h in
    let z : 10 ^ 0 ≡ 1 = ten_zero in
    omega arith

pub down_short : (n k q d r : ℕ) → 0 < n → q * d + r ≡ n * 10 ^ k → q < 1000000000000 → r < d → d < 2 ^ 127 → k < 51
down_short n k q d r a e b c f = go (cases_lt k 51)
  where
    go : (k < 51) ⊎ (51 ≤ k) → k < 51
    go (inl h) = h
    go (inr h) =
        let small : q * d + r < 1000000000000 * d = below 1000000000000 q d r b c in
        let least : 1000000000000 * 2 ^ 127 ≤ 10 ^ 51 = lit≤ tt in
        let most : 10 ^ 51 ≤ 10 ^ k = ten_large 51 k h in
        let times : 10 ^ k ≤ n * 10 ^ k = le_times n (10 ^ k) a in
        omega arith

-- ---- both together

pub floor_low : (n d w q p : ℕ) → w * d ≤ n → q * p ≤ w → q * (p * d) ≤ n
floor_low n d w q p a b = let h : (q * p) * d ≤ w * d = mul-le-mul_right d b in omega arith

pub floor_high : (n d w q p : ℕ) → n < (w + 1) * d → w + 1 ≤ (q + 1) * p → n < (q + 1) * (p * d)
floor_high n d w q p a b = let h : (w + 1) * d ≤ ((q + 1) * p) * d = mul-le-mul_right d b in omega arith

-- ---- the nearest number of tens

-- c is 2 m - 1
pub half_low : (c t m u x : ℕ) → c + 1 ≡ 2 * m → 10 * m ≤ t + 5 → t * u ≤ x → c * (10 * u) ≤ 2 * x
half_low c t m u x e a b =
    let n : 10 * c ≤ 2 * t = omega arith in
    let h : (10 * c) * u ≤ (2 * t) * u = mul-le-mul_right u n in
    omega arith

pub half_high : (t m u x : ℕ) → t + 5 < 10 * m + 10 → x < (t + 1) * u → 2 * x < (2 * m + 1) * (10 * u)
half_high t m u x a b =
    let n : 2 * (t + 1) ≤ 20 * m + 10 = omega arith in
    let h : (2 * (t + 1)) * u ≤ (20 * m + 10) * u = mul-le-mul_right u n in
    omega arith

-- ---- quotients

pub quotient_low : (n d : ℕ) → n / d * d ≤ n
quotient_low n d = div-mul-le_self n d

pub quotient_high : (n d : ℕ) → 0 < d → n < (n / d + 1) * d
quotient_high n d h =
    let whole : n / d * d + n % d ≡ n = div-add-mod' n d in
    let rest : n % d < d = mod_below n d h in
    omega arith
