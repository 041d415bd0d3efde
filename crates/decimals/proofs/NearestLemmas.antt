-- No decimal of at most 12 digits is nearer than the rounded one.
use Rattle.std.proofs.Common.{◌≡◌, ◌∙◌, ℕ, ◌+◌, ◌-◌, ◌*◌, ◌^◌, ◌<◌, ◌≤◌, ◌⊎◌, inl, inr, sym, ap, arith}
use Rattle.std.proofs.lemmas.Bool.{cases_lt}
use Rattle.std.proofs.lemmas.Nat.{pow-add}
use Rattle.std.proofs.Math.Nat.{mul-le-mul_right}
use Rattle.decimals.specs.Rounded.{IsRounded, RoundedIsNearest, apart}
use Rattle.decimals.proofs.DigitSteps.{ten_step, ten_zero, ten_large}

-- ---- whole numbers of units p around x

module _ (x m p : ℕ) (low : 2 * (m * p) ≤ 2 * x + p) (high : 2 * x < 2 * (m * p) + p) where
  -- another whole number of them
  whole_no_nearer : (o : ℕ) → apart x (m * p) ≤ apart x (o * p)
  whole_no_nearer o = go (cases_lt o m) (cases_lt m o)
    where
      go : (o < m) ⊎ (m ≤ o) → (m < o) ⊎ (o ≤ m) → apart x (m * p) ≤ apart x (o * p)
      go (inl h) _ =
          let next : o + 1 ≤ m = omega arith in
          let more : (o + 1) * p ≤ m * p = mul-le-mul_right p next in
          omega arith
      go (inr h) (inl k) =
          let next : m + 1 ≤ o = omega arith in
          let more : (m + 1) * p ≤ o * p = mul-le-mul_right p next in
          omega arith
      go (inr h) (inr k) = let same : o ≡ m = omega arith in rw same (omega arith)

-- a number q of units w that are smaller; t and l are ten times a power of ten, and the power of twelve digits
module _ (x m p w o : ℕ) (least : 100000000000 ≤ m) (few : o < 1000000000000) (tens : 10 * w ≤ p)
    (low : 2 * (m * p) ≤ 2 * x + p) (high : 2 * x < 2 * (m * p) + p) (decade : 1999999999999 * p ≤ 20 * x) where
  small : o * w ≤ 999999999999 * w
  small = let h : o ≤ 999999999999 = omega arith in mul-le-mul_right w h

  large : 100000000000 * p ≤ m * p
  large = mul-le-mul_right p least

  larger : 100000000001 ≤ m → 100000000001 * p ≤ m * p
  larger h = mul-le-mul_right p h

  part_no_nearer : apart x (m * p) ≤ apart x (o * w)
  part_no_nearer = go (cases_lt x (m * p)) (cases_lt 100000000000 m)
    where
      go : (x < m * p) ⊎ (m * p ≤ x) → (100000000000 < m) ⊎ (m ≤ 100000000000) → apart x (m * p) ≤ apart x (o * w)
      go (inr h) _ = let s = small in let l = large in omega arith
      go (inl h) (inl k) =
          let s = small in
          let next : 100000000001 ≤ m = omega arith in
          let l = larger next in
          omega arith
      go (inl h) (inr k) =
          let s = small in
          let same : m ≡ 100000000000 = omega arith in
          let is : m * p ≡ 100000000000 * p = ap (λ n. n * p) same in
          omega arith

-- ---- in one scale

apart_times : (a b c : ℕ) → apart a b * c ≡ apart (a * c) (b * c)
apart_times a b c = go (cases_lt a b)
  where
    go : (a < b) ⊎ (b ≤ a) → apart a b * c ≡ apart (a * c) (b * c)
    go (inl h) =
        let e : a + (b - a) ≡ b = omega arith in
        let f : (a + (b - a)) * c ≡ b * c = ap (λ n. n * c) e in
        let z : a - b ≡ 0 = omega arith in
        rw z (omega arith)
    go (inr h) =
        let e : b + (a - b) ≡ a = omega arith in
        let f : (b + (a - b)) * c ≡ a * c = ap (λ n. n * c) e in
        let z : b - a ≡ 0 = omega arith in
        rw z (omega arith)

scaled : (a b den : ℕ) → (10 ^ a * den) * 10 ^ b ≡ 10 ^ (a + b) * den
scaled a b den = rw (pow-add 10 a b) (omega arith)

-- a power of ten that isn't less is a multiple
multiple : (n m den : ℕ) → n ≤ m → 10 ^ m * den ≡ 10 ^ (m - n) * (10 ^ n * den)
multiple n m den h =
    let e : (m - n) + n ≡ m = omega arith in
    let f : 10 ^ m ≡ 10 ^ (m - n) * 10 ^ n = ap (λ k. 10 ^ k) (sym e) ∙ pow-add 10 (m - n) n in
    rw f (omega arith)

-- one that is greater is ten times as much or more
tenfold : (n m den : ℕ) → m < n → 10 * (10 ^ m * den) ≤ 10 ^ n * den
tenfold n m den h =
    let e : ((n - m) - 1) + 1 ≡ n - m = omega arith in
    let f : 10 ^ (n - m) ≡ 10 * 10 ^ ((n - m) - 1) = ap (λ k. 10 ^ k) (sym e) ∙ ten_step ((n - m) - 1) in
    let one : 10 ^ 0 ≤ 10 ^ ((n - m) - 1) = ten_large 0 ((n - m) - 1) (omega arith) in
    let z : 10 ^ 0 ≡ 1 = ten_zero in
    let some : 10 ≤ 10 ^ (n - m) = omega arith in
    let times : 10 * (10 ^ m * den) ≤ 10 ^ (n - m) * (10 ^ m * den) = mul-le-mul_right (10 ^ m * den) some in
    rw (multiple m n den (omega arith)) times

module _ (num den digits up down other above below : ℕ) (r : IsRounded num den digits up down) (few : other < 1000000000000) where
  abbrev x : ℕ
  x = (num * 10 ^ down) * 10 ^ below

  abbrev p : ℕ
  p = (10 ^ up * den) * 10 ^ below

  abbrev w : ℕ
  w = (10 ^ above * den) * 10 ^ down

  low_scaled : 2 * (digits * p) ≤ 2 * x + p
  low_scaled =
      let c = 2 * digits - 1 in
      let u = 10 ^ up * den in
      let least = r.least in
      let twice : c + 1 ≡ 2 * digits = omega arith in
      let times : (c * u) * 10 ^ below ≤ (2 * (num * 10 ^ down)) * 10 ^ below = mul-le-mul_right (10 ^ below) r.low in
      let sum : (c + 1) * (u * 10 ^ below) ≡ (2 * digits) * (u * 10 ^ below) = ap (λ n. n * (u * 10 ^ below)) twice in
      omega arith

  high_scaled : 2 * x < 2 * (digits * p) + p
  high_scaled =
      let u = 10 ^ up * den in
      let next : 2 * (num * 10 ^ down) + 1 ≤ (2 * digits + 1) * u = omega (arith, r.high) in
      let times : (2 * (num * 10 ^ down) + 1) * 10 ^ below ≤ ((2 * digits + 1) * u) * 10 ^ below = mul-le-mul_right (10 ^ below) next in
      let one : 10 ^ 0 ≤ 10 ^ below = ten_large 0 below (omega arith) in
      let z : 10 ^ 0 ≡ 1 = ten_zero in
      omega arith

  decade_scaled : 1999999999999 * p ≤ 20 * x
  decade_scaled =
      let u = 10 ^ up * den in
      let times : (1999999999999 * u) * 10 ^ below ≤ (20 * (num * 10 ^ down)) * 10 ^ below = mul-le-mul_right (10 ^ below) r.decade in
      omega arith

  no_nearer : apart x (digits * p) ≤ apart x (other * w)
  no_nearer = go (cases_lt (above + down) (up + below))
    where
      go : (above + down < up + below) ⊎ (up + below ≤ above + down) → apart x (digits * p) ≤ apart x (other * w)
      go (inl h) = part_no_nearer x digits p w other r.least few (tens h) low_scaled high_scaled decade_scaled
        where
          tens : above + down < up + below → 10 * w ≤ p
          tens h = rw (scaled above down den, scaled up below den) (tenfold (up + below) (above + down) den h)
      go (inr h) = rw (same h) (whole_no_nearer x digits p low_scaled high_scaled (other * 10 ^ ((above + down) - (up + below))))
        where
          same : up + below ≤ above + down → other * w ≡ (other * 10 ^ ((above + down) - (up + below))) * p
          same h =
              let e : w ≡ 10 ^ ((above + down) - (up + below)) * p =
              scaled above down den ∙ multiple (up + below) (above + down) den h ∙ ap (λ n. 10 ^ ((above + down) - (up + below)) * n) (sym (scaled up below den)) in
              rw e (omega arith)

pub rounded_is_nearest : RoundedIsNearest
rounded_is_nearest num den digits up down other above below r few =
    let a = 10 ^ below in
    let b = 10 ^ down in
    let left : apart (num * b) (digits * (10 ^ up * den)) * a ≡ apart ((num * b) * a) (digits * ((10 ^ up * den) * a)) =
    apart_times (num * b) (digits * (10 ^ up * den)) a ∙ ap (λ n. apart ((num * b) * a) n) (omega arith) in
    let swap : (num * a) * b ≡ (num * b) * a = omega arith in
    let right : apart (num * a) (other * (10 ^ above * den)) * b ≡ apart ((num * b) * a) (other * ((10 ^ above * den) * b)) =
    apart_times (num * a) (other * (10 ^ above * den)) b ∙ ap (λ n. apart n ((other * (10 ^ above * den)) * b)) swap ∙ ap (λ n. apart ((num * b) * a) n) (omega arith) in
    rw (left, right) (no_nearer num den digits up down other above below r few)
