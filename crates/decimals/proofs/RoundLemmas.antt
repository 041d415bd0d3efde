-- Thirteen digits that are cut off, rounded to twelve.
use Rattle.std.proofs.Common.{◌≡◌, ℕ, ◌+◌, ◌-◌, ◌*◌, ◌/◌, ◌^◌, ◌<◌, ◌≤◌, arith}
use Rattle.std.proofs.Math.Nat.{mul-le-mul_right}
use Rattle.decimals.specs.Rounded.{IsFloor, IsRounded}
use Rattle.decimals.proofs.DigitSteps.{ten_step, half_low, half_high}

unit_step : (k d : ℕ) → 10 ^ (k + 1) * d ≡ 10 * (10 ^ k * d)
unit_step k d = rw (ten_step k) (omega arith)

unit_steps : (k d : ℕ) → 10 ^ (k + 2) * d ≡ 100 * (10 ^ k * d)
unit_steps k d =
    let e : k + 2 ≡ (k + 1) + 1 = omega arith in
    rw (e, ten_step (k + 1), ten_step k) (omega arith)

module _ (t u x : ℕ) (least : 1000000000000 ≤ t) (low : t * u ≤ x) (high : x < (t + 1) * u) where
  decade_of : 1999999999999 * (10 * u) ≤ 20 * x
  decade_of = let h : 1000000000000 * u ≤ t * u = mul-le-mul_right u least in omega arith

  module _ (most : t < 10000000000000) (over : 9999999999995 ≤ t) where
    over_low : 199999999999 * (100 * u) ≤ 2 * x
    over_low = let h : 9999999999995 * u ≤ t * u = mul-le-mul_right u over in omega arith

    over_decade : 1999999999999 * (100 * u) ≤ 20 * x
    over_decade = let h : 9999999999995 * u ≤ t * u = mul-le-mul_right u over in omega arith

    over_high : 2 * x < 200000000001 * (100 * u)
    over_high =
        let one : t + 1 ≤ 10000000000000 = omega arith in
        let h : (t + 1) * u ≤ 10000000000000 * u = mul-le-mul_right u one in
        omega arith

-- the number of tens that is nearest
pub rounds : (n d t up down : ℕ) → 1000000000000 ≤ t → (t + 5) / 10 < 1000000000000 → IsFloor n d t up down
    → IsRounded n d ((t + 5) / 10) (up + 1) down
rounds n d t up down least most f =
    let u = 10 ^ up * d in
    let x = n * 10 ^ down in
    let m = (t + 5) / 10 in
    let twice : (2 * m - 1) + 1 ≡ 2 * m = omega arith in
    let tens : 10 * m ≤ t + 5 = omega arith in
    let ones : t + 5 < 10 * m + 10 = omega arith in
    record {
      least = omega arith;
      most = most;
      low = rw (unit_step up d) (half_low (2 * m - 1) t m u x twice tens f.low);
      high = rw (unit_step up d) (half_high t m u x ones f.high);
      decade = rw (unit_step up d) (decade_of t u x least f.low f.high);
    }

-- ten times as many tens as there may be
pub rounds_over : (n d t up down : ℕ) → 1000000000000 ≤ t → t < 10000000000000 → 1000000000000 ≤ (t + 5) / 10 → IsFloor n d t up down
    → IsRounded n d 100000000000 (up + 2) down
rounds_over n d t up down least most large f =
    let u = 10 ^ up * d in
    let x = n * 10 ^ down in
    let over : 9999999999995 ≤ t = omega arith in
    record {
      least = omega arith;
      most = omega arith;
      low = rw (unit_steps up d) (over_low t u x least f.low f.high most over);
      high = rw (unit_steps up d) (over_high t u x least f.low f.high most over);
      decade = rw (unit_steps up d) (over_decade t u x least f.low f.high most over);
    }
