-- What a fraction is: a numerator, and a denominator above 0.
use Rattle.std.specs.Prelude.{◌≡◌, ℕ, ◌+◌, ◌*◌, ◌/◌, ◌^◌, ◌<◌, pos, negsuc, ◌+ℤ◌, ◌*ℤ◌, neg_ℤ}
use Rattle.std.specs.Prelude.{int_div, unsigned_abs, int_lt, ℤ, Bool, true}
use Rattle.std.specs.Prelude.{false}
use Rattle.rationals.specs.Gcd.{gcd}

pub record Ratio : Type 0 where
  pub num : ℤ
  pub den : ℕ

-- both parts are below 2 ^ 127 in size
pub record Fits (r : Ratio) : Type 0 where
  pub num : unsigned_abs r.num < 2 ^ 127
  pub den : r.den < 2 ^ 127

-- whole, and below 2 ^ 63 in size
pub record IsShort (r : Ratio) : Type 0 where
  pub whole : r.den ≡ 1
  pub size : unsigned_abs r.num < 2 ^ 63

-- what holds of the two parts of a `Frac`
pub record IsFrac (num : ℤ) (den : ℕ) : Type 0 where
  pub above_zero : 0 < den
  pub fits : Fits (record { num = num; den = den })
  pub coprime : gcd (unsigned_abs num) den ≡ 1

-- lowest terms, of any size
pub record IsLowest (r : Ratio) : Type 0 where
  pub above_zero : 0 < r.den
  pub coprime : gcd (unsigned_abs r.num) r.den ≡ 1

-- n over d, in lowest terms
abbrev pub lowest : ℤ → ℕ → Ratio
lowest n d = record { num = int_div n (pos (gcd (unsigned_abs n) d)); den = d / gcd (unsigned_abs n) d }

-- n divided by d, in lowest terms
abbrev pub quotient : ℤ → ℤ → Ratio
quotient n (pos d) = lowest n d
quotient n (negsuc d) = lowest (neg_ℤ n) (d + 1)

-- a number by its sign and its size
abbrev pub signed : Bool → ℕ → ℤ
signed true n = neg_ℤ (pos n)
signed false n = pos n

-- the integer n
abbrev pub whole : ℤ → Ratio
whole n = record { num = n; den = 1 }

-- one over x, where x is not 0
abbrev pub inverted : Ratio → Ratio
inverted x = record { num = signed (int_lt x.num (pos 0)) x.den; den = unsigned_abs x.num }

abbrev pub negated : Ratio → Ratio
negated x = record { num = neg_ℤ x.num; den = x.den }

abbrev pub sum_of : Ratio → Ratio → Ratio
sum_of x y = lowest (x.num *ℤ pos y.den +ℤ y.num *ℤ pos x.den) (x.den * y.den)

abbrev pub product_of : Ratio → Ratio → Ratio
product_of x y = lowest (x.num *ℤ y.num) (x.den * y.den)
