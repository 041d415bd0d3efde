-- What a decimal of 12 significant digits says of a number.
use Rattle.std.specs.Prelude.{◌≤◌, ◌<◌, ◌+◌, ◌-◌, ◌*◌, ◌^◌, ℕ}

-- The fraction num / den is at least q units of 10 ^ up / 10 ^ down, and less than one more.
pub record IsFloor (num den q up down : ℕ) : Type 0 where
  pub low : q * (10 ^ up * den) ≤ num * 10 ^ down
  pub high : num * 10 ^ down < (q + 1) * (10 ^ up * den)

-- The fraction num / den, above 0, is rounded to these digits: their last place stands for 10 ^ up / 10 ^ down.
pub record IsRounded (num den digits up down : ℕ) : Type 0 where
  -- there are twelve of them
  pub least : 100000000000 ≤ digits
  pub most : digits < 1000000000000
  -- the fraction lies within half a unit of the last place; where it lies in the middle of two decimals, this is the larger one
  pub low : (2 * digits - 1) * (10 ^ up * den) ≤ 2 * (num * 10 ^ down)
  pub high : 2 * (num * 10 ^ down) < (2 * digits + 1) * (10 ^ up * den)
  -- a smaller unit would need a thirteenth digit, or come to the same
  pub decade : 1999999999999 * (10 ^ up * den) ≤ 20 * (num * 10 ^ down)

-- how far two numbers are from one another
abbrev pub apart : ℕ → ℕ → ℕ
apart a b = (a - b) + (b - a)

-- Between the fraction num / den and `other` times 10 ^ above / 10 ^ below is no less than between it and digits times
-- 10 ^ up / 10 ^ down: both distances times den and the powers of ten below.
abbrev pub IsNoNearer : (num den digits up down other above below : ℕ) → Type 0
IsNoNearer num den digits up down other above below =
    apart (num * 10 ^ down) (digits * (10 ^ up * den)) * 10 ^ below ≤ apart (num * 10 ^ below) (other * (10 ^ above * den)) * 10 ^ down

-- No decimal of at most 12 digits is nearer to a fraction than the one to which it is rounded.
abbrev pub RoundedIsNearest : Type 0
RoundedIsNearest =
    (num den digits up down other above below : ℕ) → IsRounded num den digits up down → other < 1000000000000
    → IsNoNearer num den digits up down other above below
