-- What the values of literals mean.
use Rattle.std.specs.Prelude.{◌≡◌, ℕ, pos, negsuc, ◌*◌, ◌^◌, ◌<◌, Bool, suc, Ok, unsigned_abs}
use Rattle.rationals.specs.Rational.{ℚ, ◌÷◌}
use Rattle.frac128.specs.Numbers.{literal_value, read_number}
use Rattle.frac128.specs.Numbers.Literal.{fraction, decimal}
use Rattle.ratio128.specs.Ratio.{signed}
use Rattle.frac128.specs.Text.{text_of}

pub record LiteralLaws : Type 0 where
  -- the first part over the second
  pub parts : (s : Bool) (n d : ℕ) (v : ℚ) → literal_value s (fraction n d) ≡ Ok v → v ≡ signed s n ÷ d
  -- n times a power of ten
  pub tens : (s : Bool) (n k : ℕ) (v : ℚ) → literal_value s (decimal n (pos k)) ≡ Ok v → v ≡ signed s (n * 10 ^ k) ÷ 1
  -- n over a power of ten
  pub places : (s : Bool) (n k : ℕ) (v : ℚ) → literal_value s (decimal n (negsuc k)) ≡ Ok v → v ≡ signed s n ÷ (10 ^ suc k)
  -- the text of a number is read as that number
  pub read_back : (a : ℚ) → unsigned_abs a.num < 2 ^ 127 → a.den < 2 ^ 127 → read_number (text_of a) ≡ Ok a
