-- Sets that stand in falling order of their columns.
use Rattle.std.specs.Prelude.{◌≢◌, ℕ, ◌+◌, ◌-◌, ◌*◌, ◌<◌, [], ◌∷◌}
use Rattle.rationals.specs.Rational.{ℚ, zero_ℚ}
use Rattle.scen_defs.specs.Lists.{Each}
use Rattle.smps_words.specs.declared.entry.Entry.{Entry}
use Rattle.smps_words.specs.declared.entry.Entry.TheVariants.{Cost, Matrix, Rhs}
use Rattle.stoch_defs.specs.Random.{Sets}

-- it rises where columns fall, and in a column with the rows, behind the cost
abbrev pub place_key : Entry → ℕ
place_key (Cost j) = (4294967295 - j) * 8589934592
place_key (Matrix i j) = (4294967295 - j) * 8589934592 + (i + 1)
place_key (Rhs i) = 0

-- a value other than 0 in a column
abbrev pub IsInColumn : Entry → ℚ → Type 0
IsInColumn (Cost j) v = v ≢ zero_ℚ
IsInColumn (Matrix i j) v = v ≢ zero_ℚ
IsInColumn (Rhs i) v = ⊥

-- one set behind another
pub record AreFalling (one other : Entry × ℚ) : Type 0 where
  pub first : IsInColumn one.0 one.1
  pub second : IsInColumn other.0 other.1
  pub keys : place_key one.0 < place_key other.0

-- each set, and all those behind it
abbrev pub AllFall : Sets → Type 0
AllFall [] = Unit {0}
AllFall (pair ∷ sets) = Each (AreFalling pair) sets × AllFall sets
