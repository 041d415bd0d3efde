-- What the ends of a path say.
use Rattle.std.specs.Prelude.{◌≡◌, ℕ, ◌<◌, ◌≤◌, eqb, List, Option, Some, None, length}
use Rattle.rationals.specs.Rational.{ℚ, zero_ℚ, one_ℚ, ◌/ℚ◌, ◌≤ℚ◌, ◌<ℚ◌}
use Rattle.rationals.specs.Sums.{dot}
use Rattle.rationals.specs.Sparse.{Entry, value_if, product}
use Rattle.lp_defs.specs.Path.{Candidate}
use Rattle.lp_defs.specs.Lines.{value_at}
use Rattle.lp_defs.specs.Path.{Row, Tableau, Ending, Done, Open, TooLong, Stopped, entering, row_at}
use Rattle.lp_defs.specs.Linear.{AllLines, AllRows, values, rights}

-- the row of a candidate has the least quotient
pub record IsChosen (j : ℕ) (rows : List Row) (c : Candidate) : Type 0 where
  pub within : c.index < length rows
  pub above : zero_ℚ <ℚ value_at (row_at rows c.index).line.entries j
  pub ratio : c.ratio ≡ (row_at rows c.index).line.right /ℚ value_at (row_at rows c.index).line.entries j
  pub least : AllLines (λ line. zero_ℚ <ℚ value_at line.entries j → c.ratio ≤ℚ line.right /ℚ value_at line.entries j) rows
  pub basic : c.basic ≡ (row_at rows c.index).basic
  pub first : AllRows (λ r. zero_ℚ <ℚ value_at r.line.entries j
      → r.line.right /ℚ value_at r.line.entries j ≤ℚ c.ratio → c.basic ≤ r.basic) rows

-- no row bounds column j
abbrev pub NoneAbove : ℕ → List Row → Type 0
NoneAbove j rows = AllLines (λ line. value_at line.entries j ≤ℚ zero_ℚ) rows

abbrev pub IsChoice : ℕ → List Row → Option Candidate → Type 0
IsChoice j rows None = NoneAbove j rows
IsChoice j rows (Some c) = IsChosen j rows c

-- what holds of the last tableau where the path ends by itself
abbrev pub EndsWell : (Tableau → Type 0) → ℕ → Ending → Type 0
EndsWell P n (Done k t) = P t × (entering n t.objective ≡ None)
EndsWell P n (Open j t) = P t × (entering n t.objective ≡ Some j) × NoneAbove j t.rows
EndsWell P n TooLong = Unit {0}
EndsWell P n (Stopped k p) = Unit {0}

-- 1 in column j
abbrev pub unit : ℕ → ℕ → ℚ
unit j c = value_if (eqb c j) one_ℚ

-- multipliers whose column sums are at most the cost in each column below n, and whose value is `value`
pub record IsDualOf (n : ℕ) (cost : List Entry) (rows : List Row) (y : List ℚ) (value : ℚ) : Type 0 where
  pub good : (j : ℕ) → j < n → dot y (values rows (unit j)) ≤ℚ product cost (unit j)
  pub worth : value ≡ dot y (rights rows)

-- a point that is no more than 0 nowhere, and 0 from column n on
abbrev pub IsPoint : ℕ → (ℕ → ℚ) → Type 0
IsPoint n x = (j : ℕ) → (zero_ℚ ≤ℚ x j) × ((j < n → ⊥) → x j ≡ zero_ℚ)
