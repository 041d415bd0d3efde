-- A sum that runs over a list and is rounded to a side.
use Rattle.std.specs.Prelude.{ℕ, List, Option}
use Rattle.rationals.specs.Rational.{ℚ, ◌+ℚ◌}
use Rattle.rationals.specs.Sums.{sum_ℚ}
use Rattle.scen_defs.specs.Lists.{Each}
use Rattle.scen_defs.specs.Ends.{IsGoodAt, worth}
use Rattle.scen_defs.specs.Program.{View}
use Rattle.scen_defs.specs.declared.program.NodeRow.{NodeRow}
use Rattle.rounded_sums.specs.declared.side.Side.{Side}
use Rattle.rounded_sums.specs.Sides.{Beside}

-- of a list of which the rest is left: where the rest holds all holds, and s with the rest stands on the side of the start with all
pub record Runs {A : Type 0} (side : Side) (G : A → Type 0) (g : A → ℚ) (start : ℚ) (all : List A) (s : ℚ) (rest : List A) : Type 0 where
  pub holds : Each G rest → Each G all
  pub beside : Beside side (start +ℚ sum_ℚ g all) (s +ℚ sum_ℚ g rest)

-- all of a list holds, and this number stands on the side of the start with all
pub record Ran {A : Type 0} (side : Side) (G : A → Type 0) (g : A → ℚ) (start : ℚ) (all : List A) (s : ℚ) : Type 0 where
  pub holds : Each G all
  pub beside : Beside side (start +ℚ sum_ℚ g all) s

-- the multiplier uses a finite end, and this number stands on the side of the sum with its worth
pub record IsWorth (side : Side) (low high : Option ℚ) (y s t : ℚ) : Type 0 where
  pub good : IsGoodAt low high y
  pub beside : Beside side (s +ℚ worth low high y) t

-- the rows of a node, and what they are worth
abbrev pub row_good : (ℕ → ℚ) → NodeRow → Type 0
row_good y r = IsGoodAt r.low r.high (y r.row)

abbrev pub row_worth : (ℕ → ℚ) → NodeRow → ℚ
row_worth y r = worth r.low r.high (y r.row)

abbrev pub rows_good : View → (ℕ → ℕ → ℚ) → ℕ → Type 0
rows_good v y n = Each (row_good (y n)) (v.rows n)

abbrev pub rows_worth : View → (ℕ → ℕ → ℚ) → ℕ → ℚ
rows_worth v y n = sum_ℚ (row_worth (y n)) (v.rows n)

-- the columns of a node, whose reduced costs are these, and what they are worth
abbrev pub column_good : View → (ℕ → ℚ) → ℕ → Type 0
column_good v d j = IsGoodAt (v.lower j) (v.upper j) (d j)

abbrev pub column_worth : View → (ℕ → ℚ) → ℕ → ℚ
column_worth v d j = worth (v.lower j) (v.upper j) (d j)

abbrev pub columns_good : View → (ℕ → ℕ → ℚ) → ℕ → Type 0
columns_good v d n = Each (column_good v (d n)) (v.columns (v.stage n))

abbrev pub columns_worth : View → (ℕ → ℕ → ℚ) → ℕ → ℚ
columns_worth v d n = sum_ℚ (column_worth v (d n)) (v.columns (v.stage n))
