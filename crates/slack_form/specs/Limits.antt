-- Programs whose rows are of three kinds, over columns that are at least 0.
use Rattle.std.specs.Prelude.{ℕ, ◌<◌, ◌^◌, List, [], ◌∷◌, length}
use Rattle.rationals.specs.Rational.{ℚ}
use Rattle.rationals.specs.Sparse.{coefficient}
use Rattle.lp_defs.specs.Program.{IsFormBelow}
use Rattle.slack_form.specs.declared.limits.Limit.{Limit}
use Rattle.slack_form.specs.declared.limits.Limits.{Limits}

-- each row's form is over the columns below n
abbrev pub AllBelow : ℕ → List Limit → Type 0
AllBelow n [] = Unit {0}
AllBelow n (row ∷ rows) = IsFormBelow n row.entries × AllBelow n rows

-- what holds of every such program
pub record IsLimits (limits : Limits) : Type 0 where
  pub few_columns : limits.columns < 2 ^ 62
  pub few_rows : length limits.rows.items < 2 ^ 62
  pub rows : AllBelow limits.columns limits.rows.items
  pub cost : IsFormBelow limits.columns limits.cost

-- the right sides, by row
abbrev pub rights : List Limit → List ℚ
rights [] = []
rights (row ∷ rows) = row.right ∷ rights rows

-- the entries of column j, by row
abbrev pub column_coefficients : ℕ → List Limit → List ℚ
column_coefficients j [] = []
column_coefficients j (row ∷ rows) = coefficient row.entries j ∷ column_coefficients j rows
