-- Programs in standard form: all columns are at least 0, and each row is an equation.
use Rattle.std.specs.Prelude.{◌≡◌, ℕ, suc, ◌+◌, ◌<◌, ◌^◌, List, [], ◌∷◌, ◌++◌, length}
use Rattle.rationals.specs.Rational.{ℚ, zero_ℚ, one_ℚ, ◌≤ℚ◌}
use Rattle.rationals.specs.Sparse.{Entry}
use Rattle.rationals.specs.Forms.{IsForm, EndsBelow}

-- minimise the cost where each row's form has the value of its right side
pub record Program : Type 0 where
  pub columns : ℕ
  pub rows : List (List Entry)
  pub right : List ℚ
  pub cost : List Entry

-- a form over the columns below n
pub record IsFormBelow (n : ℕ) (f : List Entry) : Type 0 where
  pub form : IsForm f
  pub below : EndsBelow n f

abbrev pub AllFormsBelow : ℕ → List (List Entry) → Type 0
AllFormsBelow n [] = Unit {0}
AllFormsBelow n (f ∷ rows) = IsFormBelow n f × AllFormsBelow n rows

-- no number of the list is below 0
abbrev pub NoneNegative : List ℚ → Type 0
NoneNegative [] = Unit {0}
NoneNegative (b ∷ right) = (zero_ℚ ≤ℚ b) × NoneNegative right

-- what holds of every program in standard form
pub record IsProgram (p : Program) : Type 0 where
  pub limit : p.columns < 2 ^ 63
  pub rows : AllFormsBelow p.columns p.rows
  pub one_each : length p.right ≡ length p.rows
  pub right : NoneNegative p.right
  pub cost : IsFormBelow p.columns p.cost

-- ---- programs whose last columns, one for each row, are the unit columns with cost 0

-- the row ends with 1 in column j, behind entries below n
pub record EndsInUnit (n j : ℕ) (f : List Entry) : Type 0 where
  pub front : List Entry
  pub below : EndsBelow n front
  pub is : f ≡ front ++ record { column = j; value = one_ℚ } ∷ []

-- the first row's unit column is j, the next row's j + 1, and so on
abbrev pub AllEndInUnits : ℕ → ℕ → List (List Entry) → Type 0
AllEndInUnits n j [] = Unit {0}
AllEndInUnits n j (f ∷ rows) = EndsInUnit n j f × AllEndInUnits n (suc j) rows

pub record EndsInUnits (p : Program) : Type 0 where
  -- the columns before them
  pub first : ℕ
  pub columns : p.columns ≡ first + length p.rows
  pub rows : AllEndInUnits first first p.rows
  pub cost : EndsBelow first p.cost
