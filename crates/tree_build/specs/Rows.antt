-- The rows of a node rise by their numbers.
use Rattle.std.specs.Prelude.{◌≡◌, ℕ, suc, ◌<◌, ◌≤◌, List, [], ◌∷◌, get_or, length}
use Rattle.std.specs.Coded.{×_prop, Unit-prop, le_prop}
use Rattle.rationals.specs.Rational.{zero_ℚ}
use Rattle.tree_build.specs.declared.parts.RowValues.{RowValues}

-- from n on
abbrev pub RowsFrom : ℕ → List RowValues → Type 0
RowsFrom n [] = Unit {0}
RowsFrom n (r ∷ rows) = (n ≤ r.row) × RowsFrom (suc r.row) rows

pub RowsFrom-prop : (n : ℕ) (rows : List RowValues) → IsProp (RowsFrom n rows)
RowsFrom-prop n [] = Unit-prop
RowsFrom-prop n (r ∷ rows) = ×_prop le_prop (RowsFrom-prop (suc r.row) rows)

abbrev pub RowsBelow : ℕ → List RowValues → Type 0
RowsBelow n [] = Unit {0}
RowsBelow n (r ∷ rows) = (r.row < n) × RowsBelow n rows

-- what stands for a row past the last one
abbrev pub row_past : ℕ → RowValues
row_past n = record { row = suc n; entries = []; rhs = zero_ℚ }

-- row n stands in place i
abbrev pub IsRowAt : List RowValues → ℕ → ℕ → Type 0
IsRowAt rows i n = (i < length rows) × ((get_or rows i (row_past n)).row ≡ n)
