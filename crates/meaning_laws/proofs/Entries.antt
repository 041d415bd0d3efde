-- Cores of the same parts name the same entries, with the same values.
use Rattle.std.proofs.Common.{◌≡◌, ℕ, List, Option, Some, None, get_or, ◌||◌, unwrap_or}
use Rattle.std.proofs.Common.{if◌then◌else◌}
use Rattle.std.specs.Prelude.{codes}
use Rattle.rationals.specs.Sparse.{coefficient}
use Rattle.smps_words.specs.Names.{same_name, place_of}
use Rattle.smps_words.specs.declared.entry.Entry.{Entry}
use Rattle.smps_words.specs.declared.entry.Entry.TheVariants.{Cost, Matrix, Rhs}
use Rattle.smps_words.specs.Entries.{matrix_at, rhs_at}
use Rattle.core_defs.specs.declared.program.Core.{Core}
use Rattle.core_defs.specs.Core.{row_names, column_names}
use Rattle.core_defs.specs.Laws.{AreSame}
use Rattle.stoch_defs.specs.Entries.{entry_at, entry_of, no_column, no_row, core_value}
use Rattle.stoch_defs.specs.Random.{Sets}
use Rattle.stoch_defs.specs.Stated.{value_set, value_behind}

module _ (c d : Core) (same : AreSame c d) where
  entry_at_same : (column row : List ℕ) (number : Option ℕ) → entry_at c column row number ≡ entry_at d column row number
  entry_at_same column row (Some number) = λ i.
      if same_name row (same.objective i) then Some (Cost number) else matrix_at number (place_of (row_names (same.rows i)) row)
  entry_at_same column row None = λ i.
      if same_name column (same.rhs_set i) || same_name column (codes "RHS") then rhs_at (place_of (row_names (same.rows i)) row) else None

  pub entry_same : (column row : List ℕ) → entry_of c column row ≡ entry_of d column row
  entry_same column row = λ i. entry_at_same column row (place_of (column_names (same.columns i)) column) i

  pub value_same : (entry : Entry) → core_value c entry ≡ core_value d entry
  value_same (Cost column) = λ i. (get_or (same.columns i) column no_column).cost
  value_same (Matrix row column) = λ i. coefficient (get_or (same.columns i) column no_column).entries row
  value_same (Rhs row) = λ i. (get_or (same.rows i) row no_row).rhs

  pub value_behind_same : (path : Sets) (entry : Entry) → value_behind c path entry ≡ value_behind d path entry
  value_behind_same path entry = λ i. unwrap_or (value_set path entry) (value_same entry i)
