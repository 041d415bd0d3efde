-- What the cores that a text means have as their names and their numbers.
use Rattle.std.proofs.Common.{◌≡◌, ◌∙◌, ◌<◌, ap, ap₂, get_or, ℕ, suc, List, [], ◌∷◌, Option, Some, None, length, refl, sym, arith, ◌||◌, if◌then◌else◌}
use Rattle.std.specs.Prelude.{codes}
use Rattle.std.proofs.lemmas.List.{get_or-map, length-map}
use Rattle.std.proofs.lemmas.List.Elements.{All-get_or}
use Rattle.smps_words.specs.Line.{TextLine}
use Rattle.smps_words.specs.Names.{same_name, place_of}
use Rattle.smps_words.specs.declared.entry.Entry.{Entry}
use Rattle.smps_words.specs.declared.entry.Entry.TheVariants.{Cost, Matrix, Rhs}
use Rattle.smps_words.specs.Entries.{matrix_at, rhs_at}
use Rattle.core_defs.specs.declared.parts.ColumnDef.{ColumnDef}
use Rattle.core_defs.specs.declared.parts.RowDef.{RowDef}
use Rattle.core_defs.specs.declared.program.Core.{Core}
use Rattle.core_defs.specs.Core.{row_names, column_names}
use Rattle.core_defs.specs.Means.{IsStatedColumn, IsStatedRow, Means, TextMeans}
use Rattle.core_defs.specs.Stated.{entry_in, rhs_in}
use Rattle.time_defs.specs.Stated.{start_row, row_or_objective}
use Rattle.stoch_defs.specs.Entries.{entry_at, entry_of, no_column, no_row, core_value}
use Rattle.worked_values.specs.TimeValues.{mix}
use Rattle.worked_values.specs.StochValues.{column_rhs}

-- the names of a core
pub record Named (core : Core) (objective set : List ℕ) (columns rows : List (List ℕ)) : Type 0 where
  pub objective_is : core.objective ≡ objective
  pub set_is : core.rhs_set ≡ set
  pub columns_are : column_names core.columns.items ≡ columns
  pub rows_are : row_names core.rows.items ≡ rows

-- ---- entries

abbrev pub entry_placed : List ℕ → List ℕ → List (List ℕ) → List ℕ → List ℕ → Option ℕ → Option Entry
entry_placed objective set rows column row (Some number) = if same_name row objective then Some (Cost number) else matrix_at number (place_of rows row)
entry_placed objective set rows column row None = if same_name column set || same_name column (codes "RHS") then rhs_at (place_of rows row) else None

placed : (core : Core) (objective set : List ℕ) (columns rows : List (List ℕ)) → Named core objective set columns rows → (column row : List ℕ) (place : Option ℕ) → entry_at core column row place ≡ entry_placed objective set rows column row place
placed core objective set columns rows named column row (Some number) =
    ap₂ (λ (first : List ℕ) (names : List (List ℕ)). if same_name row first then Some (Cost number) else matrix_at number (place_of names row)) named.objective_is named.rows_are
placed core objective set columns rows named column row None =
    ap₂ (λ (name : List ℕ) (names : List (List ℕ)). if same_name column name || same_name column (codes "RHS") then rhs_at (place_of names row) else None) named.set_is named.rows_are

pub entry_named : (core : Core) (objective set : List ℕ) (columns rows : List (List ℕ)) → Named core objective set columns rows → (column row : List ℕ) → entry_of core column row ≡ entry_placed objective set rows column row (place_of columns column)
entry_named core objective set columns rows named column row =
    ap (λ (names : List (List ℕ)). entry_at core column row (place_of names column)) named.columns_are
    ∙ placed core objective set columns rows named column row (place_of columns column)

-- ---- where a period starts

abbrev pub start_placed : List ℕ → List ℕ → Option ℕ → Option ℕ
start_placed objective name (Some row) = Some (suc row)
start_placed objective name None = if same_name name objective then Some 0 else None

pub start_named : (core : Core) (objective set : List ℕ) (columns rows : List (List ℕ)) → Named core objective set columns rows → (name : List ℕ) → start_row core name ≡ start_placed objective name (place_of rows name)
start_named core objective set columns rows named name = ap (λ (names : List (List ℕ)). row_or_objective core name (place_of names name)) named.rows_are ∙ go (place_of rows name)
  where
    go : (place : Option ℕ) → row_or_objective core name place ≡ start_placed objective name place
    go (Some row) = refl
    go None = ap (λ (first : List ℕ). if same_name name first then Some 0 else None) named.objective_is

-- ---- values

module _ (lines : List TextLine) (core : Core) (objective set : List ℕ) (columns rows : List (List ℕ)) (named : Named core objective set columns rows) (means : Means lines core) where
  column_below : (j : ℕ) → j < length columns → j < length core.columns.items
  column_below j below = let same : length columns ≡ length core.columns.items = ap length (sym named.columns_are) ∙ length-map core.columns.items (λ (column : ColumnDef). column.name) in omega (arith, same, below)

  row_below : (i : ℕ) → i < length rows → i < length core.rows.items
  row_below i below = let same : length rows ≡ length core.rows.items = ap length (sym named.rows_are) ∙ length-map core.rows.items (λ (row : RowDef). row.name) in omega (arith, same, below)

  column_stated : (j : ℕ) → j < length columns → IsStatedColumn lines core.objective (row_names core.rows.items) (get_or core.columns.items j no_column)
  column_stated j below = All-get_or (IsStatedColumn lines core.objective (row_names core.rows.items)) core.columns.items j no_column (column_below j below) means.column

  column_name_is : (j : ℕ) → j < length columns → (get_or core.columns.items j no_column).name ≡ get_or columns j []
  column_name_is j below =
      sym (get_or-map (λ (column : ColumnDef). column.name) core.columns.items j no_column [] (column_below j below))
      ∙ ap (λ (names : List (List ℕ)). get_or names j []) named.columns_are

  pub cost_named : (j : ℕ) → j < length columns → core_value core (Cost j) ≡ entry_in lines (get_or columns j []) objective
  cost_named j below = (column_stated j below).cost ∙ ap₂ (entry_in lines) (column_name_is j below) named.objective_is

  pub value_named : (i j : ℕ) → i < length rows → j < length columns → core_value core (Matrix i j) ≡ entry_in lines (get_or columns j []) (get_or rows i [])
  value_named i j row_there below =
      let same : length rows ≡ length (row_names core.rows.items) = ap length (sym named.rows_are) in
      (column_stated j below).entry i (omega (arith, same, row_there))
      ∙ ap₂ (entry_in lines) (column_name_is j below) (ap (λ (names : List (List ℕ)). get_or names i []) named.rows_are)

  pub rhs_named : (i : ℕ) → i < length rows → core_value core (Rhs i) ≡ rhs_in lines (get_or rows i [])
  rhs_named i below =
      let stated : IsStatedRow lines (get_or core.rows.items i no_row) = All-get_or (IsStatedRow lines) core.rows.items i no_row (row_below i below) means.row in
      stated.rhs
      ∙ ap (rhs_in lines) (sym (get_or-map (λ (row : RowDef). row.name) core.rows.items i no_row [] (row_below i below)) ∙ ap (λ (names : List (List ℕ)). get_or names i []) named.rows_are)

-- ---- the core file of the tables, and that with a column RHS

same_first : (one other : List ℕ) (ones others : List (List ℕ)) → one ∷ ones ≡ other ∷ others → one ≡ other
same_first one other ones others is = cc

pub mix_named : (core : Core) → TextMeans mix core → Named core (codes "COST") (codes "NOW") (codes "A" ∷ codes "B" ∷ []) (codes "LIM1" ∷ codes "NEED" ∷ codes "SUM" ∷ [])
mix_named core means = record {
  objective_is = sym (same_first (codes "COST") core.objective (codes "WEIGHT" ∷ []) core.skipped.items means.free);
  set_is = means.rhs_set;
  columns_are = means.columns;
  rows_are = means.rows;
}

pub column_rhs_named : (core : Core) → TextMeans column_rhs core → Named core (codes "COST") (codes "RHS") (codes "RHS" ∷ []) (codes "LIM1" ∷ [])
column_rhs_named core means = record {
  objective_is = sym (same_first (codes "COST") core.objective [] core.skipped.items means.free);
  set_is = means.rhs_set;
  columns_are = means.columns;
  rows_are = means.rows;
}
