-- The core of what is filed is the one that the lines mean.
use Rattle.std.proofs.Common.{◌≡◌, ◌∙◌, ap, map, get_or, ℕ, List, [], ◌∷◌, Option, refl, sym, subst, arith}
use Rattle.std.specs.Prelude.{All}
use Rattle.std.specs.Option.{unwrap_or}
use Rattle.rationals.specs.Rational.{ℚ, zero_ℚ}
use Rattle.smps_words.specs.Line.{TextLine}
use Rattle.smps_words.proofs.NumberedNames.{same_name_refl}
use Rattle.core_defs.specs.declared.parts.RowDef.{RowDef}
use Rattle.core_defs.specs.declared.program.Core.{Core}
use Rattle.core_defs.specs.Core.{row_names, column_names}
use Rattle.core_defs.specs.Finished.{IsCoreOf}
use Rattle.core_defs.specs.Means.{IsStatedColumn, IsStatedRow, Means}
use Rattle.core_defs.specs.Stated.{free_rows, constraints, columns, entry_pairs, value_on}
use Rattle.core_defs.proofs.NameLemmas.{At, Distinct, own_at}
use Rattle.core_defs.proofs.TermLemmas.{terms_rise, find_at, coefficient_is}
use Rattle.core_defs.proofs.Gathered.{Data, data_on, values_of, filed_of, Sound}
use Rattle.core_defs.proofs.CoreLemmas.{row_names_are, row_kinds_are, rows_all, column_in, columns_are, column_names_are, columns_all, form_in, within_in}

-- the objective is the first N row
first_at : (free rest : List (List ℕ)) (objective : List ℕ) → free ≡ objective ∷ rest → At free 0 objective
first_at free rest objective is = let first : At (objective ∷ rest) 0 objective = same_name_refl objective in subst (λ (names : List (List ℕ)). At names 0 objective) (sym is) first

stated_column : (lines : List TextLine) (objective : List ℕ) (rest : List (List ℕ)) (name : List ℕ) → free_rows lines ≡ objective ∷ rest → Distinct (constraints lines) → IsStatedColumn lines objective (constraints lines) (column_in (data_on lines) name)
stated_column lines objective rest name free distinct = record {
  cost = ap (λ (value : Option ℚ). unwrap_or value zero_ℚ) (find_at 0 0 (free_rows lines) 0 objective (value_on (entry_pairs lines) name) (first_at (free_rows lines) rest objective free) (omega arith));
  form = form_in (data_on lines) name;
  within = within_in (data_on lines) name;
  entry = λ row below.
      coefficient_is 0 (values_of (entry_pairs lines) (constraints lines) name) row (terms_rise 0 0 (constraints lines) (value_on (entry_pairs lines) name) refl)
      ∙ ap (λ (value : Option ℚ). unwrap_or value zero_ℚ) (find_at 0 row (constraints lines) row (get_or (constraints lines) row []) (value_on (entry_pairs lines) name) (own_at (constraints lines) row distinct below) (omega arith));
  lower = refl;
  upper = refl;
}

pub means : (lines : List TextLine) (core : Core) → Sound (data_on lines) → IsCoreOf (filed_of (data_on lines)) core → Means lines core
means lines core sound is =
    let d : Data = data_on lines in
    let rows : row_names core.rows.items ≡ constraints lines = ap row_names is.rows ∙ row_names_are (filed_of d) 0 (constraints lines) in
    record {
      free = is.free;
      rows = rows;
      kinds = ap (map (λ (row : RowDef). row.kind)) is.rows ∙ row_kinds_are d;
      columns = ap column_names is.columns ∙ column_names_are d;
      column = subst (λ names. All (IsStatedColumn lines core.objective names) core.columns.items) (sym rows)
          (subst (All (IsStatedColumn lines core.objective (constraints lines))) (sym (is.columns ∙ columns_are d))
          (columns_all d (IsStatedColumn lines core.objective (constraints lines)) (columns lines) (λ name. stated_column lines core.objective core.skipped.items name is.free sound.rows.rows_differ)));
      row = subst (All (IsStatedRow lines)) (sym is.rows) (rows_all d (IsStatedRow lines) [] (constraints lines) 0 refl refl (λ name kind. record { rhs = refl; range = refl }));
      rhs_set = is.rhs_set;
    }
