-- The rows and columns of the core of what is filed.
use Rattle.std.proofs.Common.{◌≡◌, ◌∙◌, ◌++◌, ◌+◌, ap, map, flat_map, length, length-append, get_or, ℕ, false, List, [], ◌∷◌, Option, Some, None, refl, sym, subst, append_assoc, arith}
use Rattle.std.specs.Prelude.{All}
use Rattle.std.specs.Option.{unwrap_or}
use Rattle.std.specs.Ordering.{is_gt, MatchOrdering}
use Rattle.std.specs.declared.cmp.Ordering.{Ordering}
use Rattle.std.specs.declared.cmp.Ordering.TheVariants.{Less, Equal, Greater}
use Rattle.std.proofs.lemmas.List.{length-map}
use Rattle.std.proofs.lemmas.List.Elements.{All-cons, All-nil}
use Rattle.rationals.specs.Rational.{ℚ, zero_ℚ, ◌≤ℚ◌, ◌<ℚ◌, lt_le_ℚ, le_of_same_ℚ}
use Rattle.rationals.specs.Order.{compare}
use Rattle.rationals.specs.Forms.{IsForm, EndsBelow}
use Rattle.rationals.proofs.OrderMeaning.{compare_means}
use Rattle.smps_words.specs.declared.row_kind.RowKind.{RowKind}
use Rattle.smps_words.specs.declared.row_kind.RowKind.TheVariants as kinds
use Rattle.core_defs.specs.declared.kinds.RowUse.{RowUse}
use Rattle.core_defs.specs.declared.kinds.RowUse.TheVariants as uses
use Rattle.core_defs.specs.declared.parts.ColumnDef.{ColumnDef}
use Rattle.core_defs.specs.declared.parts.ColumnPart.{ColumnPart}
use Rattle.core_defs.specs.declared.parts.RowDef.{RowDef}
use Rattle.core_defs.specs.Bounds.{first_bounds, bounds_by, crossed}
use Rattle.smps_words.specs.Field.{IsField}
use Rattle.rationals.specs.Intervals.{InOrder}
use Rattle.core_defs.specs.Core.{row_names, column_names, IsCore}
use Rattle.core_defs.specs.Filed.{Filed, closed}
use Rattle.core_defs.specs.Finished.{row_def, row_defs, column_def, column_defs}
use Rattle.core_defs.specs.Stated.{use_of, constraint_with, kind_with, constraint_name, constraint_kind, value_on}
use Rattle.core_defs.proofs.NameLemmas.{Distinct, numbered, all_distinct}
use Rattle.core_defs.proofs.TermLemmas.{terms_rise, terms_within, nonzero_form, nonzero_within}
use Rattle.core_defs.proofs.Gathered.{Data, free_in, rows_in, names_in, values_of, part_in, filed_of, Sound}
use Rattle.core_defs.proofs.ColumnSteps.{closed_filed}

-- ---- what stands behind a front of a list

seam : {A : Type 0} (front rest : List A) (x d : A) (place : ℕ) → place ≡ length front → get_or (front ++ x ∷ rest) place d ≡ x
seam [] rest x d place at = ap (λ (p : ℕ). get_or (x ∷ rest) p d) at
seam (y ∷ front) rest x d place at = ap (λ (p : ℕ). get_or (y ∷ front ++ x ∷ rest) p d) at ∙ seam front rest x d (length front) refl

mapped_seam : {A B : Type 0} (f : A → B) (front rest : List A) (x : A) (d : B) (place : ℕ) → place ≡ length front → get_or (map f (front ++ x ∷ rest)) place d ≡ f x
mapped_seam f [] rest x d place at = ap (λ (p : ℕ). get_or (f x ∷ map f rest) p d) at
mapped_seam f (y ∷ front) rest x d place at = ap (λ (p : ℕ). get_or (f y ∷ map f (front ++ x ∷ rest)) p d) at ∙ mapped_seam f front rest x d (length front) refl

-- ---- rows

pub row_names_are : (f : Filed) (place : ℕ) (names : List (List ℕ)) → row_names (row_defs f place names) ≡ names
row_names_are f place [] = refl
row_names_are f place (name ∷ names) = ap (λ rest. name ∷ rest) (row_names_are f (place + 1) names)

kinds_from : (f : Filed) (front rest : List RowKind) (place : ℕ) (names : List (List ℕ)) → length rest ≡ length names → f.kinds ≡ front ++ rest → place ≡ length front → map (λ (row : RowDef). row.kind) (row_defs f place names) ≡ rest
kinds_from f front [] place [] same is at = refl
kinds_from f front [] place (name ∷ names) same is at = absurd (omega arith)
kinds_from f front (kind ∷ rest) place [] same is at = absurd (omega arith)
kinds_from f front (kind ∷ rest) place (name ∷ names) same is at =
    let here : get_or f.kinds place kinds.Less ≡ kind = ap (λ (all : List RowKind). get_or all place kinds.Less) is ∙ seam front rest kind kinds.Less place at in
    ap (λ (first : RowKind). first ∷ map (λ (row : RowDef). row.kind) (row_defs f (place + 1) names)) here
    ∙ ap (λ rest. kind ∷ rest) (kinds_from f (front ++ kind ∷ []) rest (place + 1) names (omega arith) (is ∙ sym (append_assoc front (kind ∷ []) rest)) (omega (arith, length-append front (kind ∷ []))))

one_kind : (u : Option RowUse) (name : List ℕ) → length (kind_with u) ≡ length (constraint_with u name)
one_kind None name = refl
one_kind (Some uses.Free) name = refl
one_kind (Some (uses.Constraint kind)) name = refl

line_kind : (line : List (List ℕ)) → length (constraint_kind line) ≡ length (constraint_name line)
line_kind [] = refl
line_kind (_ ∷ []) = refl
line_kind (word ∷ name ∷ _) = one_kind (use_of word) name

-- each constraint has a kind
as_many : (lines : List (List (List ℕ))) → length (flat_map constraint_kind lines) ≡ length (flat_map constraint_name lines)
as_many [] = refl
as_many (line ∷ lines) =
    omega (arith, length-append (constraint_kind line) (flat_map constraint_kind lines), length-append (constraint_name line) (flat_map constraint_name lines), line_kind line, as_many lines)

pub row_kinds_are : (d : Data) → map (λ (row : RowDef). row.kind) (row_defs (filed_of d) 0 (rows_in d)) ≡ flat_map constraint_kind d.rows
row_kinds_are d = kinds_from (filed_of d) [] (flat_map constraint_kind d.rows) 0 (rows_in d) (as_many d.rows) refl refl

-- what is stated of each constraint
pub rows_all : (d : Data) (P : RowDef → Type 0) (front rest : List (List ℕ)) (place : ℕ) → rows_in d ≡ front ++ rest → place ≡ length front →
    ((name : List ℕ) (kind : RowKind) → P (record { name = name; kind = kind; rhs = unwrap_or (value_on d.rhs_pairs [] name) zero_ℚ; range = value_on d.range_pairs [] name })) → All P (row_defs (filed_of d) place rest)
rows_all d P front [] place is at each = All-nil P
rows_all d P front (name ∷ rest) place is at each =
    let kind : RowKind = get_or (filed_of d).kinds place kinds.Less in
    let rhs : get_or (map (value_on d.rhs_pairs []) (rows_in d)) place None ≡ value_on d.rhs_pairs [] name = ap (λ names. get_or (map (value_on d.rhs_pairs []) names) place None) is ∙ mapped_seam (value_on d.rhs_pairs []) front rest name None place at in
    let range : get_or (map (value_on d.range_pairs []) (rows_in d)) place None ≡ value_on d.range_pairs [] name = ap (λ names. get_or (map (value_on d.range_pairs []) names) place None) is ∙ mapped_seam (value_on d.range_pairs []) front rest name None place at in
    let row : row_def (filed_of d) place name ≡ record { name = name; kind = kind; rhs = unwrap_or (value_on d.rhs_pairs [] name) zero_ℚ; range = value_on d.range_pairs [] name } =
    ap (λ (value : Option ℚ). record { name = name; kind = kind; rhs = unwrap_or value zero_ℚ; range = get_or (map (value_on d.range_pairs []) (rows_in d)) place None }) rhs
    ∙ ap (λ (value : Option ℚ). record { name = name; kind = kind; rhs = unwrap_or (value_on d.rhs_pairs [] name) zero_ℚ; range = value }) range in
    All-cons P (row_def (filed_of d) place name) (row_defs (filed_of d) (place + 1) rest) (subst P (sym row) (each name kind))
    (rows_all d P (front ++ name ∷ []) rest (place + 1) (is ∙ sym (append_assoc front (name ∷ []) rest)) (omega (arith, length-append front (name ∷ []))) each)

-- ---- columns

-- a column with what is stated of it
abbrev pub column_in : Data → List ℕ → ColumnDef
column_in d name = record {
  name = name;
  cost = (part_in d.pairs (free_in d) (rows_in d) name).cost;
  entries = (part_in d.pairs (free_in d) (rows_in d) name).entries;
  lower = (bounds_by d.bounds name).lower;
  upper = (bounds_by d.bounds name).upper;
}

columns_from : (d : Data) (front rest : List (List ℕ)) (place : ℕ) → names_in d ≡ front ++ rest → place ≡ length front → column_defs (filed_of d) place (map (part_in d.pairs (free_in d) (rows_in d)) rest) ≡ map (column_in d) rest
columns_from d front [] place is at = refl
columns_from d front (name ∷ rest) place is at =
    let part : ColumnPart = part_in d.pairs (free_in d) (rows_in d) name in
    let known : get_or (names_in d) place [] ≡ name = ap (λ (names : List (List ℕ)). get_or names place []) is ∙ seam front rest name [] place at in
    let bounds : get_or (map (bounds_by d.bounds) (names_in d)) place first_bounds ≡ bounds_by d.bounds name = ap (λ names. get_or (map (bounds_by d.bounds) names) place first_bounds) is ∙ mapped_seam (bounds_by d.bounds) front rest name first_bounds place at in
    let column : column_def (filed_of d) place part ≡ column_in d name =
    ap (λ (name : List ℕ). record (column_def (filed_of d) place part) { name = name }) known ∙ ap (λ all. record (column_in d name) { lower = all.lower; upper = all.upper }) bounds in
    ap (λ (first : ColumnDef). first ∷ column_defs (filed_of d) (place + 1) (map (part_in d.pairs (free_in d) (rows_in d)) rest)) column
    ∙ ap (λ later. column_in d name ∷ later) (columns_from d (front ++ name ∷ []) rest (place + 1) (is ∙ sym (append_assoc front (name ∷ []) rest)) (omega (arith, length-append front (name ∷ []))))

pub columns_are : (d : Data) → column_defs (filed_of d) 0 (closed (filed_of d)).parts ≡ map (column_in d) (names_in d)
columns_are d = ap (λ (f : Filed). column_defs (filed_of d) 0 f.parts) (closed_filed d) ∙ columns_from d [] (names_in d) 0 refl refl

named_in : (d : Data) (names : List (List ℕ)) → column_names (map (column_in d) names) ≡ names
named_in d [] = refl
named_in d (name ∷ names) = ap (λ rest. name ∷ rest) (named_in d names)

pub column_names_are : (d : Data) → column_names (column_defs (filed_of d) 0 (closed (filed_of d)).parts) ≡ names_in d
column_names_are d = ap column_names (columns_are d) ∙ named_in d (names_in d)

pub columns_all : (d : Data) (P : ColumnDef → Type 0) (names : List (List ℕ)) → ((name : List ℕ) → P (column_in d name)) → All P (map (column_in d) names)
columns_all d P [] each = All-nil P
columns_all d P (name ∷ names) each = All-cons P (column_in d name) (map (column_in d) names) (each name) (columns_all d P names each)

-- ---- what holds of the core

pub form_in : (d : Data) (name : List ℕ) → IsForm (column_in d name).entries
form_in d name = nonzero_form (values_of d.pairs (rows_in d) name) (terms_rise 0 0 (rows_in d) (value_on d.pairs name) refl)

pub within_in : (d : Data) (name : List ℕ) → EndsBelow (length (rows_in d)) (column_in d name).entries
within_in d name = nonzero_within (length (rows_in d)) (values_of d.pairs (rows_in d) name) (terms_within (length (rows_in d)) 0 (rows_in d) (value_on d.pairs name) (omega arith))

not_above : (a b : ℚ) (order : Ordering) → MatchOrdering order (a <ℚ b) (a ≡ b) (b <ℚ a) → is_gt order ≡ false → a ≤ℚ b
not_above a b Less means not_gt = lt_le_ℚ means
not_above a b Equal means not_gt = le_of_same_ℚ means
not_above a b Greater means not_gt = cc

uncrossed : (lower upper : Option ℚ) → crossed lower upper ≡ false → InOrder lower upper
uncrossed None upper e = tt
uncrossed (Some lower) None e = tt
uncrossed (Some lower) (Some upper) e = not_above lower upper (compare lower upper) (compare_means lower upper) e

pub core_is : (d : Data) → Sound d → All IsField (rows_in d) → All IsField (names_in d)
    → IsCore (row_defs (filed_of d) 0 (filed_of d).rows) (column_defs (filed_of d) 0 (closed (filed_of d)).parts)
core_is d sound row_fields column_fields =
    let all_rows : List RowDef = row_defs (filed_of d) 0 (filed_of d).rows in
    let all_columns : List ColumnDef = column_defs (filed_of d) 0 (closed (filed_of d)).parts in
    let rows : row_names all_rows ≡ rows_in d = row_names_are (filed_of d) 0 (rows_in d) in
    let columns : all_columns ≡ map (column_in d) (names_in d) = columns_are d in
    let names : column_names all_columns ≡ names_in d = ap column_names columns ∙ named_in d (names_in d) in
    let row_count : length all_rows ≡ length (rows_in d) = sym (length-map all_rows (λ (row : RowDef). row.name)) ∙ ap length rows in
    let column_count : length all_columns ≡ length (names_in d) = sym (length-map all_columns (λ (column : ColumnDef). column.name)) ∙ ap length names in
    record {
      few_rows = omega (arith, sound.rows.few, row_count);
      few_columns = omega (arith, sound.columns.few, column_count);
      rows_differ = numbered (row_names all_rows) (subst Distinct (sym rows) sound.rows.rows_differ);
      columns_differ = numbered (column_names all_columns) (subst Distinct (sym names) (all_distinct [] d.named tt));
      row_fields = subst (All IsField) (sym rows) row_fields;
      column_fields = subst (All IsField) (sym names) column_fields;
      forms = subst (All (λ (column : ColumnDef). IsForm column.entries)) (sym columns) (columns_all d (λ (column : ColumnDef). IsForm column.entries) (names_in d) (form_in d));
      within = subst (λ (count : ℕ). All (λ (column : ColumnDef). EndsBelow count column.entries) all_columns) (sym row_count)
          (subst (All (λ (column : ColumnDef). EndsBelow (length (rows_in d)) column.entries)) (sym columns) (columns_all d (λ (column : ColumnDef). EndsBelow (length (rows_in d)) column.entries) (names_in d) (within_in d)));
      in_order = subst (All (λ (column : ColumnDef). InOrder column.lower column.upper)) (sym columns)
          (columns_all d (λ (column : ColumnDef). InOrder column.lower column.upper) (names_in d) (λ name. uncrossed (bounds_by d.bounds name).lower (bounds_by d.bounds name).upper (sound.in_order name)));
    }
