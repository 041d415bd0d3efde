-- Lines mean one core.
use Rattle.std.proofs.Common.{◌⊎◌, inl, inr, ◌≡◌, ◌∙◌, ◌<◌, ap, map, eqb, length, get_or, suc, ℕ, Bool, true, false, List, [], ◌∷◌, Option, nat_lt, refl, sym, subst, arith}
use Rattle.std.specs.Prelude.{All}
use Rattle.std.proofs.lemmas.Bool.{ne_eqb, eqb-false}
use Rattle.std.proofs.lemmas.Bool.Decides.{nat_tests}
use Rattle.std.proofs.lemmas.List.Elements.{All-head, All-tail}
use Rattle.rationals.specs.Rational.{ℚ, zero_ℚ, ◌+ℚ◌, add_zero_ℚ, zero_add_ℚ}
use Rattle.rationals.specs.Sparse.{Entry, Ascending, coefficient, value_if}
use Rattle.rationals.specs.Forms.{AllNonzero, EndsBelow}
use Rattle.smps_words.specs.Line.{TextLine}
use Rattle.core_defs.specs.declared.parts.ColumnDef.{ColumnDef}
use Rattle.core_defs.specs.declared.parts.RowDef.{RowDef}
use Rattle.core_defs.specs.declared.program.Core.{Core}
use Rattle.core_defs.specs.Core.{row_names, column_names}
use Rattle.core_defs.specs.Laws.{AreSame}
use Rattle.core_defs.specs.Means.{IsStatedColumn, IsStatedRow, Means}
use Rattle.core_defs.specs.Stated.{entry_in, rhs_in, range_in}
use Rattle.core_defs.specs.Bounds.{bounds_in}
use Rattle.core_defs.proofs.TermLemmas.{none_below}

-- ---- forms with the same coefficients

front_value : (e : Entry) (f : List Entry) (row : ℕ) → row ≡ e.column → Ascending (suc e.column) f → coefficient (e ∷ f) row ≡ e.value
front_value e f row same rises =
    let here : eqb e.column row ≡ true = grind (arith, nat_tests) in
    ap (λ b. value_if b e.value +ℚ coefficient f row) here ∙ ap (λ v. e.value +ℚ v) (none_below (suc e.column) row f rises (omega arith)) ∙ add_zero_ℚ e.value

later_value : (e : Entry) (f : List Entry) (row : ℕ) → (e.column ≡ row → ⊥) → coefficient (e ∷ f) row ≡ coefficient f row
later_value e f row apart = ap (λ b. value_if b e.value +ℚ coefficient f row) (ne_eqb e.column row apart) ∙ zero_add_ℚ (coefficient f row)

-- the forms agree at each row
record Agree (count : ℕ) (f g : List Entry) : Type 0 where
  pub at : (row : ℕ) → row < count → coefficient f row ≡ coefficient g row

-- a form whose columns come later has no value here
nothing_here : (count start : ℕ) (e : Entry) (f g : List Entry) → Ascending (suc e.column) f → Ascending start g → e.column < start → e.column < count → Agree count (e ∷ f) g → e.value ≡ zero_ℚ
nothing_here count start e f g rises later low below agree = sym (front_value e f e.column refl rises) ∙ agree.at e.column below ∙ none_below start e.column g later low

rest_here : (count : ℕ) (e d : Entry) (f g : List Entry) (row : ℕ) (here : Bool) → eqb e.column row ≡ here → e.column ≡ d.column → Ascending (suc e.column) f → Ascending (suc d.column) g → row < count → Agree count (e ∷ f) (d ∷ g) → coefficient f row ≡ coefficient g row
rest_here count e d f g row true is same rises later below agree =
    let at : e.column ≡ row = grind (arith, nat_tests, is) in
    none_below (suc e.column) row f rises (omega arith) ∙ sym (none_below (suc d.column) row g later (omega arith))
rest_here count e d f g row false is same rises later below agree =
    let apart : e.column ≡ row → ⊥ = eqb-false e.column row is in
    let other : d.column ≡ row → ⊥ = λ at. apart (same ∙ at) in
    sym (later_value e f row apart) ∙ agree.at row below ∙ later_value d g row other

three_ways : (a b : ℕ) → (a < b) ⊎ ((a ≡ b) ⊎ (b < a))
three_ways a b = by (nat_lt a b) refl (nat_lt b a) refl
  where
    by : (less : Bool) → nat_lt a b ≡ less → (more : Bool) → nat_lt b a ≡ more → (a < b) ⊎ ((a ≡ b) ⊎ (b < a))
    by true is more at = inl (grind (arith, nat_tests))
    by false is true at = inr (inr (grind (arith, nat_tests)))
    by false is false at = inr (inl (grind (arith, nat_tests)))

forms_same : (count start : ℕ) (f g : List Entry) → Ascending start f → Ascending start g → AllNonzero f → AllNonzero g → EndsBelow count f → EndsBelow count g → Agree count f g → f ≡ g
forms_same count start [] [] rises later nonzero more within inside agree = refl
forms_same count start (e ∷ f) [] rises later nonzero more within inside agree = absurd (nonzero.0 (nothing_here count (suc e.column) e f [] rises.1 tt (omega arith) within.0 agree))
forms_same count start [] (d ∷ g) rises later nonzero more within inside agree = absurd (more.0 (nothing_here count (suc d.column) d g [] later.1 tt (omega arith) inside.0 (record { at = λ row below. sym (agree.at row below) })))
forms_same count start (e ∷ f) (d ∷ g) rises later nonzero more within inside agree =
    elim (three_ways e.column d.column) [
      | inl less ↦ absurd (nonzero.0 (nothing_here count d.column e f (d ∷ g) rises.1 (omega arith, later.1) less within.0 agree))
      | inr rest ↦ elim rest [
        | inl same ↦
            let value : e.value ≡ d.value = sym (front_value e f e.column refl rises.1) ∙ agree.at e.column within.0 ∙ front_value d g e.column same later.1 in
            let first : Ascending (suc e.column) g = subst (λ (n : ℕ). Ascending (suc n) g) (sym same) later.1 in
            let tail : f ≡ g = forms_same count (suc e.column) f g rises.1 first nonzero.1 more.1 within.1 inside.1 (record { at = λ row below. rest_here count e d f g row (eqb e.column row) refl same rises.1 later.1 below agree }) in
            ap (λ (column : ℕ). record { column = column; value = e.value } ∷ f) same ∙ ap (λ (known : ℚ). record { column = d.column; value = known } ∷ f) value ∙ ap (λ rest. d ∷ rest) tail
        | inr above ↦ absurd (more.0 (nothing_here count e.column d g (e ∷ f) later.1 (omega arith, rises.1) above inside.0 (record { at = λ row below. sym (agree.at row below) })))
      ]
    ]

-- ---- rows and columns

rows_same : (lines : List TextLine) (one other : List RowDef) → row_names one ≡ row_names other → map (λ (row : RowDef). row.kind) one ≡ map (λ (row : RowDef). row.kind) other → All (IsStatedRow lines) one → All (IsStatedRow lines) other → one ≡ other
rows_same lines [] [] names kinds stated known = refl
rows_same lines (row ∷ one) [] names kinds stated known = cc
rows_same lines [] (row ∷ other) names kinds stated known = cc
rows_same lines (row ∷ one) (next ∷ other) names kinds stated known =
    let name : row.name ≡ next.name = cc in
    let kind : row.kind ≡ next.kind = cc in
    let more : row_names one ≡ row_names other = cc in
    let others : map (λ (row : RowDef). row.kind) one ≡ map (λ (row : RowDef). row.kind) other = cc in
    let first = All-head (IsStatedRow lines) row one stated in
    let second = All-head (IsStatedRow lines) next other known in
    let rhs : row.rhs ≡ next.rhs = first.rhs ∙ sym (second.rhs ∙ ap (rhs_in lines) (sym name)) in
    let range : row.range ≡ next.range = first.range ∙ sym (second.range ∙ ap (range_in lines) (sym name)) in
    let same : row ≡ next =
    ap (λ (known : List ℕ). record row { name = known }) name ∙ ap (λ known. record row { name = next.name; kind = known }) kind
    ∙ ap (λ (known : ℚ). record row { name = next.name; kind = next.kind; rhs = known }) rhs ∙ ap (λ (known : Option ℚ). record next { range = known }) range in
    ap (λ known. known ∷ one) same ∙ ap (λ rest. next ∷ rest) (rows_same lines one other more others (All-tail (IsStatedRow lines) row one stated) (All-tail (IsStatedRow lines) next other known))

column_same : (lines : List TextLine) (objective : List ℕ) (rows : List (List ℕ)) (one other : ColumnDef) → one.name ≡ other.name → IsStatedColumn lines objective rows one → IsStatedColumn lines objective rows other → one ≡ other
column_same lines objective rows one other name first second =
    let cost : one.cost ≡ other.cost = first.cost ∙ sym (second.cost ∙ ap (λ known. entry_in lines known objective) (sym name)) in
    let entries : one.entries ≡ other.entries =
    forms_same (length rows) 0 one.entries other.entries first.form.rises second.form.rises first.form.nonzero second.form.nonzero first.within second.within
    (record { at = λ row below. first.entry row below ∙ sym (second.entry row below ∙ ap (λ known. entry_in lines known (get_or rows row [])) (sym name)) }) in
    let lower : one.lower ≡ other.lower = first.lower ∙ sym (second.lower ∙ ap (λ known. (bounds_in lines known).lower) (sym name)) in
    let upper : one.upper ≡ other.upper = first.upper ∙ sym (second.upper ∙ ap (λ known. (bounds_in lines known).upper) (sym name)) in
    ap (λ (known : List ℕ). record one { name = known }) name ∙ ap (λ (known : ℚ). record one { name = other.name; cost = known }) cost ∙ ap (λ (known : List Entry). record one { name = other.name; cost = other.cost; entries = known }) entries
    ∙ ap (λ (known : Option ℚ). record one { name = other.name; cost = other.cost; entries = other.entries; lower = known }) lower ∙ ap (λ (known : Option ℚ). record other { upper = known }) upper

columns_same : (lines : List TextLine) (objective : List ℕ) (rows : List (List ℕ)) (one other : List ColumnDef) → column_names one ≡ column_names other → All (IsStatedColumn lines objective rows) one → All (IsStatedColumn lines objective rows) other → one ≡ other
columns_same lines objective rows [] [] names stated known = refl
columns_same lines objective rows (column ∷ one) [] names stated known = cc
columns_same lines objective rows [] (column ∷ other) names stated known = cc
columns_same lines objective rows (column ∷ one) (next ∷ other) names stated known =
    let P : ColumnDef → Type 0 = IsStatedColumn lines objective rows in
    let name : column.name ≡ next.name = cc in
    let more : column_names one ≡ column_names other = cc in
    ap (λ known. known ∷ one) (column_same lines objective rows column next name (All-head P column one stated) (All-head P next other known))
    ∙ ap (λ rest. next ∷ rest) (columns_same lines objective rows one other more (All-tail P column one stated) (All-tail P next other known))

pub one_meaning : (lines : List TextLine) (one other : Core) → Means lines one → Means lines other → AreSame one other
one_meaning lines one other first second =
    let free : one.objective ∷ one.skipped.items ≡ other.objective ∷ other.skipped.items = sym first.free ∙ second.free in
    let objective : one.objective ≡ other.objective = cc in
    let skipped : one.skipped.items ≡ other.skipped.items = cc in
    let names : row_names one.rows.items ≡ row_names other.rows.items = first.rows ∙ sym second.rows in
    let known : All (IsStatedColumn lines one.objective (row_names one.rows.items)) other.columns.items =
    subst (λ name. All (IsStatedColumn lines name (row_names one.rows.items)) other.columns.items) (sym objective) (subst (λ rows. All (IsStatedColumn lines other.objective rows) other.columns.items) (sym names) second.column) in
    record {
      objective = objective;
      skipped = skipped;
      rhs_set = first.rhs_set ∙ sym second.rhs_set;
      rows = rows_same lines one.rows.items other.rows.items names (first.kinds ∙ sym second.kinds) first.row second.row;
      columns = columns_same lines one.objective (row_names one.rows.items) one.columns.items other.columns.items (first.columns ∙ sym second.columns) first.column known;
    }
