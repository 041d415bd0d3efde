-- Forms of rows that are gathered column by column.
use Rattle.std.proofs.Common.{◌≡◌, ◌∙◌, ℕ, zero, suc, ◌+◌, ◌<◌, Bool, true, false, List, [], ◌∷◌, ◌++◌, map, length, get_or, set, refl, sym, ap, ap₂, subst, append_assoc, append-nil, arith}
use Rattle.std.proofs.lemmas.List.{get_or-set_other, get_or_default}
use Rattle.rationals.specs.Rational.{ℚ, zero_ℚ}
use Rattle.rationals.specs.Sparse.{Entry, Ascending, coefficient}
use Rattle.rationals.specs.Forms.{EndsBelow, put, put_unless, is_zero}
use Rattle.frac128.proofs.FormLemmas.{put_zero, value_here, value_past}
use Rattle.core_defs.specs.declared.parts.RowDef.{RowDef}
use Rattle.core_defs.specs.declared.parts.ColumnDef.{ColumnDef}
use Rattle.core_defs.proofs.TermLemmas.{none_below}
use Rattle.scen_defs.specs.Lists.{Each}
use Rattle.smps_build.specs.Gathered.{with_column, entries_from, forms_from}
use Rattle.smps_build.proofs.BelowLemmas.{below-more, below-push}

-- the forms of rows, each with the row's entries in these columns, the first of which has the number j; the first row has the number i
abbrev pub with_entries : ℕ → List ColumnDef → ℕ → List (List Entry) → List (List Entry)
with_entries j cs i [] = []
with_entries j cs i (form ∷ forms) = (form ++ entries_from i j cs) ∷ with_entries j cs (suc i) forms

-- the rows of these entries have none in column j or a later one
abbrev pub AreOpen : ℕ → List Entry → List (List Entry) → Type 0
AreOpen j [] forms = Unit {0}
AreOpen j (e ∷ es) forms = EndsBelow j (get_or forms e.column []) × AreOpen j es forms

both : {form other : List Entry} {forms others : List (List Entry)} → form ≡ other → forms ≡ others → form ∷ forms ≡ other ∷ others
both one rest = ap₂ (λ (form : List Entry) (forms : List (List Entry)). form ∷ forms) one rest

-- ---- a column, entry by entry

pub no_entries : (j i : ℕ) (forms : List (List Entry)) → with_column j [] i forms ≡ forms
no_entries j i [] = refl
no_entries j i (form ∷ forms) = both (ap (λ more. form ++ more) (put_zero j zero_ℚ refl) ∙ append-nil form) (no_entries j (suc i) forms)

-- an entry of another row
pub other_rows : (j i : ℕ) (e : Entry) (es : List Entry) (forms : List (List Entry)) → ((k : ℕ) → k < length forms → e.column ≡ i + k → ⊥) → with_column j (e ∷ es) i forms ≡ with_column j es i forms
other_rows j i e es [] other = refl
other_rows j i e es (form ∷ forms) other = both
    (ap (λ v. form ++ put j v []) (value_past e es i (λ same. other 0 (omega arith) (omega (arith, same)))))
    (other_rows j (suc i) e es forms (λ k b same. other (suc k) (omega arith) (omega (arith, same))))

-- an entry of the row at place k
own_row : (j i k : ℕ) (e : Entry) (es : List Entry) (forms : List (List Entry)) → Ascending 0 (e ∷ es) → e.column ≡ i + k → k < length forms →
    with_column j (e ∷ es) i forms ≡ with_column j es i (set forms k (get_or forms k [] ++ put j e.value []))
own_row j i k e es [] rises at below = absurd (omega arith)
own_row j i zero e es (form ∷ forms) rises at below =
    both
    (ap (λ v. form ++ put j v []) (sym (value_here e es i 0 rises (omega arith))) ∙ sym (append-nil (form ++ put j e.value []))
    ∙ ap (λ more. (form ++ put j e.value []) ++ more) (sym (put_zero j (coefficient es i) (none_below (suc e.column) i es rises.1 (omega arith)))))
    (other_rows j (suc i) e es forms (λ m b same. absurd (omega (arith, same))))
own_row j i (suc k) e es (form ∷ forms) rises at below =
    both (ap (λ v. form ++ put j v []) (value_past e es i (λ same. absurd (omega (arith, same))))) (own_row j (suc i) k e es forms rises (omega arith) (omega arith))

pub at_own_row : (j : ℕ) (e : Entry) (es old form : List Entry) (forms : List (List Entry)) → e.column < length forms → Ascending 0 (e ∷ es) → old ≡ get_or forms e.column old → form ≡ old ++ put j e.value [] →
    with_column j (e ∷ es) 0 forms ≡ with_column j es 0 (set forms e.column form)
at_own_row j e es old form forms below rises read made =
    own_row j 0 e.column e es forms rises (omega arith) below
    ∙ ap (λ f. with_column j es 0 (set forms e.column f)) (ap (λ f. f ++ put j e.value []) (get_or_default forms e.column [] old below ∙ sym read) ∙ sym made)

form_below : (j : ℕ) (forms : List (List Entry)) (i : ℕ) → Each (EndsBelow j) forms → EndsBelow j (get_or forms i [])
form_below j [] i h = tt
form_below j (form ∷ forms) zero h = h.0
form_below j (form ∷ forms) (suc i) h = form_below j forms i h.1

pub all_open : (j : ℕ) (es : List Entry) (forms : List (List Entry)) → Each (EndsBelow j) forms → AreOpen j es forms
all_open j [] forms h = tt
all_open j (e ∷ es) forms h = (form_below j forms e.column h, all_open j es forms h)

-- the rows behind the one that has its entry
pub still_open : (j n row : ℕ) (form : List Entry) (es : List Entry) (forms : List (List Entry)) → row < n → Ascending n es → AreOpen j es forms → AreOpen j es (set forms row form)
still_open j n row form [] forms low rises open_ = tt
still_open j n row form (e ∷ es) forms low rises open_ = (
  subst (EndsBelow j) (sym (get_or-set_other forms row e.column form [] (λ same. absurd (omega (arith, rises.0, same))))) open_.0,
  still_open j (suc e.column) row form es forms (omega (arith, rises.0)) rises.1 open_.1,
)

-- ---- all columns, one by one

put_apart : (j : ℕ) (v : ℚ) (f : List Entry) → put j v f ≡ put j v [] ++ f
put_apart j v f = go (is_zero v)
  where
    go : (b : Bool) → put_unless b j v f ≡ put_unless b j v [] ++ f
    go true = refl
    go false = refl

pub one_column : (j i : ℕ) (c : ColumnDef) (cs : List ColumnDef) (forms : List (List Entry)) → with_entries j (c ∷ cs) i forms ≡ with_entries (suc j) cs i (with_column j c.entries i forms)
one_column j i c cs [] = refl
one_column j i c cs (form ∷ forms) = both
    (ap (λ more. form ++ more) (put_apart j (coefficient c.entries i) (entries_from i (suc j) cs)) ∙ sym (append_assoc form (put j (coefficient c.entries i) []) (entries_from i (suc j) cs)))
    (one_column j (suc i) c cs forms)

pub no_columns : (j i : ℕ) (forms : List (List Entry)) → with_entries j [] i forms ≡ forms
no_columns j i [] = refl
no_columns j i (form ∷ forms) = both (append-nil form) (no_columns j (suc i) forms)

pub blank_rows : (cs : List ColumnDef) (i : ℕ) (rs : List RowDef) → with_entries 0 cs i (map (λ (r : RowDef). []) rs) ≡ forms_from cs i rs
blank_rows cs i [] = refl
blank_rows cs i (r ∷ rs) = both refl (blank_rows cs (suc i) rs)

pub blank_below : (j : ℕ) (rs : List RowDef) → Each (EndsBelow j) (map (λ (r : RowDef). []) rs)
blank_below j [] = tt
blank_below j (r ∷ rs) = (tt, blank_below j rs)

put_below : (j : ℕ) (v : ℚ) (form : List Entry) → EndsBelow j form → EndsBelow (suc j) (form ++ put j v [])
put_below j v form h = go (is_zero v)
  where
    go : (b : Bool) → EndsBelow (suc j) (form ++ put_unless b j v [])
    go true = subst (EndsBelow (suc j)) (sym (append-nil form)) (below-more j form h)
    go false = below-push j v form h

pub column_below : (j i : ℕ) (es : List Entry) (forms : List (List Entry)) → Each (EndsBelow j) forms → Each (EndsBelow (suc j)) (with_column j es i forms)
column_below j i es [] h = tt
column_below j i es (form ∷ forms) h = (put_below j (coefficient es i) form h.0, column_below j (suc i) es forms h.1)
