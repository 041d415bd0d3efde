-- The values of a node: costs of columns of its stage, and entries of columns of that stage or earlier ones.
use Rattle.std.proofs.Common.{◌≡◌, ◌∙◌, ap, ap₂, sym, refl, subst, ℕ, zero, suc, ◌+◌, ◌<◌, ◌≤◌, Bool, true, false, ◌&&◌, List, [], ◌∷◌, map, length, get_or, nat_eq, nat_lt, eqb, arith, eqb-true, if◌then◌else◌, ℤ, pos}
use Rattle.std.specs.Ordering.{int_eq}
use Rattle.std.proofs.lemmas.Bool.Decides.{nat_tests}
use Rattle.rationals.specs.Rational.{ℚ, zero_ℚ, ◌+ℚ◌, zero_add_ℚ}
use Rattle.rationals.specs.Sparse.{Entry as Term, coefficient, value_if}
use Rattle.rationals.specs.Forms.{is_zero, put, put_unless}
use Rattle.rationals.proofs.Lowest.{num_zero}
use Rattle.rationals.specs.Choices.{pick}
use Rattle.smps_words.specs.declared.entry.Entry.{Entry}
use Rattle.smps_words.specs.declared.entry.Entry.TheVariants.{Cost, Matrix, Rhs}
use Rattle.core_defs.specs.declared.parts.ColumnDef.{ColumnDef}
use Rattle.core_defs.specs.declared.program.Core.{Core}
use Rattle.time_defs.specs.Means.{Stages, IsReached, column_entries}
use Rattle.stoch_defs.specs.Entries.{is_late, no_column}
use Rattle.stoch_defs.specs.Random.{Sets}
use Rattle.scen_defs.specs.Lists.{Each, passes_at}
use Rattle.scen_defs.proofs.Valid.{each-place}
use Rattle.build_defs.specs.Nodes.{value_in, form_at, rows_at}
use Rattle.tree_build.specs.declared.parts.RowValues.{RowValues}
use Rattle.tree_build.specs.Values.{Values, put_at, row_values, values_of, at_row, with_entry, with_rhs, with_set, with_sets}
use Rattle.tree_build.specs.Law.{IsStaged, AreTimely}
use Rattle.tree_build.proofs.Lists.{passes_get}

-- a term of a column of this stage, and of one up to it
pub record IsOf (p : Stages) (stage : ℕ) (e : Term) : Type 0 where
  pub there : e.column < length p.columns
  pub stage_is : get_or p.columns e.column 0 ≡ stage

pub record IsUpTo (p : Stages) (stage : ℕ) (e : Term) : Type 0 where
  pub there : e.column < length p.columns
  pub reached : get_or p.columns e.column 0 ≤ stage

pub record IsLine (p : Stages) (stage : ℕ) (r : RowValues) : Type 0 where
  pub stage_is : get_or p.rows r.row 0 ≡ stage
  pub entries : Each (IsUpTo p stage) r.entries

pub record AreOf (p : Stages) (stage : ℕ) (d : Values) : Type 0 where
  pub cost : Each (IsOf p stage) d.cost
  pub rows : Each (IsLine p stage) d.rows
  -- exactly the rows of the stage
  pub numbers : map (λ (r : RowValues). r.row) d.rows ≡ rows_at stage p.rows

-- ---- forms

each_put : (P : Term → Type 0) (j : ℕ) (v : ℚ) (f : List Term) → (is_zero v ≡ false → P (record { column = j; value = v })) → Each P f → Each P (put j v f)
each_put P j v f one all = go (is_zero v) refl
  where
    go : (b : Bool) → is_zero v ≡ b → Each P (put_unless b j v f)
    go true is = all
    go false is = (one is, all)

each_put_at : (P : Term → Type 0) (j : ℕ) (v : ℚ) (f : List Term) → P (record { column = j; value = v }) → Each P f → Each P (put_at j v f)
each_put_at P j v [] one all = each_put P j v [] (λ some. one) tt
each_put_at P j v (e ∷ f) one all = go (nat_lt e.column j) (nat_eq e.column j) (each_put_at P j v f one all.1)
  where
    go : (b a : Bool) → Each P (put_at j v f) → Each P (if b then e ∷ put_at j v f else (if a then put j v f else put j v (e ∷ f)))
    go true a rest = (all.0, rest)
    go false true rest = each_put P j v f (λ some. one) all.1
    go false false rest = each_put P j v (e ∷ f) (λ some. one) all

each_form : {A : Type 0} (P : Term → Type 0) (test : A → Bool) (value : ℕ → ℚ) (j : ℕ) (columns : List A) (d : A) →
    ((i : ℕ) → i < length columns → test (get_or columns i d) ≡ true → is_zero (value (j + i)) ≡ false → P (record { column = j + i; value = value (j + i) })) →
    Each P (form_at test value j columns)
each_form P test value j [] d h = tt
each_form {A} P test value j (column ∷ columns) d h =
    go (test column) refl
    (each_form P test value (suc j) columns d
    (λ i below is some. subst (λ (k : ℕ). is_zero (value k) ≡ false → P (record { column = k; value = value k })) (let e : j + suc i ≡ suc j + i = omega arith in e) (h (suc i) (omega (arith, below)) is) some))
  where
    here : test column ≡ true → is_zero (value j) ≡ false → P (record { column = j; value = value j })
    here is = subst (λ (k : ℕ). is_zero (value k) ≡ false → P (record { column = k; value = value k })) (let e : j + 0 ≡ j = omega arith in e) (h 0 (omega arith) is)

    go : (b : Bool) → test column ≡ b → Each P (form_at test value (suc j) columns) → Each P (pick b (put j (value j) (form_at test value (suc j) columns)) (form_at test value (suc j) columns))
    go true is rest = each_put P j (value j) (form_at test value (suc j) columns) (here is) rest
    go false is rest = rest

-- ---- what the core states

zero_is : is_zero zero_ℚ ≡ true
zero_is = ap (λ (num : ℤ). int_eq num (pos 0)) (num_zero zero_ℚ refl)

-- a row in which a column has an entry is reached
reached_by : (rows : List ℕ) (stage i : ℕ) (es : List Term) → IsReached rows stage es → is_zero (coefficient es i) ≡ false → stage ≤ get_or rows i 0
reached_by rows stage i [] all some = absurd (let clash : true ≡ false = sym zero_is ∙ some in cc)
reached_by rows stage i (e ∷ es) all some = go (eqb e.column i) refl some (reached_by rows stage i es all.1)
  where
    go : (b : Bool) → eqb e.column i ≡ b → is_zero (value_if b e.value +ℚ coefficient es i) ≡ false → (is_zero (coefficient es i) ≡ false → stage ≤ get_or rows i 0) → stage ≤ get_or rows i 0
    go true is more rest = subst (λ (k : ℕ). stage ≤ get_or rows k 0) (eqb-true e.column i is) all.0
    go false is more rest = rest (ap is_zero (sym (zero_add_ℚ (coefficient es i))) ∙ more)

entries_same : (columns : List ColumnDef) (j : ℕ) → column_entries columns j ≡ (get_or columns j no_column).entries
entries_same [] j = refl
entries_same (c ∷ columns) zero = refl
entries_same (c ∷ columns) (suc j) = entries_same columns j

-- a node of the stage where nothing is set
pub base_are : (core : Core) (p : Stages) (stage : ℕ) → IsStaged core p → AreOf p stage (values_of core p [] stage)
base_are core p stage staged = record {
  cost = each_form (IsOf p stage) (λ at. nat_eq at stage) (λ j. value_in core [] (Cost j)) 0 p.columns 0 cost_is;
  rows = each_mapped (rows_at stage p.rows) (each-place (λ i. IsLine p stage (row_values core [] i)) (λ at. nat_eq at stage) p.rows row_is);
  numbers = own_numbers (rows_at stage p.rows);
}
  where
    same : (n m : ℕ) → nat_eq n m ≡ true → n ≡ m
    same n m e = grind (arith, nat_tests, e)

    cost_is : (i : ℕ) → i < length p.columns → nat_eq (get_or p.columns i 0) stage ≡ true → is_zero (value_in core [] (Cost (0 + i))) ≡ false → IsOf p stage (record { column = 0 + i; value = value_in core [] (Cost (0 + i)) })
    cost_is i below is some =
        let e : 0 + i ≡ i = omega arith in
        record { there = omega (arith, below); stage_is = ap (λ k. get_or p.columns k 0) e ∙ same (get_or p.columns i 0) stage is }

    entry_is : (row : ℕ) → get_or p.rows row 0 ≡ stage → (i : ℕ) → i < length core.columns.items → is_zero (value_in core [] (Matrix row (0 + i))) ≡ false → IsUpTo p stage (record { column = 0 + i; value = value_in core [] (Matrix row (0 + i)) })
    entry_is row at i below some =
        let e : 0 + i ≡ i = omega arith in
        let some_i : is_zero (coefficient (get_or core.columns.items i no_column).entries row) ≡ false = ap (λ k. is_zero (coefficient (get_or core.columns.items k no_column).entries row)) (sym e) ∙ some in
        let reaches = subst (IsReached p.rows (get_or p.columns i 0)) (entries_same core.columns.items i) (staged.triangle i below) in
        let low : get_or p.columns i 0 ≤ get_or p.rows row 0 = reached_by p.rows (get_or p.columns i 0) row (get_or core.columns.items i no_column).entries reaches some_i in
        record {
          there = omega (arith, below, staged.columns);
          reached = subst (λ (k : ℕ). get_or p.columns k 0 ≤ stage) (sym e) (omega (arith, low, at));
        }

    row_is : (i : ℕ) → passes_at (λ at. nat_eq at stage) i p.rows ≡ true → IsLine p stage (row_values core [] i)
    row_is i passes =
        let found = passes_get (λ at. nat_eq at stage) i p.rows 0 passes in
        let at = same (get_or p.rows i 0) stage found.1 in
        record {
          stage_is = at;
          entries = each_form (IsUpTo p stage) (λ (column : ColumnDef). true) (λ j. value_in core [] (Matrix i j)) 0 core.columns.items no_column (λ k below is some. entry_is i at k below some);
        }

    own_numbers : (rows : List ℕ) → map (λ (r : RowValues). r.row) (map (row_values core []) rows) ≡ rows
    own_numbers [] = refl
    own_numbers (i ∷ rows) = ap (λ (rest : List ℕ). i ∷ rest) (own_numbers rows)

    each_mapped : (rows : List ℕ) → Each (λ i. IsLine p stage (row_values core [] i)) rows → Each (IsLine p stage) (map (row_values core []) rows)
    each_mapped [] all = tt
    each_mapped (i ∷ rows) all = (all.0, each_mapped rows all.1)

-- ---- an entry is set

each_at_row : (p : Stages) (stage i : ℕ) (change : RowValues → RowValues) (rows : List RowValues) → ((r : RowValues) → r.row ≡ i → IsLine p stage r → IsLine p stage (change r)) →
    Each (IsLine p stage) rows → Each (IsLine p stage) (at_row i change rows)
each_at_row p stage i change [] keeps all = tt
each_at_row p stage i change (r ∷ rows) keeps all = (go (nat_eq r.row i) refl, each_at_row p stage i change rows keeps all.1)
  where
    go : (b : Bool) → nat_eq r.row i ≡ b → IsLine p stage (if b then change r else r)
    go true is = keeps r (same r.row i is) all.0
      where
        same : (n m : ℕ) → nat_eq n m ≡ true → n ≡ m
        same n m e = grind (arith, nat_tests, e)
    go false is = all.0

-- the numbers of the rows stay
same_numbers : (i : ℕ) (change : RowValues → RowValues) (rows : List RowValues) → ((r : RowValues) → (change r).row ≡ r.row) → map (λ (r : RowValues). r.row) (at_row i change rows) ≡ map (λ (r : RowValues). r.row) rows
same_numbers i change [] keeps = refl
same_numbers i change (r ∷ rows) keeps = ap₂ (λ (n : ℕ) (rest : List ℕ). n ∷ rest) (go (nat_eq r.row i)) (same_numbers i change rows keeps)
  where
    go : (b : Bool) → (if b then change r else r).row ≡ r.row
    go true = keeps r
    go false = refl

set_are : (core : Core) (p : Stages) (stage : ℕ) (d : Values) (entry : Entry) (v : ℚ) → IsStaged core p → is_late p entry ≡ false → AreOf p stage d → AreOf p stage (with_set core p stage d entry v)
set_are core p stage d (Cost j) v staged timely are = go (nat_lt j (length p.columns)) refl (nat_eq (get_or p.columns j 0) stage) refl
  where
    go : (b : Bool) → nat_lt j (length p.columns) ≡ b → (a : Bool) → nat_eq (get_or p.columns j 0) stage ≡ a → AreOf p stage (if b && a then record { cost = put_at j v d.cost; rows = d.rows } else d)
    go true within true is = record { cost = each_put_at (IsOf p stage) j v d.cost (record { there = below j (length p.columns) within; stage_is = same (get_or p.columns j 0) stage is }) are.cost; rows = are.rows; numbers = are.numbers }
      where
        below : (n m : ℕ) → nat_lt n m ≡ true → n < m
        below n m e = grind (arith, nat_tests, e)

        same : (n m : ℕ) → nat_eq n m ≡ true → n ≡ m
        same n m e = grind (arith, nat_tests, e)
    go true within false is = are
    go false within a is = are
set_are core p stage d (Matrix i j) v staged timely are = go (nat_lt j (length core.columns.items)) refl
  where
    low : (n m : ℕ) → nat_lt n m ≡ false → m ≤ n
    low n m e = grind (arith, nat_tests, e)

    below : (n m : ℕ) → nat_lt n m ≡ true → n < m
    below n m e = grind (arith, nat_tests, e)

    keeps : j < length core.columns.items → (r : RowValues) → r.row ≡ i → IsLine p stage r → IsLine p stage (with_entry j v r)
    keeps within r at line =
        let there : j < length p.columns = omega (arith, within, staged.columns) in
        let reached : get_or p.columns j 0 ≤ get_or p.rows i 0 = low (get_or p.rows i 0) (get_or p.columns j 0) timely in
        let row_stage : get_or p.rows i 0 ≡ stage = ap (λ k. get_or p.rows k 0) (sym at) ∙ line.stage_is in
        record {
          stage_is = line.stage_is;
          entries = each_put_at (IsUpTo p stage) j v r.entries (record { there = there; reached = omega (arith, reached, row_stage) }) line.entries;
        }

    go : (b : Bool) → nat_lt j (length core.columns.items) ≡ b → AreOf p stage (if b then record { cost = d.cost; rows = at_row i (with_entry j v) d.rows } else d)
    go true within = record { cost = are.cost; rows = each_at_row p stage i (with_entry j v) d.rows (keeps (below j (length core.columns.items) within)) are.rows; numbers = same_numbers i (with_entry j v) d.rows (λ r. refl) ∙ are.numbers }
    go false within = are
set_are core p stage d (Rhs i) v staged timely are =
    record { cost = are.cost; rows = each_at_row p stage i (with_rhs v) d.rows (λ r at line. record { stage_is = line.stage_is; entries = line.entries }) are.rows; numbers = same_numbers i (with_rhs v) d.rows (λ r. refl) ∙ are.numbers }

pub sets_are : (core : Core) (p : Stages) (stage : ℕ) (d : Values) (sets : Sets) → IsStaged core p → AreTimely p sets → AreOf p stage d → AreOf p stage (with_sets core p stage d sets)
sets_are core p stage d [] staged timely are = are
sets_are core p stage d (pair ∷ sets) staged timely are =
    sets_are core p stage (with_set core p stage d pair.0 pair.1) sets staged timely.1 (set_are core p stage d pair.0 pair.1 staged timely.0 are)
