-- What a node has where one more entry is set.
use Rattle.std.proofs.Common.{◌≡◌, ◌∙◌, ap, ap₂, sym, refl, subst, ℕ, zero, suc, ◌+◌, ◌<◌, ◌≤◌, Bool, true, false, ◌&&◌, List, [], ◌∷◌, ◌++◌, length, get_or, map, nat_eq, nat_lt, arith, append_assoc, append-nil, if◌then◌else◌}
use Rattle.std.proofs.lemmas.Bool.Decides.{nat_tests}
use Rattle.rationals.specs.Rational.{ℚ}
use Rattle.rationals.specs.Sparse.{Entry as Term, Ascending, Ascending-weaker}
use Rattle.rationals.specs.Forms.{put, put_unless, is_zero}
use Rattle.rationals.specs.Choices.{pick}
use Rattle.scen_defs.specs.Lists.{places}
use Rattle.smps_words.specs.declared.entry.Entry.{Entry}
use Rattle.smps_words.specs.declared.entry.Entry.TheVariants.{Cost, Matrix, Rhs}
use Rattle.core_defs.specs.declared.program.Core.{Core}
use Rattle.core_defs.specs.declared.parts.ColumnDef.{ColumnDef}
use Rattle.time_defs.specs.Means.{Stages}
use Rattle.stoch_defs.specs.Entries.{same_entry, core_value, no_column}
use Rattle.stoch_defs.specs.Random.{Sets}
use Rattle.build_defs.specs.Nodes.{last_value, value_in, form_at, costs_at, entries_at, rows_at}
use Rattle.tree_build.specs.declared.parts.RowValues.{RowValues}
use Rattle.tree_build.specs.Values.{put_at, Values, row_values, values_of, RowsFrom, at_row, with_entry, with_rhs, with_set, with_sets}
use Rattle.tree_build.proofs.TermLemmas.{put_before, put_here, put_behind}

last_more : (e x : Entry) (v w : ℚ) (sets : Sets) → last_value e v (sets ++ (x, w) ∷ []) ≡ (if same_entry e x then w else last_value e v sets)
last_more e x v w [] = refl
last_more e x v w (pair ∷ sets) = last_more e x (if same_entry e pair.0 then pair.1 else v) w sets

-- ---- forms

pub form_same : {A : Type 0} (test : A → Bool) (f g : ℕ → ℚ) (n : ℕ) (xs : List A) → ((j : ℕ) → f j ≡ g j) → form_at test f n xs ≡ form_at test g n xs
form_same test f g n [] same = refl
form_same test f g n (x ∷ xs) same =
    ap₂ (λ (v : ℚ) (rest : List Term). pick (test x) (put n v rest) rest) (same n) (form_same test f g (suc n) xs same)

form_rises : {A : Type 0} (test : A → Bool) (f : ℕ → ℚ) (n : ℕ) (xs : List A) → Ascending n (form_at test f n xs)
form_rises test f n [] = tt
form_rises {A} test f n (x ∷ xs) = go (test x) (is_zero (f n)) (form_rises test f (suc n) xs)
  where
    go : (b a : Bool) → Ascending (suc n) (form_at test f (suc n) xs) → Ascending n (pick b (put_unless a n (f n) (form_at test f (suc n) xs)) (form_at test f (suc n) xs))
    go true true rest = Ascending-weaker (suc n) n (form_at test f (suc n) xs) (omega arith) rest
    go true false rest = (omega arith, rest)
    go false a rest = Ascending-weaker (suc n) n (form_at test f (suc n) xs) (omega arith) rest

-- the values, but for that of column k
abbrev pub changed : ℕ → ℚ → (ℕ → ℚ) → ℕ → ℚ
changed k v f j = if nat_eq j k then v else f j

like : (a b : ℕ) → a ≡ b → nat_eq a b ≡ true
like a b h = grind (arith, nat_tests)

unlike : (a b : ℕ) → (a ≡ b → ⊥) → nat_eq a b ≡ false
unlike a b h = grind (arith, nat_tests)

-- column k isn't one of these
form_past : {A : Type 0} (test : A → Bool) (f : ℕ → ℚ) (k : ℕ) (v : ℚ) (n : ℕ) (xs : List A) → k < n → form_at test (changed k v f) n xs ≡ form_at test f n xs
form_past test f k v n [] low = refl
form_past test f k v n (x ∷ xs) low =
    ap₂ (λ (w : ℚ) (rest : List Term). pick (test x) (put n w rest) rest) (ap (λ b. if b then v else f n) (unlike n k (λ e. omega (arith, low, e)))) (form_past test f k v (suc n) xs (omega (arith, low)))

-- column k is one of these, and passes the test
pub form_put : {A : Type 0} (test : A → Bool) (f : ℕ → ℚ) (k : ℕ) (v : ℚ) (n d : ℕ) (a : A) (xs : List A) → k ≡ n + d → d < length xs → test (get_or xs d a) ≡ true →
    form_at test (changed k v f) n xs ≡ put_at k v (form_at test f n xs)
form_put test f k v n d a [] at below passes = absurd (omega (arith, below))
form_put {A} test f k v n zero a (x ∷ xs) at below passes =
    let same : n ≡ k = omega (arith, at) in
    let rest = form_at test f (suc n) xs in
    ap (λ b. pick b (put n (changed k v f n) (form_at test (changed k v f) (suc n) xs)) (form_at test (changed k v f) (suc n) xs)) passes
    ∙ ap₂ (λ (w : ℚ) (others : List Term). put n w others) (ap (λ b. if b then v else f n) (like n k same)) (form_past test f k v (suc n) xs (omega (arith, at)))
    ∙ ap (λ m. put m v rest) same
    ∙ sym (ap (λ b. put_at k v (pick b (put n (f n) rest) rest)) passes ∙ go (is_zero (f n)))
  where
    go : (b : Bool) → put_at k v (put_unless b n (f n) (form_at test f (suc n) xs)) ≡ put k v (form_at test f (suc n) xs)
    go true = put_before k v (form_at test f (suc n) xs) (subst (λ (m : ℕ). Ascending (suc m) (form_at test f (suc n) xs)) (omega (arith, at)) (form_rises test f (suc n) xs))
    go false = put_here k v (record { column = n; value = f n }) (form_at test f (suc n) xs) (omega (arith, at))
form_put {A} test f k v n (suc d) a (x ∷ xs) at below passes =
    ap₂ (λ (w : ℚ) (rest : List Term). pick (test x) (put n w rest) rest)
    (ap (λ b. if b then v else f n) (unlike n k (λ e. omega (arith, at, e)))) (form_put test f k v (suc n) d a xs (omega (arith, at)) (omega (arith, below)) passes)
    ∙ go (test x) (is_zero (f n))
  where
    go : (b z : Bool) → pick b (put_unless z n (f n) (put_at k v (form_at test f (suc n) xs))) (put_at k v (form_at test f (suc n) xs)) ≡ put_at k v (pick b (put_unless z n (f n) (form_at test f (suc n) xs)) (form_at test f (suc n) xs))
    go true true = refl
    go true false = sym (put_behind k v (record { column = n; value = f n } ∷ []) (form_at test f (suc n) xs) (omega (arith, at), tt))
    go false z = refl

-- column k isn't one of these, or doesn't pass the test
pub form_other : {A : Type 0} (test : A → Bool) (f : ℕ → ℚ) (k : ℕ) (v : ℚ) (n : ℕ) (a : A) (xs : List A) → ((d : ℕ) → d < length xs → k ≡ n + d → test (get_or xs d a) ≡ false) →
    form_at test (changed k v f) n xs ≡ form_at test f n xs
form_other test f k v n a [] none = refl
form_other {A} test f k v n a (x ∷ xs) none =
    let rest = form_other test f k v (suc n) a xs (λ d below at. none (suc d) (omega (arith, below)) (omega (arith, at))) in
    go (nat_eq n k) refl rest
  where
    go : (b : Bool) → nat_eq n k ≡ b → form_at test (changed k v f) (suc n) xs ≡ form_at test f (suc n) xs →
        pick (test x) (put n (if b then v else f n) (form_at test (changed k v f) (suc n) xs)) (form_at test (changed k v f) (suc n) xs) ≡ pick (test x) (put n (f n) (form_at test f (suc n) xs)) (form_at test f (suc n) xs)
    go true is rest =
        let fails : test x ≡ false = none 0 (omega arith) (grind (arith, nat_tests, is)) in
        ap (λ b. pick b (put n v (form_at test (changed k v f) (suc n) xs)) (form_at test (changed k v f) (suc n) xs)) fails ∙ rest
        ∙ sym (ap (λ b. pick b (put n (f n) (form_at test f (suc n) xs)) (form_at test f (suc n) xs)) fails)
    go false is rest = ap (λ (others : List Term). pick (test x) (put n (f n) others) others) rest

-- ---- a node

costs_set : (core : Core) (p : Stages) (sets : Sets) (stage k : ℕ) (v : ℚ) → costs_at core (sets ++ (Cost k, v) ∷ []) stage p.columns
    ≡ (if nat_lt k (length p.columns) && nat_eq (get_or p.columns k 0) stage then put_at k v (costs_at core sets stage p.columns) else costs_at core sets stage p.columns)
costs_set core p sets stage k v =
    form_same (λ at. nat_eq at stage) (λ j. value_in core (sets ++ (Cost k, v) ∷ []) (Cost j)) (changed k v (λ j. value_in core sets (Cost j))) 0 p.columns (λ j. last_more (Cost j) (Cost k) (core_value core (Cost j)) v sets)
    ∙ go (nat_lt k (length p.columns)) refl (nat_eq (get_or p.columns k 0) stage) refl
  where
    go : (b : Bool) → nat_lt k (length p.columns) ≡ b → (a : Bool) → nat_eq (get_or p.columns k 0) stage ≡ a →
        form_at (λ at. nat_eq at stage) (changed k v (λ j. value_in core sets (Cost j))) 0 p.columns ≡ (if b && a then put_at k v (costs_at core sets stage p.columns) else costs_at core sets stage p.columns)
    go true within true of_stage = form_put (λ at. nat_eq at stage) (λ j. value_in core sets (Cost j)) k v 0 k 0 p.columns (omega arith) (grind (arith, nat_tests, within)) of_stage
    go true within false other =
        form_other (λ at. nat_eq at stage) (λ j. value_in core sets (Cost j)) k v 0 0 p.columns
        (λ d below at. (let same : k ≡ d = omega (arith, at) in subst (λ (m : ℕ). nat_eq (get_or p.columns m 0) stage ≡ false) same other))
    go false past a other =
        form_other (λ at. nat_eq at stage) (λ j. value_in core sets (Cost j)) k v 0 0 p.columns
        (λ d below at. absurd (let far : length p.columns ≤ k = grind (arith, nat_tests, past) in omega (arith, below, at, far)))

costs_kept : (core : Core) (p : Stages) (sets : Sets) (stage : ℕ) (e : Entry) (v : ℚ) → ((j : ℕ) → same_entry (Cost j) e ≡ false) → costs_at core (sets ++ (e, v) ∷ []) stage p.columns ≡ costs_at core sets stage p.columns
costs_kept core p sets stage e v other =
    form_same (λ at. nat_eq at stage) (λ j. value_in core (sets ++ (e, v) ∷ []) (Cost j)) (λ j. value_in core sets (Cost j)) 0 p.columns
    (λ j. last_more (Cost j) e (core_value core (Cost j)) v sets ∙ ap (λ b. if b then v else value_in core sets (Cost j)) (other j))

rhs_kept : (core : Core) (sets : Sets) (i : ℕ) (e : Entry) (v : ℚ) → same_entry (Rhs i) e ≡ false → value_in core (sets ++ (e, v) ∷ []) (Rhs i) ≡ value_in core sets (Rhs i)
rhs_kept core sets i e v other = last_more (Rhs i) e (core_value core (Rhs i)) v sets ∙ ap (λ b. if b then v else value_in core sets (Rhs i)) other

entries_kept : (core : Core) (sets : Sets) (i : ℕ) (e : Entry) (v : ℚ) → ((j : ℕ) → same_entry (Matrix i j) e ≡ false) → entries_at core (sets ++ (e, v) ∷ []) i ≡ entries_at core sets i
entries_kept core sets i e v other =
    form_same (λ (column : ColumnDef). true) (λ j. value_in core (sets ++ (e, v) ∷ []) (Matrix i j)) (λ j. value_in core sets (Matrix i j)) 0 core.columns.items
    (λ j. last_more (Matrix i j) e (core_value core (Matrix i j)) v sets ∙ ap (λ b. if b then v else value_in core sets (Matrix i j)) (other j))

row_kept : (core : Core) (sets : Sets) (i : ℕ) (e : Entry) (v : ℚ) → ((j : ℕ) → same_entry (Matrix i j) e ≡ false) → same_entry (Rhs i) e ≡ false → row_values core (sets ++ (e, v) ∷ []) i ≡ row_values core sets i
row_kept core sets i e v a b =
    ap₂ (λ (entries : List Term) (rhs : ℚ). let r : RowValues = record { row = i; entries = entries; rhs = rhs } in r) (entries_kept core sets i e v a) (rhs_kept core sets i e v b)

row_entry : (core : Core) (sets : Sets) (r i k : ℕ) (v : ℚ) → row_values core (sets ++ (Matrix i k, v) ∷ []) r
    ≡ (if nat_eq r i then (if nat_lt k (length core.columns.items) then with_entry k v (row_values core sets r) else row_values core sets r) else row_values core sets r)
row_entry core sets r i k v = go (nat_eq r i) refl (nat_lt k (length core.columns.items)) refl
  where
    here : nat_eq r i ≡ true → entries_at core (sets ++ (Matrix i k, v) ∷ []) r ≡ form_at (λ (column : ColumnDef). true) (changed k v (λ j. value_in core sets (Matrix r j))) 0 core.columns.items
    here is =
        form_same (λ (column : ColumnDef). true) (λ j. value_in core (sets ++ (Matrix i k, v) ∷ []) (Matrix r j)) (changed k v (λ j. value_in core sets (Matrix r j))) 0 core.columns.items
        (λ j. last_more (Matrix r j) (Matrix i k) (core_value core (Matrix r j)) v sets ∙ ap (λ b. if b && nat_eq j k then v else value_in core sets (Matrix r j)) is)

    go : (b : Bool) → nat_eq r i ≡ b → (a : Bool) → nat_lt k (length core.columns.items) ≡ a → row_values core (sets ++ (Matrix i k, v) ∷ []) r
        ≡ (if b then (if a then with_entry k v (row_values core sets r) else row_values core sets r) else row_values core sets r)
    go true is true within =
        ap₂ (λ (entries : List Term) (rhs : ℚ). let x : RowValues = record { row = r; entries = entries; rhs = rhs } in x)
        (here is ∙ form_put (λ (column : ColumnDef). true) (λ j. value_in core sets (Matrix r j)) k v 0 k no_column core.columns.items (omega arith) (grind (arith, nat_tests, within)) refl)
        (rhs_kept core sets r (Matrix i k) v refl)
    go true is false past =
        ap₂ (λ (entries : List Term) (rhs : ℚ). let x : RowValues = record { row = r; entries = entries; rhs = rhs } in x)
        (here is ∙ form_other (λ (column : ColumnDef). true) (λ j. value_in core sets (Matrix r j)) k v 0 no_column core.columns.items
        (λ d below at. absurd (let far : length core.columns.items ≤ k = grind (arith, nat_tests, past) in omega (arith, below, at, far))))
        (rhs_kept core sets r (Matrix i k) v refl)
    go false is a past = row_kept core sets r (Matrix i k) v (λ j. ap (λ b. b && nat_eq j k) is) refl

row_rhs : (core : Core) (sets : Sets) (r i : ℕ) (v : ℚ) → row_values core (sets ++ (Rhs i, v) ∷ []) r ≡ (if nat_eq r i then with_rhs v (row_values core sets r) else row_values core sets r)
row_rhs core sets r i v = go (nat_eq r i) refl
  where
    entries_same : entries_at core (sets ++ (Rhs i, v) ∷ []) r ≡ entries_at core sets r
    entries_same = entries_kept core sets r (Rhs i) v (λ j. refl)

    go : (b : Bool) → nat_eq r i ≡ b → row_values core (sets ++ (Rhs i, v) ∷ []) r ≡ (if b then with_rhs v (row_values core sets r) else row_values core sets r)
    go true is =
        ap₂ (λ (entries : List Term) (rhs : ℚ). let x : RowValues = record { row = r; entries = entries; rhs = rhs } in x) entries_same
        (last_more (Rhs r) (Rhs i) (core_value core (Rhs r)) v sets ∙ ap (λ b. if b then v else value_in core sets (Rhs r)) is)
    go false is =
        ap₂ (λ (entries : List Term) (rhs : ℚ). let x : RowValues = record { row = r; entries = entries; rhs = rhs } in x) entries_same
        (last_more (Rhs r) (Rhs i) (core_value core (Rhs r)) v sets ∙ ap (λ b. if b then v else value_in core sets (Rhs r)) is)

map_same : (f g : ℕ → RowValues) (rows : List ℕ) → ((r : ℕ) → f r ≡ g r) → map f rows ≡ map g rows
map_same f g [] same = refl
map_same f g (r ∷ rows) same = ap₂ (λ (x : RowValues) (xs : List RowValues). x ∷ xs) (same r) (map_same f g rows same)

at_row_map : (i : ℕ) (change : RowValues → RowValues) (core : Core) (sets : Sets) (rows : List ℕ) →
    at_row i change (map (row_values core sets) rows) ≡ map (λ r. if nat_eq r i then change (row_values core sets r) else row_values core sets r) rows
at_row_map i change core sets [] = refl
at_row_map i change core sets (r ∷ rows) = ap (λ (xs : List RowValues). (if nat_eq r i then change (row_values core sets r) else row_values core sets r) ∷ xs) (at_row_map i change core sets rows)

values_by : {cost other : List Term} {rows others : List RowValues} → cost ≡ other → rows ≡ others →
    (let a : Values = record { cost = cost; rows = rows } in a) ≡ (let b : Values = record { cost = other; rows = others } in b)
values_by a b = ap₂ (λ (c : List Term) (r : List RowValues). let x : Values = record { cost = c; rows = r } in x) a b

pub one_set : (core : Core) (p : Stages) (sets : Sets) (stage : ℕ) (e : Entry) (v : ℚ) → values_of core p (sets ++ (e, v) ∷ []) stage ≡ with_set core p stage (values_of core p sets stage) e v
one_set core p sets stage (Cost k) v =
    values_by (costs_set core p sets stage k v) (map_same (row_values core (sets ++ (Cost k, v) ∷ [])) (row_values core sets) (rows_at stage p.rows) (λ r. row_kept core sets r (Cost k) v (λ j. refl) refl))
    ∙ go (nat_lt k (length p.columns) && nat_eq (get_or p.columns k 0) stage)
  where
    go : (b : Bool) → (let a : Values = record { cost = (if b then put_at k v (costs_at core sets stage p.columns) else costs_at core sets stage p.columns); rows = map (row_values core sets) (rows_at stage p.rows) } in a)
        ≡ (if b then record { cost = put_at k v (costs_at core sets stage p.columns); rows = map (row_values core sets) (rows_at stage p.rows) } else values_of core p sets stage)
    go true = refl
    go false = refl
one_set core p sets stage (Matrix i k) v =
    values_by (costs_kept core p sets stage (Matrix i k) v (λ j. refl))
    (map_same (row_values core (sets ++ (Matrix i k, v) ∷ [])) (λ r. if nat_eq r i then (if nat_lt k (length core.columns.items) then with_entry k v (row_values core sets r) else row_values core sets r) else row_values core sets r) (rows_at stage p.rows) (λ r. row_entry core sets r i k v))
    ∙ go (nat_lt k (length core.columns.items))
  where
    plain : (b : Bool) (r : RowValues) → (if b then r else r) ≡ r
    plain true r = refl
    plain false r = refl

    go : (b : Bool) → (let a : Values = record { cost = costs_at core sets stage p.columns; rows = map (λ r. if nat_eq r i then (if b then with_entry k v (row_values core sets r) else row_values core sets r) else row_values core sets r) (rows_at stage p.rows) } in a)
        ≡ (if b then record { cost = costs_at core sets stage p.columns; rows = at_row i (with_entry k v) (map (row_values core sets) (rows_at stage p.rows)) } else values_of core p sets stage)
    go true = values_by refl (sym (at_row_map i (with_entry k v) core sets (rows_at stage p.rows)))
    go false = values_by refl (map_same (λ r. if nat_eq r i then row_values core sets r else row_values core sets r) (row_values core sets) (rows_at stage p.rows) (λ r. plain (nat_eq r i) (row_values core sets r)))
one_set core p sets stage (Rhs i) v =
    values_by (costs_kept core p sets stage (Rhs i) v (λ j. refl))
    (map_same (row_values core (sets ++ (Rhs i, v) ∷ [])) (λ r. if nat_eq r i then with_rhs v (row_values core sets r) else row_values core sets r) (rows_at stage p.rows) (λ r. row_rhs core sets r i v)
    ∙ sym (at_row_map i (with_rhs v) core sets (rows_at stage p.rows)))

-- several, one after another
pub all_sets : (core : Core) (p : Stages) (stage : ℕ) (sets more : Sets) → with_sets core p stage (values_of core p sets stage) more ≡ values_of core p (sets ++ more) stage
all_sets core p stage sets [] = ap (λ (all : Sets). values_of core p all stage) (sym (append-nil sets))
all_sets core p stage sets (pair ∷ more) =
    ap (λ d. with_sets core p stage d more) (sym (one_set core p sets stage pair.0 pair.1))
    ∙ all_sets core p stage (sets ++ pair ∷ []) more
    ∙ ap (λ (all : Sets). values_of core p all stage) (append_assoc sets (pair ∷ []) more)

places_rise : (core : Core) (sets : Sets) (test : ℕ → Bool) (k : ℕ) (xs : List ℕ) → RowsFrom k (map (row_values core sets) (places test k xs))
places_rise core sets test k [] = tt
places_rise core sets test k (x ∷ xs) = go (test x) (places_rise core sets test (suc k) xs)
  where
    lower : (n m : ℕ) (rows : List RowValues) → m ≤ n → RowsFrom n rows → RowsFrom m rows
    lower n m [] h rises = tt
    lower n m (r ∷ rows) h rises = (omega (arith, h, rises.0), rises.1)

    go : (b : Bool) → RowsFrom (suc k) (map (row_values core sets) (places test (suc k) xs)) → RowsFrom k (map (row_values core sets) (elim b [ true ↦ k ∷ places test (suc k) xs | false ↦ places test (suc k) xs ]))
    go true rest = (omega arith, rest)
    go false rest = lower (suc k) k (map (row_values core sets) (places test (suc k) xs)) (omega arith) rest

pub values_rise : (core : Core) (p : Stages) (sets : Sets) (stage : ℕ) → RowsFrom 0 (values_of core p sets stage).rows
values_rise core p sets stage = places_rise core sets (λ at. nat_eq at stage) 0 p.rows
