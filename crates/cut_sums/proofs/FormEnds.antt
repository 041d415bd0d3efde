-- The form that the walk of a cut comes to.
use Rattle.std.proofs.Common.{◌≡◌, ℕ, suc, ◌≤◌, ◌<◌, Bool, true, false, ◌||◌, eqb, ltb, List, [], ◌∷◌, ◌++◌, Ok, inl, inr, refl, sym, ap, ap₂, ◌∙◌, arith, pos}
use Rattle.std.proofs.lemmas.Bool.{eq-eqb, ne_eqb, eqb-false, ltb-false}
use Rattle.std.proofs.Common.{eqb-true}
use Rattle.std.specs.Cmp.{signed_Decides}
use Rattle.rationals.specs.Rational.{ℚ, zero_ℚ, one_ℚ, ◌+ℚ◌, ◌-ℚ◌, ◌*ℚ◌, by_eqs, by_ring, terms, add_zero_ℚ, zero_add_ℚ, zero_mul_ℚ, mul_zero_ℚ}
use Rattle.rationals.specs.Ring.Eqs.{done, by_eq}
use Rattle.rationals.specs.Sums.{sum_ℚ}
use Rattle.rationals.specs.Sparse.{Entry, coefficient, value_if}
use Rattle.rationals.specs.Forms.{put, put_unless, is_zero}
use Rattle.rationals.proofs.Lowest.{zero_from_num}
use Rattle.rationals.specs.Choices.{pick}
use Rattle.scen_defs.specs.declared.program.NodeRow.{NodeRow}
use Rattle.scen_defs.specs.Lists.{Each, Once, Absent, is_in, NumbersRise}
use Rattle.scen_defs.proofs.SumLaws.{sum-pick, sum-none}
use Rattle.rationals.proofs.WalkLaws.{ended}
use Rattle.cut_defs.specs.declared.datum.ColumnBounds.{ColumnBounds}
use Rattle.cut_defs.specs.Data.{Datum, is_own}
use Rattle.cut_defs.specs.Stored.{Source, StoredUses, form_sum, slope_of, form_of, IsEarlier}
use Rattle.cut_defs.specs.Stored.StoredUses.{No_stored, Use_stored}
use Rattle.cut_defs.proofs.Merges.{neither}
use Rattle.cut_sums.specs.Walks.{column_walk, union_at, union, columns_in, rows_columns, uses_columns, all_columns, earlier_walk, form_from}
use Rattle.cut_sums.proofs.SumEnds.{column_ends}

-- ---- a column that is written
early : Datum → Source → StoredUses → ℕ → ℚ
early d s uses j = pick (is_own d.bounds j) zero_ℚ (slope_of d s uses j)

early_ends : (d : Datum) (s : Source) (uses : StoredUses) (j : ℕ) (q : ℚ) → earlier_walk d s uses j ≡ Ok q → q ≡ early d s uses j
unfolding early
early_ends d s uses j q e = go (is_own d.bounds j) e
  where
    go : (b : Bool) → pick b (Ok zero_ℚ) (column_walk d.rows s.multipliers uses j zero_ℚ) ≡ Ok q → q ≡ pick b zero_ℚ (slope_of d s uses j)
    go true e = let r : q ≡ zero_ℚ = cc in r
    go false e = column_ends d s uses j zero_ℚ q e ∙ zero_add_ℚ (slope_of d s uses j)

pub coefficient_append : (f g : List Entry) (j : ℕ) → coefficient (f ++ g) j ≡ coefficient f j +ℚ coefficient g j
coefficient_append [] g j = sym (zero_add_ℚ (coefficient g j))
coefficient_append (e ∷ f) g j = by_eqs (value_if (eqb e.column j) e.value ∷ coefficient f j ∷ coefficient g j ∷ coefficient (f ++ g) j ∷ []) (by_eq one_ℚ (coefficient_append f g j) done) (search terms depth 40) tt

pub coefficient_put : (c : ℕ) (q : ℚ) (j : ℕ) → coefficient (put c q []) j ≡ value_if (eqb c j) q
coefficient_put c q j = go (is_zero q) refl
  where
    none : (b : Bool) → zero_ℚ ≡ value_if b zero_ℚ
    none true = refl
    none false = refl

    go : (z : Bool) → is_zero q ≡ z → coefficient (put_unless z c q []) j ≡ value_if (eqb c j) q
    go true e = let z : q ≡ zero_ℚ = zero_from_num q ((signed_Decides q.num (pos 0)).0 e) in none (eqb c j) ∙ ap (value_if (eqb c j)) (sym z)
    go false e = add_zero_ℚ (value_if (eqb c j) q)

form_ends : (d : Datum) (s : Source) (uses : StoredUses) (before : List Entry) (cs : List ℕ) (f : List Entry) (j : ℕ) → form_from d s uses before cs ≡ Ok f → coefficient f j ≡ coefficient before j +ℚ sum_ℚ (λ c. value_if (eqb c j) (early d s uses c)) cs
form_ends d s uses before [] f j e = let r : f ≡ before = cc in ap (λ g. coefficient g j) r ∙ sym (add_zero_ℚ (coefficient before j))
form_ends d s uses before (c ∷ cs) f j e =
    let one = ended (earlier_walk d s uses c) (λ q. form_from d s uses (before ++ put c q []) cs) f e in
    let v : one.result ≡ early d s uses c = early_ends d s uses c one.result one.first_is in
    let i : coefficient f j ≡ coefficient (before ++ put c one.result []) j +ℚ sum_ℚ (λ c. value_if (eqb c j) (early d s uses c)) cs = form_ends d s uses (before ++ put c one.result []) cs f j one.next_is in
    let a : coefficient (before ++ put c one.result []) j ≡ coefficient before j +ℚ coefficient (put c one.result []) j = coefficient_append before (put c one.result []) j in
    let p : coefficient (put c one.result []) j ≡ value_if (eqb c j) (early d s uses c) = coefficient_put c one.result j ∙ ap (value_if (eqb c j)) v in
    by_eqs (coefficient f j ∷ coefficient (before ++ put c one.result []) j ∷ coefficient before j ∷ coefficient (put c one.result []) j ∷ value_if (eqb c j) (early d s uses c) ∷ sum_ℚ (λ c. value_if (eqb c j) (early d s uses c)) cs ∷ []) (by_eq one_ℚ i (by_eq one_ℚ a (by_eq one_ℚ p done))) (search terms depth 40) tt

-- ---- a number in lists that rise stands there once
absent_below : (n j : ℕ) (xs : List ℕ) → NumbersRise n xs → j < n → Absent j xs
absent_below n j [] a h = tt
absent_below n j (x ∷ xs) a h = let k : n ≤ x = a.0 in ((λ e. absurd (omega arith)), absent_below (suc x) j xs a.1 (omega arith))

once : (n j : ℕ) (xs : List ℕ) → NumbersRise n xs → is_in j xs ≡ true → Once j xs
once n j [] a e = absurd (cc)
once n j (x ∷ xs) a e = go (eqb x j) refl e (once (suc x) j xs a.1)
  where
    go : (b : Bool) → eqb x j ≡ b → (b || is_in j xs) ≡ true → (is_in j xs ≡ true → Once j xs) → Once j (x ∷ xs)
    go true p e rest = let q : x ≡ j = eqb-true x j p in inl (q, absent_below (suc x) j xs a.1 (omega arith))
    go false p e rest = inr (eqb-false x j p, rest e)

nowhere : (g : ℕ → ℚ) (j : ℕ) (xs : List ℕ) → is_in j xs ≡ false → Each (λ x. value_if (eqb x j) (g x) ≡ zero_ℚ) xs
nowhere g j [] e = tt
nowhere g j (x ∷ xs) e = let n = neither (eqb x j) (is_in j xs) e in (ap (λ b. value_if b (g x)) n.0, nowhere g j xs n.1)

others : (g : ℕ → ℚ) (j : ℕ) (xs : List ℕ) → Each (λ x. (x ≡ j → ⊥) → value_if (eqb x j) (g x) ≡ zero_ℚ) xs
others g j [] = tt
others g j (x ∷ xs) = ((λ n. ap (λ b. value_if b (g x)) (ne_eqb x j n)), others g j xs)

-- ---- a column that stands in no list
or_in : (a x y z : Bool) → x ≡ (y || z) → (a || x) ≡ ((a || y) || z)
or_in true x y z e = refl
or_in false x y z e = e

or_out : (a b x y : Bool) → x ≡ (a || y) → (b || x) ≡ (a || (b || y))
or_out a true x y e = sym (one a)
  where
    one : (c : Bool) → (c || true) ≡ true
    one true = refl
    one false = refl
or_out a false x y e = e

or_same : (a b x y z : Bool) → a ≡ b → x ≡ (y || z) → (a || x) ≡ ((a || y) || (b || z))
or_same true true x y z e f = refl
or_same false false x y z e f = f
or_same true false x y z e f = absurd (cc)
or_same false true x y z e f = absurd (cc)

in_at : (j x : ℕ) (xs : List ℕ) → ((ys : List ℕ) → is_in j (union xs ys) ≡ (is_in j xs || is_in j ys)) → (ys : List ℕ) → is_in j (union_at x (union xs) ys) ≡ (is_in j (x ∷ xs) || is_in j ys)
in_at j x xs ih [] = or_in (eqb x j) (is_in j (union xs [])) (is_in j xs) false (ih [])
in_at j x xs ih (y ∷ ys) = go (ltb x y) refl (ltb y x) refl (in_at j x xs ih ys)
  where
    go : (s : Bool) → ltb x y ≡ s → (u : Bool) → ltb y x ≡ u → is_in j (union_at x (union xs) ys) ≡ (is_in j (x ∷ xs) || is_in j ys)
        → is_in j (elim s [ true ↦ x ∷ union xs (y ∷ ys) | false ↦ elim u [ true ↦ y ∷ union_at x (union xs) ys | false ↦ x ∷ union xs ys ] ]) ≡ (is_in j (x ∷ xs) || is_in j (y ∷ ys))
    go true p u q inner = or_in (eqb x j) _ (is_in j xs) (is_in j (y ∷ ys)) (ih (y ∷ ys))
    go false p true q inner = or_out (is_in j (x ∷ xs)) (eqb y j) _ (is_in j ys) inner
    go false p false q inner = or_same (eqb x j) (eqb y j) _ (is_in j xs) (is_in j ys) (let e : x ≡ y = omega (arith, ltb-false x y p, ltb-false y x q) in ap (λ (z : ℕ). eqb z j) e) (ih ys)

in_union : (j : ℕ) (xs ys : List ℕ) → is_in j (union xs ys) ≡ (is_in j xs || is_in j ys)
in_union j [] ys = refl
in_union j (x ∷ xs) ys = in_at j x xs (in_union j xs) ys

not_in_form : (j : ℕ) (f : List Entry) → is_in j (columns_in f) ≡ false → coefficient f j ≡ zero_ℚ
not_in_form j [] e = refl
not_in_form j (d ∷ f) e = let n = neither (eqb d.column j) (is_in j (columns_in f)) e in ap₂ (λ b z. value_if b d.value +ℚ z) n.0 (not_in_form j f n.1) ∙ add_zero_ℚ zero_ℚ

not_in_rows : (j : ℕ) (before : List ℕ) (rs : List NodeRow) → is_in j (rows_columns before rs) ≡ false → (is_in j before ≡ false) × Each (λ (r : NodeRow). coefficient r.entries j ≡ zero_ℚ) rs
not_in_rows j before [] e = (e, tt)
not_in_rows j before (r ∷ rs) e =
    let i = not_in_rows j (union before (columns_in r.entries)) rs e in
    let n = neither (is_in j before) (is_in j (columns_in r.entries)) (sym (in_union j before (columns_in r.entries)) ∙ i.0) in
    (n.0, (not_in_form j r.entries n.1, i.1))

not_in_uses : (j : ℕ) (before : List ℕ) (uses : StoredUses) → is_in j (uses_columns before uses) ≡ false → (is_in j before ≡ false) × (form_sum uses j ≡ zero_ℚ)
not_in_uses j before No_stored e = (e, refl)
not_in_uses j before (Use_stored w cut uses) e =
    let i = not_in_uses j (union before (columns_in (form_of cut))) uses e in
    let n = neither (is_in j before) (is_in j (columns_in (form_of cut))) (sym (in_union j before (columns_in (form_of cut))) ∙ i.0) in
    (n.0, ap₂ (λ x y. w *ℚ x +ℚ y) (not_in_form j (form_of cut) n.1) i.1 ∙ add_zero_ℚ (w *ℚ zero_ℚ) ∙ mul_zero_ℚ w)

no_products : (y : ℕ → ℚ) (j : ℕ) (rs : List NodeRow) → Each (λ (r : NodeRow). coefficient r.entries j ≡ zero_ℚ) rs → sum_ℚ (λ (r : NodeRow). coefficient r.entries j *ℚ y r.row) rs ≡ zero_ℚ
no_products y j [] h = refl
no_products y j (r ∷ rs) h = ap₂ (λ a b. a *ℚ y r.row +ℚ b) h.0 (no_products y j rs h.1) ∙ add_zero_ℚ (zero_ℚ *ℚ y r.row) ∙ zero_mul_ℚ (y r.row)

pub no_slope : (d : Datum) (s : Source) (uses : StoredUses) (j : ℕ) → is_in j (all_columns d.rows uses) ≡ false → slope_of d s uses j ≡ zero_ℚ
no_slope d s uses j e =
    let u = not_in_uses j (rows_columns [] d.rows) uses e in
    let r = not_in_rows j [] d.rows u.0 in
    ap₂ (λ a b. a -ℚ b) u.1 (no_products (coefficient s.multipliers) j d.rows r.1) ∙ by_ring [] (search terms depth 40) tt

not_own : (bs : List ColumnBounds) (j : ℕ) → IsEarlier bs j → is_own bs j ≡ false
not_own [] j h = refl
not_own (b ∷ bs) j h = ap₂ ◌||◌ (ne_eqb b.column j h.0) (not_own bs j h.1)

-- ---- the form is the slope at each column that isn't the node's own
pub form_is : (d : Datum) (s : Source) (uses : StoredUses) (f : List Entry) → NumbersRise 0 (all_columns d.rows uses) → form_from d s uses [] (all_columns d.rows uses) ≡ Ok f → (j : ℕ) → IsEarlier d.bounds j → coefficient f j ≡ slope_of d s uses j
unfolding early
form_is d s uses f a e j h = form_ends d s uses [] (all_columns d.rows uses) f j e ∙ zero_add_ℚ _ ∙ go (is_in j (all_columns d.rows uses)) refl
  where
    go : (b : Bool) → is_in j (all_columns d.rows uses) ≡ b → sum_ℚ (λ c. value_if (eqb c j) (early d s uses c)) (all_columns d.rows uses) ≡ slope_of d s uses j
    go true p = sum-pick j (λ c. value_if (eqb c j) (early d s uses c)) (all_columns d.rows uses) (once 0 j (all_columns d.rows uses) a p) (others (early d s uses) j (all_columns d.rows uses))
        ∙ ap₂ (λ x y. value_if x (pick y zero_ℚ (slope_of d s uses j))) (eq-eqb j j refl) (not_own d.bounds j h)
    go false p = sum-none (λ c. value_if (eqb c j) (early d s uses c)) (all_columns d.rows uses) (nowhere (early d s uses) j (all_columns d.rows uses) p) ∙ sym (no_slope d s uses j p)
