-- The form that is read off the sums of all columns is that of the walk by column.
use Rattle.std.proofs.Common.{◌≡◌, ℕ, suc, ◌<◌, ◌≤◌, Bool, true, false, ◌||◌, eqb, ltb, List, [], ◌∷◌, ◌++◌, Ok, refl, sym, ap, ap₂, subst, ◌∙◌, arith, eqb-true, append_assoc, append-nil}
use Rattle.std.proofs.lemmas.Bool.{ne_eqb, eqb-false, ltb-true, ltb-false}
use Rattle.rationals.specs.Rational.{ℚ, zero_ℚ, ◌+ℚ◌, add_zero_ℚ, zero_add_ℚ}
use Rattle.rationals.specs.Sparse.{Entry, Ascending, Ascending-weaker, coefficient, value_if}
use Rattle.rationals.specs.Forms.{AllNonzero, IsForm, put, put_unless, is_zero}
use Rattle.rationals.specs.Passes.{then_walk}
use Rattle.rationals.proofs.Lowest.{zero_from_num, num_zero}
use Rattle.rationals.specs.Choices.{pick}
use Rattle.std.specs.Cmp.{signed_Decides}
use Rattle.std.proofs.Common.{pos}
use Rattle.frac128.proofs.FormLemmas.{value_here, value_past, value_none, put_zero}
use Rattle.scen_defs.specs.declared.program.NodeRow.{NodeRow}
use Rattle.scen_defs.specs.Lists.{Each, is_in, NumbersRise}
use Rattle.cut_defs.specs.declared.kinds.CutKind.{CutKind}
use Rattle.cut_defs.specs.declared.kinds.CutKind.TheVariants.{Bound, Ray}
use Rattle.cut_defs.specs.declared.datum.ColumnBounds.{ColumnBounds}
use Rattle.cut_defs.specs.Data.{Datum, IsDatum, is_own}
use Rattle.cut_defs.specs.Stored.{Source, StoredUses, cost_of, form_of}
use Rattle.cut_defs.specs.Stored.StoredUses.{No_stored, Use_stored}
use Rattle.cut_sums.specs.Walks.{union, columns_in, rows_columns, uses_columns, all_columns, earlier_walk, column_walk, form_from}
use Rattle.cut_sums.specs.Tallies.{AreSums, RowsAscend, UsesAscend, outside}
use Rattle.cut_sums.proofs.TallyLaws.{absent}
use Rattle.cut_sums.proofs.Rising.{union_of_form}
use Rattle.cut_sums.proofs.SumEnds.{column_ends}
use Rattle.cut_sums.proofs.FormEnds.{no_slope}

clash : false ≡ true → ⊥
clash e = cc

-- ---- 0 and other numbers
zero_is : (v : ℚ) → is_zero v ≡ true → v ≡ zero_ℚ
zero_is v e = zero_from_num v ((signed_Decides v.num (pos 0)).0 e)

other_is : (v : ℚ) → (v ≡ zero_ℚ → ⊥) → is_zero v ≡ false
other_is v n = go (is_zero v) refl
  where
    go : (b : Bool) → is_zero v ≡ b → b ≡ false
    go true p = absurd (n (zero_is v p))
    go false p = refl

zero_shown : (v : ℚ) → v ≡ zero_ℚ → is_zero v ≡ true
zero_shown v e = (signed_Decides v.num (pos 0)).1 (num_zero v e)

not_zero : (v : ℚ) → is_zero v ≡ false → v ≡ zero_ℚ → ⊥
not_zero v p e = clash (sym p ∙ zero_shown v e)

put_none : (c : ℕ) (v : ℚ) (f : List Entry) → v ≡ zero_ℚ → put c v f ≡ f
put_none c v f e = ap (λ b. put_unless b c v f) (zero_shown v e)

put_front : (c : ℕ) (v : ℚ) (f : List Entry) → put c v [] ++ f ≡ put c v f
put_front c v f = go (is_zero v)
  where
    go : (b : Bool) → put_unless b c v [] ++ f ≡ put_unless b c v f
    go true = refl
    go false = refl

put_coefficient : (c : ℕ) (v : ℚ) (f : List Entry) (j : ℕ) → coefficient (put c v f) j ≡ value_if (eqb c j) v +ℚ coefficient f j
put_coefficient c v f j = go (is_zero v) refl
  where
    none : (b : Bool) → value_if b zero_ℚ ≡ zero_ℚ
    none true = refl
    none false = refl

    go : (z : Bool) → is_zero v ≡ z → coefficient (put_unless z c v f) j ≡ value_if (eqb c j) v +ℚ coefficient f j
    go true p = sym (ap (λ q. q +ℚ coefficient f j) (ap (value_if (eqb c j)) (zero_is v p) ∙ none (eqb c j)) ∙ zero_add_ℚ (coefficient f j))
    go false p = refl

-- ---- what stands outside of the node's own columns
pub outside_one : (own : List ColumnBounds) (e : Entry) (es : List Entry) → outside own (e ∷ es) ≡ outside own (e ∷ []) ++ outside own es
outside_one own e es = go (is_own own e.column)
  where
    go : (b : Bool) → pick b (outside own es) (put e.column e.value (outside own es)) ≡ pick b [] (put e.column e.value []) ++ outside own es
    go true = refl
    go false = sym (put_front e.column e.value (outside own es))

-- one more is looked at
pub outside_next : (own : List ColumnBounds) (done all rest left whole : List Entry) (e : Entry) → left ≡ e ∷ rest → all ≡ done ++ outside own (e ∷ []) → done ++ outside own left ≡ whole → all ++ outside own rest ≡ whole
outside_next own done all rest left whole e read is kept =
    ap (λ l. l ++ outside own rest) is ∙ append_assoc done (outside own (e ∷ [])) (outside own rest) ∙ ap (λ l. done ++ l) (sym (outside_one own e rest)) ∙ ap (λ l. done ++ outside own l) (sym read) ∙ kept

pub kept_term : (own : List ColumnBounds) (c : ℕ) (v : ℚ) → is_own own c ≡ false → (v ≡ zero_ℚ → ⊥) → record { column = c; value = v } ∷ [] ≡ pick (is_own own c) [] (put c v [])
kept_term own c v o n = sym (ap (λ b. pick b [] (put c v [])) o ∙ ap (λ b. put_unless b c v []) (other_is v n))

pub own_term : (own : List ColumnBounds) (c : ℕ) (v : ℚ) (done : List Entry) → is_own own c ≡ true → done ≡ done ++ pick (is_own own c) [] (put c v [])
own_term own c v done o = sym (ap (λ b. done ++ pick b [] (put c v [])) o ∙ append-nil done)

pub zero_term : (own : List ColumnBounds) (c : ℕ) (v : ℚ) (done : List Entry) → v ≡ zero_ℚ → done ≡ done ++ pick (is_own own c) [] (put c v [])
zero_term own c v done e = sym (ap (λ l. done ++ pick (is_own own c) [] l) (put_zero c v e) ∙ go (is_own own c))
  where
    go : (b : Bool) → done ++ pick b [] [] ≡ done
    go true = append-nil done
    go false = append-nil done

-- what is read with its parts
pub kept_as : (own : List ColumnBounds) (x t : Entry) → x ≡ t → is_own own x.column ≡ false → (x.value ≡ zero_ℚ → ⊥) → t ∷ [] ≡ outside own (t ∷ [])
kept_as own x t e o n =
    let c = ap (λ (z : Entry). z.column) e in
    let v = ap (λ (z : Entry). z.value) e in
    kept_term own t.column t.value (ap (is_own own) (sym c) ∙ o) (λ q. n (v ∙ q))

pub own_as : (own : List ColumnBounds) (x t : Entry) (done : List Entry) → x ≡ t → is_own own x.column ≡ true → done ≡ done ++ outside own (t ∷ [])
own_as own x t done e o = own_term own t.column t.value done (ap (λ (z : Entry). is_own own z.column) (sym e) ∙ o)

pub zero_as : (own : List ColumnBounds) (x t : Entry) (done : List Entry) → x ≡ t → x.value ≡ zero_ℚ → done ≡ done ++ outside own (t ∷ [])
zero_as own x t done e z = zero_term own t.column t.value done (ap (λ (y : Entry). y.value) (sym e) ∙ z)

outside_is : (own : List ColumnBounds) (t : List Entry) (j : ℕ) → coefficient (outside own t) j ≡ pick (is_own own j) zero_ℚ (coefficient t j)
outside_is own [] j = go (is_own own j)
  where
    go : (b : Bool) → zero_ℚ ≡ pick b zero_ℚ zero_ℚ
    go true = refl
    go false = refl
outside_is own (e ∷ es) j = go (is_own own e.column) refl (is_own own j) refl (eqb e.column j) refl (outside_is own es j)
  where
    both : (q : Bool) → eqb e.column j ≡ q → q ≡ true → is_own own e.column ≡ is_own own j
    both q p t = ap (is_own own) (eqb-true e.column j (p ∙ t))

    go : (a : Bool) → is_own own e.column ≡ a → (b : Bool) → is_own own j ≡ b → (q : Bool) → eqb e.column j ≡ q → coefficient (outside own es) j ≡ pick b zero_ℚ (coefficient es j)
        → coefficient (pick a (outside own es) (put e.column e.value (outside own es))) j ≡ pick b zero_ℚ (value_if q e.value +ℚ coefficient es j)
    go true oa true ob q p ih = ih
    go true oa false ob true p ih = absurd (clash (sym ob ∙ sym (both true p refl) ∙ oa))
    go true oa false ob false p ih = ih ∙ sym (zero_add_ℚ (coefficient es j))
    go false oa true ob true p ih = absurd (clash (sym oa ∙ both true p refl ∙ ob))
    go false oa true ob false p ih = put_coefficient e.column e.value (outside own es) j ∙ ap (λ b. value_if b e.value +ℚ coefficient (outside own es) j) p ∙ ap (λ q. zero_ℚ +ℚ q) ih ∙ add_zero_ℚ zero_ℚ
    go false oa false ob q p ih = put_coefficient e.column e.value (outside own es) j ∙ ap₂ (λ b z. value_if b e.value +ℚ z) p ih

outside_rises : (own : List ColumnBounds) (n : ℕ) (t : List Entry) → Ascending n t → Ascending n (outside own t)
outside_rises own n [] a = tt
outside_rises own n (e ∷ es) a =
    let rest : Ascending (suc e.column) (outside own es) = outside_rises own (suc e.column) es a.1 in
    let lower : Ascending n (outside own es) = Ascending-weaker (suc e.column) n (outside own es) (let k : n ≤ e.column = a.0 in omega arith) rest in
    go (is_own own e.column) (is_zero e.value) lower rest
  where
    go : (b z : Bool) → Ascending n (outside own es) → Ascending (suc e.column) (outside own es) → Ascending n (pick b (outside own es) (put_unless z e.column e.value (outside own es)))
    go true z lower rest = lower
    go false true lower rest = lower
    go false false lower rest = (a.0, rest)

outside_nonzero : (own : List ColumnBounds) (t : List Entry) → AllNonzero (outside own t)
outside_nonzero own [] = tt
outside_nonzero own (e ∷ es) = go (is_own own e.column) (is_zero e.value) refl (outside_nonzero own es)
  where
    go : (b z : Bool) → is_zero e.value ≡ z → AllNonzero (outside own es) → AllNonzero (pick b (outside own es) (put_unless z e.column e.value (outside own es)))
    go true z p ih = ih
    go false true p ih = ih
    go false false p ih = (not_zero e.value p, ih)

pub outside_form : (own : List ColumnBounds) (t terms : List Entry) → Ascending 0 t → terms ≡ outside own t → IsForm terms
outside_form own t terms a e = subst IsForm (sym e) (record { rises = outside_rises own 0 t a; nonzero = outside_nonzero own t })

-- ---- the numbers of columns as a form
puts : (ℕ → ℚ) → List ℕ → List Entry
puts v [] = []
puts v (j ∷ js) = put j (v j) (puts v js)

walk_puts : (d : Datum) (s : Source) (uses : StoredUses) (v : ℕ → ℚ) (before : List Entry) (js : List ℕ) → ((j : ℕ) → earlier_walk d s uses j ≡ Ok (v j)) → form_from d s uses before js ≡ Ok (before ++ puts v js)
unfolding puts
walk_puts d s uses v before [] h = ap (λ l. Ok l) (sym (append-nil before))
walk_puts d s uses v before (j ∷ js) h =
    ap (λ r. then_walk r (λ q. form_from d s uses (before ++ put j q []) js)) (h j)
    ∙ walk_puts d s uses v (before ++ put j (v j) []) js h
    ∙ ap (λ l. Ok l) (append_assoc before (put j (v j) []) (puts v js) ∙ ap (λ l. before ++ l) (put_front j (v j) (puts v js)))

puts_same : (n : ℕ) (v w : ℕ → ℚ) (js : List ℕ) → NumbersRise n js → ((j : ℕ) → n ≤ j → v j ≡ w j) → puts v js ≡ puts w js
unfolding puts
puts_same n v w [] a h = refl
puts_same n v w (j ∷ js) a h =
    let k : n ≤ j = a.0 in
    ap₂ (λ q l. put j q l) (h j k) (puts_same (suc j) v w js a.1 (λ i l. h i (omega (arith, l, k))))

not_below : (n c : ℕ) (js : List ℕ) → NumbersRise n js → c < n → is_in c js ≡ false
not_below n c [] a h = refl
not_below n c (j ∷ js) a h =
    let k : n ≤ j = a.0 in
    ap₂ (λ x y. x || y) (ne_eqb j c (λ q. absurd (omega (arith, q, h, k)))) (not_below (suc j) c js a.1 (omega (arith, h, k)))

-- a form none of whose values stands beside the columns is that of its numbers there
puts_are : (n m : ℕ) (js : List ℕ) (f : List Entry) → NumbersRise n js → Ascending m f → AllNonzero f → ((c : ℕ) → is_in c js ≡ false → coefficient f c ≡ zero_ℚ) → puts (coefficient f) js ≡ f
unfolding puts
puts_are n m [] [] a r z h = refl
puts_are n m [] (e ∷ f) a r z h = absurd (z.0 (value_here e f e.column m r refl ∙ h e.column refl))
puts_are n m (j ∷ js) [] a r z h = put_none j zero_ℚ (puts (coefficient []) js) refl ∙ puts_are (suc j) m js [] a.1 tt tt (λ c q. refl)
puts_are n m (j ∷ js) (e ∷ f) a r z h = go (eqb e.column j) refl (ltb e.column j) refl
    (λ g. puts_are (suc j) (suc e.column) js f a.1 r.1 z.1 g) (λ g. puts_are (suc j) m js (e ∷ f) a.1 r z g)
  where
    past : (c : ℕ) → (j ≡ c → ⊥) → is_in c js ≡ false → coefficient (e ∷ f) c ≡ zero_ℚ
    past c k q = h c (ap₂ (λ x y. x || y) (ne_eqb j c k) q)

    behind : e.column ≡ j → (c : ℕ) → is_in c js ≡ false → coefficient f c ≡ zero_ℚ
    behind same c q = at (eqb e.column c) refl
      where
        at : (b : Bool) → eqb e.column c ≡ b → coefficient f c ≡ zero_ℚ
        at true p = absent (suc e.column) c f (omega (arith, eqb-true e.column c p)) r.1
        at false p = sym (value_past e f c (eqb-false e.column c p)) ∙ past c (λ k. eqb-false e.column c p (same ∙ k)) q

    before : j < e.column → (c : ℕ) → is_in c js ≡ false → coefficient (e ∷ f) c ≡ zero_ℚ
    before l c q = at (eqb j c) refl
      where
        at : (b : Bool) → eqb j c ≡ b → coefficient (e ∷ f) c ≡ zero_ℚ
        at true p = value_none e f c m r (omega (arith, eqb-true j c p, l))
        at false p = past c (eqb-false j c p) q

    go : (b : Bool) → eqb e.column j ≡ b → (l : Bool) → ltb e.column j ≡ l
        → (((c : ℕ) → is_in c js ≡ false → coefficient f c ≡ zero_ℚ) → puts (coefficient f) js ≡ f)
        → (((c : ℕ) → is_in c js ≡ false → coefficient (e ∷ f) c ≡ zero_ℚ) → puts (coefficient (e ∷ f)) js ≡ e ∷ f)
        → put j (coefficient (e ∷ f) j) (puts (coefficient (e ∷ f)) js) ≡ e ∷ f
    go true p l q rest again =
        let same : e.column ≡ j = eqb-true e.column j p in
        ap₂ (λ v t. put j v t) (sym (value_here e f j m r same)) (puts_same (suc j) (coefficient (e ∷ f)) (coefficient f) js a.1 (λ i k. value_past e f i (λ t. absurd (omega (arith, t, same, k)))) ∙ rest (behind same))
        ∙ ap (λ b. put_unless b j e.value f) (other_is e.value z.0) ∙ ap (λ c. record { column = c; value = e.value } ∷ f) (sym same)
    go false p true q rest again =
        absurd (z.0 (value_here e f e.column m r refl ∙ h e.column (not_below j e.column (j ∷ js) (let k : j ≤ j = omega arith in k, a.1) (ltb-true e.column j q))))
    go false p false q rest again =
        let other : e.column ≡ j → ⊥ = eqb-false e.column j p in
        let l : j < e.column = omega (arith, ltb-false e.column j q, other) in
        put_none j (coefficient (e ∷ f) j) (puts (coefficient (e ∷ f)) js) (value_none e f j m r l) ∙ again (before l)

-- ---- the columns rise
rows_rise : (before : List ℕ) (rs : List NodeRow) → NumbersRise 0 before → RowsAscend rs → NumbersRise 0 (rows_columns before rs)
rows_rise before [] a h = a
rows_rise before (r ∷ rs) a h = rows_rise (union before (columns_in r.entries)) rs (union_of_form before r.entries a h.0) h.1

uses_rise : (before : List ℕ) (uses : StoredUses) → NumbersRise 0 before → UsesAscend uses → NumbersRise 0 (uses_columns before uses)
uses_rise before No_stored a h = a
uses_rise before (Use_stored w cut uses) a h = uses_rise (union before (columns_in (form_of cut))) uses (union_of_form before (form_of cut) a h.0) h.1

pub columns_rise : (rs : List NodeRow) (uses : StoredUses) → RowsAscend rs → UsesAscend uses → NumbersRise 0 (all_columns rs uses)
columns_rise rs uses h g = uses_rise (rows_columns [] rs) uses (rows_rise [] rs tt h) g

-- ---- costs stand in own columns
no_cost : (own : List ColumnBounds) (es : List Entry) (j : ℕ) → Each (λ (e : Entry). is_own own e.column ≡ true) es → is_own own j ≡ false → coefficient es j ≡ zero_ℚ
no_cost own [] j h o = refl
no_cost own (e ∷ es) j h o =
    value_past e es j (λ q. clash (sym o ∙ ap (is_own own) (sym q) ∙ h.0)) ∙ no_cost own es j h.1 o

no_cost_of : (d : Datum) (kind : CutKind) (j : ℕ) → IsDatum d → is_own d.bounds j ≡ false → cost_of d kind j ≡ zero_ℚ
no_cost_of d Bound j i o = no_cost d.bounds d.cost j i.own o
no_cost_of d Ray j i o = refl

-- ---- the form that is read off
pub form_read : (d : Datum) (s : Source) (uses : StoredUses) (tally : List Entry) → IsDatum d → AreSums d s uses tally → NumbersRise 0 (all_columns d.rows uses) → form_from d s uses [] (all_columns d.rows uses) ≡ Ok (outside d.bounds tally)
form_read d s uses tally i sums a =
    walk_puts d s uses (coefficient (outside d.bounds tally)) [] (all_columns d.rows uses) walk
    ∙ ap (λ l. Ok l) (puts_are 0 0 (all_columns d.rows uses) (outside d.bounds tally) a (outside_rises d.bounds 0 tally sums.rises) (outside_nonzero d.bounds tally) nothing)
  where
    walk : (j : ℕ) → earlier_walk d s uses j ≡ Ok (coefficient (outside d.bounds tally) j)
    walk j = go (is_own d.bounds j) refl ∙ ap (λ q. Ok q) (sym (outside_is d.bounds tally j))
      where
        go : (b : Bool) → is_own d.bounds j ≡ b → pick b (Ok zero_ℚ) (column_walk d.rows s.multipliers uses j zero_ℚ) ≡ Ok (pick b zero_ℚ (coefficient tally j))
        go true o = refl
        go false o = ap (λ q. column_walk d.rows s.multipliers uses j q) (sym (no_cost_of d s.kind j i o)) ∙ sums.ends j

    nothing : (c : ℕ) → is_in c (all_columns d.rows uses) ≡ false → coefficient (outside d.bounds tally) c ≡ zero_ℚ
    nothing c n = outside_is d.bounds tally c ∙ go (is_own d.bounds c) refl
      where
        go : (b : Bool) → is_own d.bounds c ≡ b → pick b zero_ℚ (coefficient tally c) ≡ zero_ℚ
        go true o = refl
        go false o =
            column_ends d s uses c (cost_of d s.kind c) (coefficient tally c) (sums.ends c)
            ∙ ap₂ (λ x y. x +ℚ y) (no_cost_of d s.kind c i o) (no_slope d s uses c n) ∙ add_zero_ℚ zero_ℚ

pub form_read_as : (d : Datum) (s : Source) (uses : StoredUses) (tally form : List Entry) → IsDatum d → AreSums d s uses tally → NumbersRise 0 (all_columns d.rows uses) → form ≡ outside d.bounds tally → form_from d s uses [] (all_columns d.rows uses) ≡ Ok form
form_read_as d s uses tally form i sums a e = form_read d s uses tally i sums a ∙ ap (λ l. Ok l) (sym e)
