-- The points and rays of tableaus as forms.
use Rattle.std.proofs.Common.{◌≡◌, ℕ, suc, ◌<◌, ◌≤◌, Bool, true, false, List, [], ◌∷◌, ltb, eqb, refl, sym, ap, ◌∙◌, arith}
use Rattle.std.proofs.lemmas.Bool.{ltb-true, ltb-false, eq-eqb, ne_eqb, eqb-true, eqb-false}
use Rattle.rationals.specs.Rational.{ℚ, zero_ℚ, one_ℚ, ◌+ℚ◌, ◌*ℚ◌, neg_ℚ, by_ring, by_eqs, terms, zero_lt_one_ℚ, ne_of_gt_ℚ}
use Rattle.rationals.specs.Ring.Eqs.{done, by_eq}
use Rattle.rationals.specs.Sums.{sum_ℚ}
use Rattle.rationals.specs.Sparse.{Entry, value_if, product, coefficient, Ascending}
use Rattle.rationals.specs.Forms.{IsForm, AllNonzero}
use Rattle.rationals.specs.Choices.{pick}
use Rattle.lp_defs.specs.Tests.{is_zero, is_zero_true, is_zero_false}
use Rattle.lp_defs.specs.Lines.{value_at}
use Rattle.lp_defs.specs.Path.{Row}
use Rattle.lp_defs.specs.Linear.{AllRows}
use Rattle.lp_defs.specs.Ends.{unit}
use Rattle.lp_defs.specs.Basis.{IsUnits, point, ray}
use Rattle.lp_defs.specs.Trace.{NotIn}
use Rattle.lp_defs.specs.Placed.{placed, placed_nonzero, all_placed, point_form, ray_form, BasicsDiffer}

-- ---- the coefficients
eqb_sym : (a b : ℕ) → eqb a b ≡ eqb b a
eqb_sym a b = go (eqb b a) refl
  where
    go : (t : Bool) → eqb b a ≡ t → eqb a b ≡ t
    go true e = eq-eqb a b (sym (eqb-true b a e))
    go false e = ne_eqb a b (λ h. (let ne : ¬ (b ≡ a) = eqb-false b a e in ne (sym h)))

placed_coefficient : (c k : ℕ) (v : ℚ) (f : List Entry) → coefficient (placed c v f) k ≡ value_if (eqb c k) v +ℚ coefficient f k
placed_coefficient c k v [] = refl
placed_coefficient c k v (d ∷ f) = go (ltb d.column c) (placed_coefficient c k v f)
  where
    go : (b : Bool) → coefficient (placed c v f) k ≡ value_if (eqb c k) v +ℚ coefficient f k → coefficient (pick b (d ∷ placed c v f) (record { column = c; value = v } ∷ d ∷ f)) k ≡ value_if (eqb c k) v +ℚ (value_if (eqb d.column k) d.value +ℚ coefficient f k)
    go true ih = by_eqs (value_if (eqb d.column k) d.value ∷ value_if (eqb c k) v ∷ coefficient f k ∷ coefficient (placed c v f) k ∷ []) (by_eq one_ℚ ih done) (search terms depth 40) tt
    go false ih = refl

value_if_times : (b : Bool) (v : ℚ) → value_if b v ≡ v *ℚ value_if b one_ℚ
value_if_times true v = by_ring (v ∷ []) (search terms depth 40) tt
value_if_times false v = by_ring (v ∷ []) (search terms depth 40) tt

nonzero_coefficient : (c k : ℕ) (v : ℚ) (f : List Entry) → coefficient (placed_nonzero c v f) k ≡ v *ℚ unit c k +ℚ coefficient f k
nonzero_coefficient c k v f = go (is_zero v) refl
  where
    there : value_if (eqb c k) v ≡ v *ℚ unit c k
    there = value_if_times (eqb c k) v ∙ ap (λ (b : Bool). v *ℚ value_if b one_ℚ) (eqb_sym c k)

    go : (b : Bool) → is_zero v ≡ b → coefficient (pick b f (placed c v f)) k ≡ v *ℚ unit c k +ℚ coefficient f k
    go true e = by_eqs (v ∷ unit c k ∷ coefficient f k ∷ []) (by_eq (neg_ℚ (unit c k)) (is_zero_true v e) done) (search terms depth 40) tt
    go false e = placed_coefficient c k v f ∙ ap (λ (w : ℚ). w +ℚ coefficient f k) there

all_coefficient : (v : Row → ℚ) (rows : List Row) (f : List Entry) (k : ℕ) → coefficient (all_placed v rows f) k ≡ sum_ℚ (λ (r : Row). v r *ℚ unit r.basic k) rows +ℚ coefficient f k
all_coefficient v [] f k = by_ring (coefficient f k ∷ []) (search terms depth 40) tt
all_coefficient v (r ∷ rows) f k =
    by_eqs (v r ∷ unit r.basic k ∷ sum_ℚ (λ (r : Row). v r *ℚ unit r.basic k) rows ∷ coefficient f k ∷ coefficient (placed_nonzero r.basic (v r) f) k ∷ coefficient (all_placed v rows (placed_nonzero r.basic (v r) f)) k ∷ [])
    (by_eq one_ℚ (all_coefficient v rows (placed_nonzero r.basic (v r) f) k) (by_eq one_ℚ (nonzero_coefficient r.basic k (v r) f) done)) (search terms depth 40) tt

pub point_form_is : (rows : List Row) (k : ℕ) → coefficient (point_form rows) k ≡ point rows k
point_form_is rows k = all_coefficient (λ r. r.line.right) rows [] k ∙ by_ring (point rows k ∷ []) (search terms depth 40) tt

ray_sum : (j k : ℕ) (rows : List Row) → ray j rows k ≡ sum_ℚ (λ (r : Row). neg_ℚ (value_at r.line.entries j) *ℚ unit r.basic k) rows +ℚ unit j k
ray_sum j k [] = by_ring (unit j k ∷ []) (search terms depth 40) tt
ray_sum j k (r ∷ rows) =
    by_eqs (value_at r.line.entries j ∷ unit r.basic k ∷ unit j k ∷ sum_ℚ (λ (r : Row). neg_ℚ (value_at r.line.entries j) *ℚ unit r.basic k) rows ∷ ray j rows k ∷ []) (by_eq one_ℚ (ray_sum j k rows) done) (search terms depth 40) tt

pub ray_form_is : (j : ℕ) (rows : List Row) (k : ℕ) → coefficient (ray_form j rows) k ≡ ray j rows k
ray_form_is j rows k =
    let s : ℚ = sum_ℚ (λ (r : Row). neg_ℚ (value_at r.line.entries j) *ℚ unit r.basic k) rows in
    all_coefficient (λ r. neg_ℚ (value_at r.line.entries j)) rows (record { column = j; value = one_ℚ } ∷ []) k
    ∙ ap (λ (b : Bool). s +ℚ (value_if b one_ℚ +ℚ zero_ℚ)) (eqb_sym j k)
    ∙ by_eqs (unit j k ∷ sum_ℚ (λ (r : Row). neg_ℚ (value_at r.line.entries j) *ℚ unit r.basic k) rows ∷ ray j rows k ∷ []) (by_eq (neg_ℚ one_ℚ) (ray_sum j k rows) done) (search terms depth 40) tt

-- ---- they are forms

-- the column is not there
abbrev Absent : ℕ → List Entry → Type 0
Absent c [] = Unit {0}
Absent c (d ∷ f) = (d.column ≡ c → ⊥) × Absent c f

absent_placed : (c b : ℕ) (v : ℚ) (f : List Entry) → (b ≡ c → ⊥) → Absent c f → Absent c (placed b v f)
absent_placed c b v [] ne h = (ne, tt)
absent_placed c b v (d ∷ f) ne h = go (ltb d.column b) (absent_placed c b v f ne h.1)
  where
    go : (t : Bool) → Absent c (placed b v f) → Absent c (pick t (d ∷ placed b v f) (record { column = b; value = v } ∷ d ∷ f))
    go true ih = (h.0, ih)
    go false ih = (ne, h)

placed_rises : (n c : ℕ) (v : ℚ) (f : List Entry) → n ≤ c → Absent c f → Ascending n f → Ascending n (placed c v f)
placed_rises n c v [] le h a = (le, tt)
placed_rises n c v (d ∷ f) le h a = go (ltb d.column c) refl (λ k. placed_rises (suc d.column) c v f k h.1 a.1)
  where
    go : (b : Bool) → ltb d.column c ≡ b → (suc d.column ≤ c → Ascending (suc d.column) (placed c v f)) → Ascending n (pick b (d ∷ placed c v f) (record { column = c; value = v } ∷ d ∷ f))
    go true e ih = (a.0, ih (let k : d.column < c = ltb-true d.column c e in omega arith))
    go false e ih = (le, ((let k : c ≤ d.column = ltb-false d.column c e in let ne : ¬ (d.column ≡ c) = h.0 in omega arith), a.1))

placed_full : (c : ℕ) (v : ℚ) (f : List Entry) → (v ≡ zero_ℚ → ⊥) → AllNonzero f → AllNonzero (placed c v f)
placed_full c v [] ne h = (ne, tt)
placed_full c v (d ∷ f) ne h = go (ltb d.column c) (placed_full c v f ne h.1)
  where
    go : (b : Bool) → AllNonzero (placed c v f) → AllNonzero (pick b (d ∷ placed c v f) (record { column = c; value = v } ∷ d ∷ f))
    go true ih = (h.0, ih)
    go false ih = (ne, h)

-- a form without the basic columns of the rows
record Apart (rows : List Row) (f : List Entry) : Type 0 where
  form : IsForm f
  absent : AllRows (λ r. Absent r.basic f) rows

absent_later : (b : ℕ) (v : ℚ) (f : List Entry) (rows : List Row) → NotIn b rows → AllRows (λ r. Absent r.basic f) rows → AllRows (λ r. Absent r.basic (placed b v f)) rows
absent_later b v f [] n h = tt
absent_later b v f (r ∷ rows) n h = (absent_placed r.basic b v f (λ e. n.0 (sym e)) h.0, absent_later b v f rows n.1 h.1)

apart_next : (r : Row) (rows : List Row) (v : ℚ) (f : List Entry) → NotIn r.basic rows → Apart (r ∷ rows) f → Apart rows (placed_nonzero r.basic v f)
apart_next r rows v f n h = go (is_zero v) refl
  where
    go : (b : Bool) → is_zero v ≡ b → Apart rows (pick b f (placed r.basic v f))
    go true e = record { form = h.form; absent = h.absent.1 }
    go false e = record {
      form = record { rises = placed_rises 0 r.basic v f (omega arith) h.absent.0 h.form.rises; nonzero = placed_full r.basic v f (is_zero_false v e) h.form.nonzero };
      absent = absent_later r.basic v f rows n h.absent.1;
    }

all_form : (v : Row → ℚ) (rows : List Row) (f : List Entry) → BasicsDiffer rows → Apart rows f → IsForm (all_placed v rows f)
all_form v [] f b h = h.form
all_form v (r ∷ rows) f b h = all_form v rows (placed_nonzero r.basic (v r) f) b.1 (apart_next r rows (v r) f b.0 h)

absent_nowhere : (rows : List Row) → AllRows (λ r. Absent r.basic []) rows
absent_nowhere [] = tt
absent_nowhere (r ∷ rows) = (tt, absent_nowhere rows)

pub point_is_form : (rows : List Row) → BasicsDiffer rows → IsForm (point_form rows)
point_is_form rows b = all_form (λ r. r.line.right) rows [] b (record { form = record { rises = tt; nonzero = tt }; absent = absent_nowhere rows })

absent_one : (j : ℕ) (rows : List Row) → NotIn j rows → AllRows (λ r. Absent r.basic (record { column = j; value = one_ℚ } ∷ [])) rows
absent_one j [] n = tt
absent_one j (r ∷ rows) n = (((λ e. n.0 (sym e)), tt), absent_one j rows n.1)

pub ray_is_form : (j : ℕ) (rows : List Row) → BasicsDiffer rows → NotIn j rows → IsForm (ray_form j rows)
ray_is_form j rows b n = all_form (λ r. neg_ℚ (value_at r.line.entries j)) rows (record { column = j; value = one_ℚ } ∷ []) b
    (record { form = record { rises = (omega arith, tt); nonzero = (ne_of_gt_ℚ zero_lt_one_ℚ, tt) }; absent = absent_one j rows n })

-- ---- the basic columns of a tableau in order differ
apart_from : (f : List Entry) (b : ℕ) (rows : List Row) → product f (unit b) ≡ one_ℚ → AllRows (λ s. product f (unit s.basic) ≡ zero_ℚ) rows → NotIn b rows
apart_from f b [] h z = tt
apart_from f b (s ∷ rows) h z = ((λ e. ne_of_gt_ℚ zero_lt_one_ℚ (sym h ∙ ap (λ (c : ℕ). product f (unit c)) (sym e) ∙ z.0)), apart_from f b rows h z.1)

pub basics_differ : (rows : List Row) → IsUnits rows → BasicsDiffer rows
basics_differ [] u = tt
basics_differ (r ∷ rows) u = (apart_from r.line.entries r.basic rows u.0 u.1, basics_differ rows u.3)
