-- The start of a phase, and the duals at its end.
use Rattle.std.proofs.Common.{◌≡◌, ℕ, ◌<◌, length, List, [], ◌∷◌, ◌++◌, None, Ok, refl, sym, ap, ap₂, ◌∙◌, subst}
use Rattle.std.proofs.lemmas.List.{append-nil, append_assoc}
use Rattle.rationals.specs.Rational.{ℚ, zero_ℚ, one_ℚ, ◌-ℚ◌, neg_ℚ, ◌≤ℚ◌, by_ring, by_eqs, by_linear, terms}
use Rattle.rationals.specs.Ring.Eqs.{done, by_eq}
use Rattle.rationals.specs.Ring.Given.{fact, equal, nothing}
use Rattle.rationals.specs.Sums.{dot, add_rows, scale_row}
use Rattle.lp_defs.specs.Walks.{after_ok}
use Rattle.rationals.specs.Sparse.{Entry, product, Ascending}
use Rattle.lp_defs.specs.Lines.{Line, value_at, cleared_form}
use Rattle.lp_defs.specs.Path.{Row, Tableau, entering, pivoted, row_at}
use Rattle.lp_defs.specs.Linear.{AllLines, AllRows, FormLess, Combines, Prices, Solves, values, rights}
use Rattle.lp_defs.specs.Ends.{IsDualOf, unit}
use Rattle.lp_defs.specs.Basis.{IsUnits, point}
use Rattle.lp_defs.specs.Phases.{priced}
use Rattle.lp_defs.proofs.Linear.{cleared_form_is}
use Rattle.lp_defs.proofs.Rows.{less_prices, pivots, tied_pivot}
use Rattle.lp_defs.proofs.Rising.{form_rises}
use Rattle.lp_defs.proofs.Best.{none_enters}
use Rattle.lp_defs.proofs.Basic.{value_is, basic_driven, point_cost, unchanged, gone, Both}
use Rattle.lp_defs.proofs.Rays.{reads, reads_same, values_long, rights_long, AsLong, unit_range}

abbrev pub Spans : List Row → Line → Type 0
Spans rows line = (y : List ℚ) × Combines rows y line

priced_step : (cost : List Entry) (r : Row) (rs : List Row) (form o : List Entry) → priced cost (r ∷ rs) form ≡ Ok o → (next : List Entry) × (cleared_form (value_at cost r.basic) r.line.entries form ≡ Ok next) × (priced cost rs next ≡ Ok o)
priced_step cost r rs form o e = after_ok (cleared_form (value_at cost r.basic) r.line.entries form) (λ next. priced cost rs next) o e

priced_prices : (cost : List Entry) (rows rs : List Row) (y : List ℚ) (form o : List Entry) → Prices cost rows y form → AllLines (Spans rows) rs → priced cost rs form ≡ Ok o → (z : List ℚ) × Prices cost rows z o
priced_prices cost rows [] y form o p s e = let h : form ≡ o = cc in (y, subst (Prices cost rows y) h p)
priced_prices cost rows (r ∷ rs) y form o p s e =
    let u = priced_step cost r rs form o e in
    priced_prices cost rows rs (add_rows y (scale_row (value_at cost r.basic) s.0.0)) u.0 o
    (less_prices cost rows y s.0.0 (value_at cost r.basic) form u.0 r.line (cleared_form_is (value_at cost r.basic) r.line.entries form u.0 u.1) p s.0.1) s.1 u.2

priced_rises : (cost : List Entry) (rs : List Row) (form o : List Entry) → Ascending 0 form → AllLines (λ line. Ascending 0 line.entries) rs → priced cost rs form ≡ Ok o → Ascending 0 o
priced_rises cost [] form o h s e = let k : form ≡ o = cc in subst (Ascending 0) k h
priced_rises cost (r ∷ rs) form o h s e =
    let u = priced_step cost r rs form o e in
    priced_rises cost rs u.0 o (form_rises (value_at cost r.basic) r.line.entries form u.0 s.0 h u.1) s.1 u.2

rows_push : (P : Row → Type 0) (d : List Row) (r : Row) → AllRows P d → P r → AllRows P (d ++ r ∷ [])
rows_push P [] r h k = (k, tt)
rows_push P (x ∷ d) r h k = (h.0, rows_push P d r h.1 k)

pub rows_map : (P Q : Row → Type 0) (rows : List Row) → ((r : Row) → P r → Q r) → AllRows P rows → AllRows Q rows
rows_map P Q [] f h = tt
rows_map P Q (r ∷ rows) f h = (f r h.0, rows_map P Q rows f h.1)

pub rows_zip : (P Q R : Row → Type 0) (rows : List Row) → ((r : Row) → P r → Q r → R r) → AllRows P rows → AllRows Q rows → AllRows R rows
rows_zip P Q R [] f h k = tt
rows_zip P Q R (r ∷ rows) f h k = (f r h.0 k.0, rows_zip P Q R rows f h.1 k.1)

-- the rows of d are priced, those of rs are not yet
priced_zero : (cost : List Entry) (d rs : List Row) (form o : List Entry) → AllRows (λ s. product form (unit s.basic) ≡ zero_ℚ) d → AllRows (λ s. product form (unit s.basic) ≡ value_at cost s.basic) rs
    → AllRows (λ s. AllRows (λ r. product r.line.entries (unit s.basic) ≡ zero_ℚ) rs) d → IsUnits rs → priced cost rs form ≡ Ok o → AllRows (λ s. product o (unit s.basic) ≡ zero_ℚ) (d ++ rs)
priced_zero cost d [] form o a b c u e = let h : form ≡ o = cc in subst (AllRows (λ s. product o (unit s.basic) ≡ zero_ℚ)) (sym (append-nil d)) (subst (λ (x : List Entry). AllRows (λ s. product x (unit s.basic) ≡ zero_ℚ) d) h a)
priced_zero cost d (r ∷ rs) form o a b c u e =
    let w = priced_step cost r rs form o e in
    let l : FormLess (value_at cost r.basic) form r.line.entries w.0 = cleared_form_is (value_at cost r.basic) r.line.entries form w.0 w.1 in
    let old : AllRows (λ s. product w.0 (unit s.basic) ≡ zero_ℚ) d =
    rows_zip (λ s. product form (unit s.basic) ≡ zero_ℚ) (λ s. AllRows (λ r. product r.line.entries (unit s.basic) ≡ zero_ℚ) (r ∷ rs)) (λ s. product w.0 (unit s.basic) ≡ zero_ℚ) d
    (λ s p q. unchanged (value_at cost r.basic) form r.line.entries w.0 (unit s.basic) zero_ℚ l q.0 p) a c in
    let rest : AllRows (λ s. product w.0 (unit s.basic) ≡ value_at cost s.basic) rs =
    rows_zip (λ s. product form (unit s.basic) ≡ value_at cost s.basic) (λ s. product r.line.entries (unit s.basic) ≡ zero_ℚ) (λ s. product w.0 (unit s.basic) ≡ value_at cost s.basic) rs
    (λ s p q. unchanged (value_at cost r.basic) form r.line.entries w.0 (unit s.basic) (value_at cost s.basic) l q p) b.1 u.1 in
    subst (AllRows (λ s. product o (unit s.basic) ≡ zero_ℚ)) (append_assoc d (r ∷ []) rs)
    (priced_zero cost (d ++ r ∷ []) rs w.0 o (rows_push (λ s. product w.0 (unit s.basic) ≡ zero_ℚ) d r old (gone form r.line.entries w.0 (unit r.basic) (value_at cost r.basic) l u.0 b.0)) rest
    (rows_push (λ s. AllRows (λ x. product x.line.entries (unit s.basic) ≡ zero_ℚ) rs) d r (rows_map (λ s. AllRows (λ x. product x.line.entries (unit s.basic) ≡ zero_ℚ) (r ∷ rs)) (λ s. AllRows (λ x. product x.line.entries (unit s.basic) ≡ zero_ℚ) rs) d (λ s q. q.1) c) u.2) u.3 w.2)

costs_at : (cost : List Entry) (rows : List Row) → Ascending 0 cost → AllRows (λ s. product cost (unit s.basic) ≡ value_at cost s.basic) rows
costs_at cost [] h = tt
costs_at cost (r ∷ rows) h = (value_is 0 r.basic cost h, costs_at cost rows h)

-- the tableau that a phase begins with is in order, and the program's: its rows are sums of the program's rows
pub priced_start : (cost : List Entry) (rows rs : List Row) (o : List Entry) → Ascending 0 cost → AllLines (λ line. Ascending 0 line.entries) rs → IsUnits rs → AllLines (λ line. zero_ℚ ≤ℚ line.right) rs
    → AllLines (Spans rows) rs → ((x : ℕ → ℚ) → Solves rs x → Solves rows x) → priced cost rs cost ≡ Ok o → Both cost rows (record { rows = rs; objective = o })
priced_start cost rows rs o hc hr hu hf hs back e =
    let p = priced_prices cost rows rs [] cost o (λ x. by_ring (product cost x ∷ []) (search terms depth 40) tt) hs e in (
      record { spans = hs; prices = p; back = back },
      record {
        rows_rise = hr;
        objective_rises = priced_rises cost rs cost o hc hr e;
        units = hu;
        priced = priced_zero cost [] rs cost o tt (costs_at cost rs hc) tt hu e;
        feasible = hf;
      },
    )

-- cost less reduced cost, at the columns that were basic at the start
abbrev pub start_duals : List Entry → List Row → List Entry → List ℚ
start_duals cost [] objective = []
start_duals cost (r ∷ rows) objective = (value_at cost r.basic -ℚ value_at objective r.basic) ∷ start_duals cost rows objective

duals_are : (cost : List Entry) (all rows : List Row) (y : List ℚ) (o : List Entry) → Ascending 0 cost → Ascending 0 o → ((x : ℕ → ℚ) → product o x ≡ product cost x -ℚ dot y (values all x)) → start_duals cost rows o ≡ reads y all rows
duals_are cost all [] y o c r p = refl
duals_are cost all (s ∷ rows) y o c r p =
    ap₂ (λ (v : ℚ) (l : List ℚ). v ∷ l)
    (by_eqs (value_at cost s.basic ∷ value_at o s.basic ∷ product o (unit s.basic) ∷ product cost (unit s.basic) ∷ dot y (values all (unit s.basic)) ∷ [])
    (by_eq one_ℚ (value_is 0 s.basic o r) (by_eq (neg_ℚ one_ℚ) (p (unit s.basic)) (by_eq (neg_ℚ one_ℚ) (value_is 0 s.basic cost c) done))) (search terms depth 40) tt)
    (duals_are cost all rows y o c r p)

-- where no column enters, the multipliers of either phase have good column sums, and their value is the cost of the point
pub duals_of : (n : ℕ) (cost : List Entry) (rows : List Row) (t : Tableau) → Ascending 0 cost → IsUnits rows → Both cost rows t → entering n t.objective ≡ None → IsDualOf n cost rows (start_duals cost rows t.objective) (product cost (point t.rows))
duals_of n cost rows t hc hu b e =
    let y : List ℚ = b.0.prices.0 in
    let d : start_duals cost rows t.objective ≡ reads y rows rows = duals_are cost rows rows y t.objective hc b.1.objective_rises b.0.prices.1 in
    let same : (v : List ℚ) → AsLong v rows → dot (start_duals cost rows t.objective) v ≡ dot y v = λ v h. ap (λ (l : List ℚ). dot l v) d ∙ reads_same y rows v hu h in
    record {
      good = λ j h.
          let g : zero_ℚ ≤ℚ product t.objective (unit j) = none_enters n t.objective (unit j) (λ c. unit_range n j c h) e in
          let l : product t.objective (unit j) ≡ product cost (unit j) -ℚ dot y (values rows (unit j)) = b.0.prices.1 (unit j) in
          let m : dot (start_duals cost rows t.objective) (values rows (unit j)) ≡ dot y (values rows (unit j)) = same (values rows (unit j)) (values_long rows (unit j)) in
          by_linear (product t.objective (unit j) ∷ product cost (unit j) ∷ dot y (values rows (unit j)) ∷ dot (start_duals cost rows t.objective) (values rows (unit j)) ∷ []) (fact g (equal l (equal m nothing))) (search terms depth 40) tt;
      worth = point_cost cost rows t b.0 b.1 ∙ sym (same (rights rows) (rights_long rows));
    }

-- a pivot on any entry that isn't 0 of a row with right side 0 keeps the program and the order
pub driven_keeps : (cost : List Entry) (rows : List Row) (j i : ℕ) (t u : Tableau) → Both cost rows t → i < length t.rows → (value_at (row_at t.rows i).line.entries j ≡ zero_ℚ → ⊥) → (row_at t.rows i).line.right ≡ zero_ℚ → pivoted j i t ≡ Ok u → Both cost rows u
driven_keeps cost rows j i t u b h ne z e = (tied_pivot cost rows j i t u (pivots j i t u e) h ne b.0, basic_driven j i t u b.1 h ne z e)
