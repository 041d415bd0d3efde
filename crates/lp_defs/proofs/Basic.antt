-- A pivot by the ratio test keeps a tableau in order, and the point of such a tableau is a solution.
use Rattle.std.proofs.Common.{◌≡◌, ℕ, zero, suc, ◌<◌, ◌≤◌, ◌&&◌, ◌⊎◌, inl, inr, Bool, true, false, cond, List, [], ◌∷◌, ◌++◌, Option, Some, Ok, eqb, ltb, length, take, drop, refl, sym, ap, ◌∙◌, subst, arith, eqb-true}
use Rattle.std.specs.List.{remove, insert}
use Rattle.std.proofs.lemmas.List.{take-append-drop}
use Rattle.std.proofs.lemmas.Bool.{ltb-true, ne_eqb}
use Rattle.rationals.specs.Passes.{then_walk}
use Rattle.rationals.specs.Rational.{ℚ, zero_ℚ, one_ℚ, ◌+ℚ◌, ◌-ℚ◌, ◌*ℚ◌, ◌/ℚ◌, neg_ℚ, inv_ℚ, ◌≤ℚ◌, ◌<ℚ◌, by_ring, by_eqs, by_linear, by_facts, terms, le_refl_ℚ, one_nonneg_ℚ, mul_nonneg_ℚ, mul_mono_ℚ, mul_inv_ℚ, inv_nonneg_ℚ, lt_le_ℚ, ne_of_gt_ℚ, le_total_ℚ, div_mul_ℚ}
use Rattle.rationals.specs.Ring.Eqs.{done, by_eq}
use Rattle.rationals.specs.Ring.Facts.{end, by_le}
use Rattle.rationals.specs.Ring.Given.{fact, equal, nothing}
use Rattle.rationals.specs.Sums.{dot}
use Rattle.lp_defs.specs.Tests.{is_below_zero}
use Rattle.lp_defs.specs.Walks.{after_ok}
use Rattle.rationals.specs.Sparse.{Entry, value_if, product, Ascending}
use Rattle.lp_defs.specs.Lines.{Line, value_at, cleared, cleared_form, divided}
use Rattle.lp_defs.specs.Path.{Row, Tableau, entering, pivoted, row_at, cleared_row, cleared_rows}
use Rattle.lp_defs.specs.Linear.{AllLines, AllRows, Solves, rights, FormLess, Times, IsTied}
use Rattle.lp_defs.specs.Stages.{Three, HasRisen}
use Rattle.lp_defs.specs.Ends.{unit, IsPoint}
use Rattle.lp_defs.specs.Basis.{IsUnits, IsBasic, IsBelow, point}
use Rattle.lp_defs.proofs.Rows.{Each, Pivots, pivots, all_insert, all_uninsert, put_back}
use Rattle.lp_defs.proofs.Rising.{form_rises, cleared_rises, divided_rises}
use Rattle.lp_defs.proofs.Choice.{all_weaker, Keeps}
use Rattle.lp_defs.proofs.Best.{tied_keeps, cost_is}

-- ---- the entry of a column is the form's value at that column
past_unit : (m j : ℕ) (f : List Entry) → j < m → Ascending m f → product f (unit j) ≡ zero_ℚ
past_unit m j [] h r = refl
past_unit m j (t ∷ f) h r =
    let k : m ≤ t.column = r.0 in
    let apart : eqb t.column j ≡ false = ne_eqb t.column j (λ e. absurd (omega arith)) in
    let ih : product f (unit j) ≡ zero_ℚ = past_unit (suc t.column) j f (omega arith) r.1 in
    rw (apart, ih) (by_ring (t.value ∷ []) (search terms depth 40) tt)

pub value_is : (m j : ℕ) (f : List Entry) → Ascending m f → product f (unit j) ≡ value_at f j
value_is m j [] r = refl
value_is m j (t ∷ f) r = go (eqb t.column j) refl (value_is (suc t.column) j f r.1)
  where
    go : (b : Bool) → eqb t.column j ≡ b → product f (unit j) ≡ value_at f j → t.value *ℚ value_if b one_ℚ +ℚ product f (unit j) ≡ cond b t.value (value_at f j)
    go true e ih =
        let k : t.column ≡ j = eqb-true t.column j e in
        let z : product f (unit j) ≡ zero_ℚ = past_unit (suc t.column) j f (omega arith) r.1 in
        rw z (by_ring (t.value ∷ []) (search terms depth 40) tt)
    go false e ih = by_eqs (t.value ∷ product f (unit j) ∷ value_at f j ∷ []) (by_eq one_ℚ ih done) (search terms depth 40) tt

-- ---- one property of all rows
rows_join : (P : Row → Type 0) (a b : List Row) → AllRows P a → AllRows P b → AllRows P (a ++ b)
rows_join P [] b h k = k
rows_join P (r ∷ a) b h k = (h.0, rows_join P a b h.1 k)

rows_split : (P : Row → Type 0) (a b : List Row) → AllRows P (a ++ b) → AllRows P a × AllRows P b
rows_split P [] b h = (tt, h)
rows_split P (r ∷ a) b h = let k = rows_split P a b h.1 in ((h.0, k.0), k.1)

pub rows_insert : (P : Row → Type 0) (rows : List Row) (i : ℕ) (r : Row) → AllRows P rows → P r → AllRows P (insert rows i r)
rows_insert P rows i r h k =
    let g = rows_split P (take i rows) (drop i rows) (subst (AllRows P) (sym (take-append-drop i rows)) h) in
    rows_join P (take i rows) (r ∷ drop i rows) g.0 (k, g.1)

pub rows_uninsert : (P : Row → Type 0) (rows : List Row) (i : ℕ) (r : Row) → AllRows P (insert rows i r) → AllRows P rows × P r
rows_uninsert P rows i r h =
    let g = rows_split P (take i rows) (r ∷ drop i rows) h in
    (subst (AllRows P) (take-append-drop i rows) (rows_join P (take i rows) (drop i rows) g.0 g.1.1), g.1.0)

-- ---- a row with unit columns may stand anywhere
abbrev OneIn : Row → Type 0
OneIn r = product r.line.entries (unit r.basic) ≡ one_ℚ

abbrev ZeroIn : Row → Row → Type 0
ZeroIn r s = product r.line.entries (unit s.basic) ≡ zero_ℚ

pub units_insert : (rows : List Row) (i : ℕ) (r : Row) → IsUnits (r ∷ rows) → IsUnits (insert rows i r)
units_insert rows zero r h = h
units_insert [] (suc i) r h = h
units_insert (x ∷ rows) (suc i) r h =
    (h.3.0, rows_insert (ZeroIn x) rows i r h.3.1 h.2.0, rows_insert (λ s. ZeroIn s x) rows i r h.3.2 h.1.0, units_insert rows i r (h.0, h.1.1, h.2.1, h.3.3))

pub units_uninsert : (rows : List Row) (i : ℕ) (r : Row) → IsUnits (insert rows i r) → IsUnits (r ∷ rows)
units_uninsert rows zero r h = h
units_uninsert [] (suc i) r h = h
units_uninsert (x ∷ rows) (suc i) r h =
    let a = rows_uninsert (ZeroIn x) rows i r h.1 in
    let b = rows_uninsert (λ s. ZeroIn s x) rows i r h.2 in
    let c : IsUnits (r ∷ rows) = units_uninsert rows i r h.3 in
    (c.0, (b.1, c.1), (a.1, c.2), (h.0, a.0, b.0, c.3))

-- ---- what clearing does to unit columns
pub unchanged : (f : ℚ) (form pivot new : List Entry) (x : ℕ → ℚ) (v : ℚ) → FormLess f form pivot new → product pivot x ≡ zero_ℚ → product form x ≡ v → product new x ≡ v
unchanged f form pivot new x v l h k = by_eqs (product new x ∷ product form x ∷ product pivot x ∷ f ∷ v ∷ [])
    (by_eq one_ℚ (l x) (by_eq (neg_ℚ f) h (by_eq one_ℚ k done))) (search terms depth 40) tt

pub gone : (form pivot new : List Entry) (x : ℕ → ℚ) (v : ℚ) → FormLess v form pivot new → product pivot x ≡ one_ℚ → product form x ≡ v → product new x ≡ zero_ℚ
gone form pivot new x v l h k = by_eqs (product new x ∷ product form x ∷ product pivot x ∷ v ∷ [])
    (by_eq one_ℚ (l x) (by_eq (neg_ℚ v) h (by_eq one_ℚ k done))) (search terms depth 40) tt

-- for the rows s among the others: the pivot's row is 0 there
each_zero : (j : ℕ) (pivot : Line) (rows new : List Row) (line : Line) (c : ℚ) → Each j pivot rows new → Times c line pivot → AllRows (λ s. product line.entries (unit s.basic) ≡ zero_ℚ) rows → AllRows (λ s. product pivot.entries (unit s.basic) ≡ zero_ℚ) new
each_zero j pivot [] [] line c e t h = tt
each_zero j pivot [] (n ∷ ns) line c e t h = absurd e
each_zero j pivot (r ∷ rs) [] line c e t h = absurd e
each_zero j pivot (r ∷ rs) (n ∷ ns) line c e t h =
    (subst (λ (b : ℕ). product pivot.entries (unit b) ≡ zero_ℚ) (sym e.0) (t.entries (unit r.basic) ∙ by_eqs (c ∷ product line.entries (unit r.basic) ∷ []) (by_eq c h.0 done) (search terms depth 40) tt), each_zero j pivot rs ns line c e.2 t h.1)

-- a form that is 0 at each old basic column, and the form less the pivot's
form_zero : (j : ℕ) (pivot : Line) (rows new : List Row) (f : ℚ) (form other : List Entry) → Each j pivot rows new → FormLess f form pivot.entries other → AllRows (λ s. product pivot.entries (unit s.basic) ≡ zero_ℚ) new
    → AllRows (λ s. product form (unit s.basic) ≡ zero_ℚ) rows → AllRows (λ s. product other (unit s.basic) ≡ zero_ℚ) new
form_zero j pivot [] [] f form other e l p h = tt
form_zero j pivot [] (n ∷ ns) f form other e l p h = absurd e
form_zero j pivot (r ∷ rs) [] f form other e l p h = absurd e
form_zero j pivot (r ∷ rs) (n ∷ ns) f form other e l p h =
    (unchanged f form pivot.entries other (unit n.basic) zero_ℚ l p.0 (subst (λ (b : ℕ). product form (unit b) ≡ zero_ℚ) (sym e.0) h.0), form_zero j pivot rs ns f form other e.2 l p.1 h.1)

-- the other rows at one column where the pivot's row is 0
rows_zero : (j b : ℕ) (pivot : Line) (rows new : List Row) → Each j pivot rows new → product pivot.entries (unit b) ≡ zero_ℚ → AllRows (λ s. product s.line.entries (unit b) ≡ zero_ℚ) rows → AllRows (λ s. product s.line.entries (unit b) ≡ zero_ℚ) new
rows_zero j b pivot [] [] e p h = tt
rows_zero j b pivot [] (n ∷ ns) e p h = absurd e
rows_zero j b pivot (r ∷ rs) [] e p h = absurd e
rows_zero j b pivot (r ∷ rs) (n ∷ ns) e p h = (unchanged (value_at r.line.entries j) r.line.entries pivot.entries n.line.entries (unit b) zero_ℚ e.1.entries p h.0, rows_zero j b pivot rs ns e.2 p h.1)

-- and at the new basic column
rows_gone : (j : ℕ) (pivot : Line) (rows new : List Row) → Each j pivot rows new → product pivot.entries (unit j) ≡ one_ℚ → AllLines (λ line. Ascending 0 line.entries) rows → AllRows (λ s. product s.line.entries (unit j) ≡ zero_ℚ) new
rows_gone j pivot [] [] e p h = tt
rows_gone j pivot [] (n ∷ ns) e p h = absurd e
rows_gone j pivot (r ∷ rs) [] e p h = absurd e
rows_gone j pivot (r ∷ rs) (n ∷ ns) e p h = (gone r.line.entries pivot.entries n.line.entries (unit j) (value_at r.line.entries j) e.1.entries p (value_is 0 j r.line.entries h.0), rows_gone j pivot rs ns e.2 p h.1)

each_units : (j : ℕ) (pivot : Line) (rows new : List Row) → Each j pivot rows new → AllRows (λ s. product pivot.entries (unit s.basic) ≡ zero_ℚ) new → IsUnits rows → IsUnits new
each_units j pivot [] [] e p h = tt
each_units j pivot [] (n ∷ ns) e p h = absurd e
each_units j pivot (r ∷ rs) [] e p h = absurd e
each_units j pivot (r ∷ rs) (n ∷ ns) e p h = (
  unchanged (value_at r.line.entries j) r.line.entries pivot.entries n.line.entries (unit n.basic) one_ℚ e.1.entries p.0 (subst (λ (b : ℕ). product r.line.entries (unit b) ≡ one_ℚ) (sym e.0) h.0),
  form_zero j pivot rs ns (value_at r.line.entries j) r.line.entries n.line.entries e.2 e.1.entries p.1 h.1,
  subst (λ (b : ℕ). AllRows (λ s. product s.line.entries (unit b) ≡ zero_ℚ) ns) (sym e.0) (rows_zero j r.basic pivot rs ns e.2 (subst (λ (b : ℕ). product pivot.entries (unit b) ≡ zero_ℚ) e.0 p.0) h.2),
  each_units j pivot rs ns e.2 p.1 h.3,
)

each_below : (n j : ℕ) (pivot : Line) (rows new : List Row) → Each j pivot rows new → AllRows (λ r. r.basic < n) rows → AllRows (λ r. r.basic < n) new
each_below n j pivot [] [] e h = tt
each_below n j pivot [] (m ∷ ms) e h = absurd e
each_below n j pivot (r ∷ rs) [] e h = absurd e
each_below n j pivot (r ∷ rs) (m ∷ ms) e h = (subst (λ (b : ℕ). b < n) (sym e.0) h.0, each_below n j pivot rs ms e.2 h.1)

-- ---- right sides
stays : (f q s b p n : ℚ) → n ≡ s -ℚ f *ℚ p → p ≡ q → zero_ℚ ≤ℚ q → zero_ℚ ≤ℚ s → (zero_ℚ <ℚ f → q ≤ℚ s /ℚ f) → zero_ℚ ≤ℚ n
stays f q s b p n e k hq hs l = go (le_total_ℚ f zero_ℚ)
  where
    go : (f ≤ℚ zero_ℚ) ⊎ (zero_ℚ <ℚ f) → zero_ℚ ≤ℚ n
    go (inl h) = let g : q *ℚ f ≤ℚ q *ℚ zero_ℚ = mul_mono_ℚ hq h in
        by_linear (f ∷ q ∷ s ∷ p ∷ n ∷ []) (fact g (fact hs (equal e (equal (ap (λ (v : ℚ). f *ℚ v) k) nothing)))) (search terms depth 40) tt
    go (inr h) = let g : f *ℚ q ≤ℚ f *ℚ (s /ℚ f) = mul_mono_ℚ (lt_le_ℚ h) (l h) in
        let d : s /ℚ f *ℚ f ≡ s = div_mul_ℚ s f (ne_of_gt_ℚ h) in
        by_linear (f ∷ inv_ℚ f ∷ q ∷ s ∷ p ∷ n ∷ []) (fact g (equal d (equal e (equal (ap (λ (v : ℚ). f *ℚ v) k) nothing)))) (search terms depth 40) tt

each_feasible : (j : ℕ) (q : ℚ) (pivot : Line) (rows new : List Row) → Each j pivot rows new → pivot.right ≡ q → zero_ℚ ≤ℚ q → AllLines (λ line. zero_ℚ ≤ℚ line.right) rows
    → AllLines (λ line. zero_ℚ <ℚ value_at line.entries j → q ≤ℚ line.right /ℚ value_at line.entries j) rows → AllLines (λ line. zero_ℚ ≤ℚ line.right) new
each_feasible j q pivot [] [] e k h g l = tt
each_feasible j q pivot [] (m ∷ ms) e k h g l = absurd e
each_feasible j q pivot (r ∷ rs) [] e k h g l = absurd e
each_feasible j q pivot (r ∷ rs) (m ∷ ms) e k h g l = (stays (value_at r.line.entries j) q r.line.right zero_ℚ pivot.right m.line.right e.1.right k h g.0 l.0, each_feasible j q pivot rs ms e.2 k h g.1 l.1)

-- ---- rising columns
rows_rise : (j : ℕ) (pivot : Line) (rows d all : List Row) → Ascending 0 pivot.entries → AllLines (λ line. Ascending 0 line.entries) rows → AllLines (λ line. Ascending 0 line.entries) d → cleared_rows j pivot rows d ≡ Ok all → AllLines (λ line. Ascending 0 line.entries) all
rows_rise j pivot [] d all p h g e = let k : d ≡ all = cc in subst (AllLines (λ line. Ascending 0 line.entries)) k g
rows_rise j pivot (r ∷ rows) d all p h g e =
    let u = after_ok (cleared_row j pivot r) (λ new. cleared_rows j pivot rows (d ++ new ∷ [])) all e in
    let w = after_ok (cleared j pivot r.line) (λ line. Ok (record { basic = r.basic; line = line })) u.0 u.1 in
    let k : record { basic = r.basic; line = w.0 } ≡ u.0 = cc in
    rows_rise j pivot rows (d ++ u.0 ∷ []) all p h.1 (lines_join (λ line. Ascending 0 line.entries) d (u.0 ∷ []) g (subst (λ (x : Row). Ascending 0 x.line.entries) k (cleared_rises (value_at r.line.entries j) pivot r.line w.0 p h.0 w.1), tt)) u.2
  where
    lines_join : (P : Line → Type 0) (a b : List Row) → AllLines P a → AllLines P b → AllLines P (a ++ b)
    lines_join P [] b h k = k
    lines_join P (r ∷ a) b h k = (h.0, lines_join P a b h.1 k)

pub pivot_rises : (j i : ℕ) (t u : Tableau) → i < length t.rows → AllLines (λ line. Ascending 0 line.entries) t.rows → Ascending 0 t.objective → pivoted j i t ≡ Ok u → HasRisen u
pivot_rises j i t u w h o e =
    let line : Line = (row_at t.rows i).line in
    let a = after_ok (divided (value_at line.entries j) line) (λ pivot. then_walk (cleared_rows j pivot (remove t.rows i) []) (λ rows. then_walk (cleared_form (value_at t.objective j) pivot.entries t.objective) (λ objective. Ok (record { rows = insert rows i (record { basic = j; line = pivot }); objective = objective })))) u e in
    let b = after_ok (cleared_rows j a.0 (remove t.rows i) []) (λ rows. then_walk (cleared_form (value_at t.objective j) a.0.entries t.objective) (λ objective. Ok (record { rows = insert rows i (record { basic = j; line = a.0 }); objective = objective }))) u a.2 in
    let c = after_ok (cleared_form (value_at t.objective j) a.0.entries t.objective) (λ objective. Ok (record { rows = insert b.0 i (record { basic = j; line = a.0 }); objective = objective })) u b.2 in
    let k : record { rows = insert b.0 i (record { basic = j; line = a.0 }); objective = c.0 } ≡ u = cc in
    let g = all_uninsert (λ line. Ascending 0 line.entries) (remove t.rows i) i (row_at t.rows i) (subst (AllLines (λ line. Ascending 0 line.entries)) (sym (put_back t.rows i w)) h) in
    let p : Ascending 0 a.0.entries = divided_rises (value_at line.entries j) line a.0 g.1 a.1 in
    record {
      rows = subst (λ (x : Tableau). AllLines (λ line. Ascending 0 line.entries) x.rows) k (all_insert (λ line. Ascending 0 line.entries) b.0 i (record { basic = j; line = a.0 }) (rows_rise j a.0 (remove t.rows i) [] b.0 p g.0 tt b.1) p);
      objective = subst (λ (x : Tableau). Ascending 0 x.objective) k (form_rises (value_at t.objective j) a.0.entries t.objective c.0 p o c.1);
    }

-- ---- the entering column
pub entering_below : (n : ℕ) (f : List Entry) (j : ℕ) → entering n f ≡ Some j → j < n
entering_below n [] j e = absurd (cc)
entering_below n (t ∷ f) j e = go (is_below_zero t.value) (ltb t.column n) refl e (entering_below n f j)
  where
    go : (b c : Bool) → ltb t.column n ≡ c → ◌≡◌ {A = Option ℕ} (elim (b && c) [ true ↦ Some t.column | false ↦ entering n f ]) (Some j) → (entering n f ≡ Some j → j < n) → j < n
    go true true q e ih = let k : t.column ≡ j = cc in let l : t.column < n = ltb-true t.column n q in omega arith
    go true false q e ih = ih e
    go false c q e ih = ih e

-- ---- a pivot that keeps the right sides at 0 or above
pub basic_pivot : (j i : ℕ) (v : ℚ) (t u : Tableau) → IsBasic t → i < length t.rows → (value_at (row_at t.rows i).line.entries j ≡ zero_ℚ → ⊥) → v ≡ (row_at t.rows i).line.right /ℚ value_at (row_at t.rows i).line.entries j → zero_ℚ ≤ℚ v
    → AllLines (λ line. zero_ℚ <ℚ value_at line.entries j → v ≤ℚ line.right /ℚ value_at line.entries j) t.rows → pivoted j i t ≡ Ok u → IsBasic u
basic_pivot j i v t u h within ne ratio q_nonneg all_least q =
    let p : Pivots j i t u = pivots j i t u q in
    let r : Row = row_at t.rows i in
    let a : ℚ = value_at r.line.entries j in
    let others : List Row = remove t.rows i in
    let back : insert others i r ≡ t.rows = put_back t.rows i within in
    let new : Row = record { basic = j; line = p.pivot } in
    let units : IsUnits (r ∷ others) = units_uninsert others i r (subst IsUnits (sym back) h.units) in
    let rise = all_uninsert (λ line. Ascending 0 line.entries) others i r (subst (AllLines (λ line. Ascending 0 line.entries)) (sym back) h.rows_rise) in
    let one : product p.pivot.entries (unit j) ≡ one_ℚ =
    p.scaled.entries (unit j) ∙ ap (λ (w : ℚ). inv_ℚ a *ℚ w) (value_is 0 j r.line.entries rise.1) ∙ by_eqs (a ∷ inv_ℚ a ∷ []) (by_eq one_ℚ (mul_inv_ℚ a ne) done) (search terms depth 40) tt in
    let zeros : AllRows (λ s. product p.pivot.entries (unit s.basic) ≡ zero_ℚ) p.others = each_zero j p.pivot others p.others r.line (inv_ℚ a) p.each p.scaled units.1 in
    let priced = rows_uninsert (λ s. product t.objective (unit s.basic) ≡ zero_ℚ) others i r (subst (AllRows (λ s. product t.objective (unit s.basic) ≡ zero_ℚ)) (sym back) h.priced) in
    let feasible = all_uninsert (λ line. zero_ℚ ≤ℚ line.right) others i r (subst (AllLines (λ line. zero_ℚ ≤ℚ line.right)) (sym back) h.feasible) in
    let least = all_uninsert (λ line. zero_ℚ <ℚ value_at line.entries j → v ≤ℚ line.right /ℚ value_at line.entries j) others i r
    (subst (AllLines (λ line. zero_ℚ <ℚ value_at line.entries j → v ≤ℚ line.right /ℚ value_at line.entries j)) (sym back) all_least) in
    let q_is : p.pivot.right ≡ v = p.scaled.right ∙ by_ring (inv_ℚ a ∷ r.line.right ∷ []) (search terms depth 40) tt ∙ sym ratio in
    let risen : HasRisen u = pivot_rises j i t u within h.rows_rise h.objective_rises q in
    record {
      rows_rise = risen.rows;
      objective_rises = risen.objective;
      units = subst IsUnits (sym p.rows) (units_insert p.others i new (one, zeros, rows_gone j p.pivot others p.others p.each one rise.0, each_units j p.pivot others p.others p.each zeros units.3));
      priced = subst (AllRows (λ s. product u.objective (unit s.basic) ≡ zero_ℚ)) (sym p.rows)
          (rows_insert (λ s. product u.objective (unit s.basic) ≡ zero_ℚ) p.others i new
          (form_zero j p.pivot others p.others (value_at t.objective j) t.objective u.objective p.each p.objective zeros priced.0)
          (gone t.objective p.pivot.entries u.objective (unit j) (value_at t.objective j) p.objective one (value_is 0 j t.objective h.objective_rises)));
      feasible = subst (AllLines (λ line. zero_ℚ ≤ℚ line.right)) (sym p.rows)
          (all_insert (λ line. zero_ℚ ≤ℚ line.right) p.others i new (each_feasible j v p.pivot others p.others p.each q_is q_nonneg feasible.0 least.0) (subst (λ (w : ℚ). zero_ℚ ≤ℚ w) (sym q_is) q_nonneg));
    }

-- by the ratio test
pub basic_keeps : (n : ℕ) → Keeps IsBasic n
basic_keeps n t u j c h e m q =
    let r : Row = row_at t.rows c.index in
    let f = all_uninsert (λ line. zero_ℚ ≤ℚ line.right) (remove t.rows c.index) c.index r (subst (AllLines (λ line. zero_ℚ ≤ℚ line.right)) (sym (put_back t.rows c.index m.within)) h.feasible) in
    basic_pivot j c.index c.ratio t u h m.within (ne_of_gt_ℚ m.above) m.ratio (subst (λ (w : ℚ). zero_ℚ ≤ℚ w) (sym m.ratio) (mul_nonneg_ℚ r.line.right (inv_ℚ (value_at r.line.entries j)) f.1 (inv_nonneg_ℚ m.above))) m.least q

-- on any entry that is not 0 of a row with right side 0, as the pivots on artificial columns that are left
pub basic_driven : (j i : ℕ) (t u : Tableau) → IsBasic t → i < length t.rows → (value_at (row_at t.rows i).line.entries j ≡ zero_ℚ → ⊥) → (row_at t.rows i).line.right ≡ zero_ℚ → pivoted j i t ≡ Ok u → IsBasic u
basic_driven j i t u h within ne z q =
    let a : ℚ = value_at (row_at t.rows i).line.entries j in
    basic_pivot j i zero_ℚ t u h within ne (sym (ap (λ (w : ℚ). w *ℚ inv_ℚ a) z ∙ by_ring (inv_ℚ a ∷ []) (search terms depth 40) tt)) (le_refl_ℚ zero_ℚ)
    (all_weaker (λ line. zero_ℚ ≤ℚ line.right) (λ line. zero_ℚ <ℚ value_at line.entries j → zero_ℚ ≤ℚ line.right /ℚ value_at line.entries j) t.rows (λ line k p. mul_nonneg_ℚ line.right (inv_ℚ (value_at line.entries j)) k (inv_nonneg_ℚ p)) h.feasible) q

-- the basic columns stay below any number that the new one is below
pub below_pivot : (all j i : ℕ) (t u : Tableau) → j < all → i < length t.rows → IsBelow all t → pivoted j i t ≡ Ok u → IsBelow all u
below_pivot all j i t u l w h q =
    let p : Pivots j i t u = pivots j i t u q in
    let r : Row = row_at t.rows i in
    let others : List Row = remove t.rows i in
    let below = rows_uninsert (λ s. s.basic < all) others i r (subst (AllRows (λ s. s.basic < all)) (sym (put_back t.rows i w)) h) in
    subst (AllRows (λ s. s.basic < all)) (sym p.rows) (rows_insert (λ s. s.basic < all) p.others i (record { basic = j; line = p.pivot }) (each_below all j p.pivot others p.others p.each below.0) l)

pub below_keeps : (n all : ℕ) → n ≤ all → Keeps (IsBelow all) n
below_keeps n all le t u j c h e m q = below_pivot all j c.index t u (let l : j < n = entering_below n t.objective j e in omega arith) m.within h q

-- ---- the point
product_point : (f : List Entry) (a : ℚ) (u v : ℕ → ℚ) → product f (λ c. a *ℚ u c +ℚ v c) ≡ a *ℚ product f u +ℚ product f v
product_point [] a u v = by_ring (a ∷ []) (search terms depth 40) tt
product_point (t ∷ f) a u v = by_eqs (t.value ∷ a ∷ u t.column ∷ v t.column ∷ product f u ∷ product f v ∷ product f (λ c. a *ℚ u c +ℚ v c) ∷ []) (by_eq one_ℚ (product_point f a u v) done) (search terms depth 40) tt

product_nowhere : (f : List Entry) → product f (λ c. zero_ℚ) ≡ zero_ℚ
product_nowhere [] = refl
product_nowhere (t ∷ f) = by_eqs (t.value ∷ product f (λ c. zero_ℚ) ∷ []) (by_eq one_ℚ (product_nowhere f) done) (search terms depth 40) tt

-- a form that is 0 at the basic columns is 0 at the point
pub zero_at_point : (f : List Entry) (rows : List Row) → AllRows (λ s. product f (unit s.basic) ≡ zero_ℚ) rows → product f (point rows) ≡ zero_ℚ
zero_at_point f [] h = product_nowhere f
zero_at_point f (r ∷ rows) h = product_point f r.line.right (unit r.basic) (point rows)
    ∙ by_eqs (r.line.right ∷ product f (unit r.basic) ∷ product f (point rows) ∷ []) (by_eq r.line.right h.0 (by_eq one_ℚ (zero_at_point f rows h.1) done)) (search terms depth 40) tt

more_solves : (r : Row) (rest rows : List Row) → AllRows (λ s. product s.line.entries (unit r.basic) ≡ zero_ℚ) rest → Solves rest (point rows) → Solves rest (point (r ∷ rows))
more_solves r [] rows h k = tt
more_solves r (s ∷ rest) rows h k = (
  product_point s.line.entries r.line.right (unit r.basic) (point rows)
      ∙ by_eqs (r.line.right ∷ product s.line.entries (unit r.basic) ∷ product s.line.entries (point rows) ∷ s.line.right ∷ []) (by_eq r.line.right h.0 (by_eq one_ℚ k.0 done)) (search terms depth 40) tt,
  more_solves r rest rows h.1 k.1,
)

pub point_solves : (rows : List Row) → IsUnits rows → Solves rows (point rows)
point_solves [] h = tt
point_solves (r ∷ rows) h = (
  product_point r.line.entries r.line.right (unit r.basic) (point rows)
      ∙ by_eqs (r.line.right ∷ product r.line.entries (unit r.basic) ∷ product r.line.entries (point rows) ∷ []) (by_eq r.line.right h.0 (by_eq one_ℚ (zero_at_point r.line.entries rows h.1) done)) (search terms depth 40) tt,
  more_solves r rows rows h.2 (point_solves rows h.3),
)

unit_nonneg : (j c : ℕ) → zero_ℚ ≤ℚ unit j c
unit_nonneg j c = go (eqb c j)
  where
    go : (b : Bool) → zero_ℚ ≤ℚ value_if b one_ℚ
    go true = one_nonneg_ℚ
    go false = le_refl_ℚ zero_ℚ

pub point_is : (n : ℕ) (rows : List Row) → AllRows (λ r. r.basic < n) rows → AllLines (λ line. zero_ℚ ≤ℚ line.right) rows → IsPoint n (point rows)
point_is n [] b h c = (le_refl_ℚ zero_ℚ, λ k. refl)
point_is n (r ∷ rows) b h c =
    let ih = point_is n rows b.1 h.1 c in
    let p : zero_ℚ ≤ℚ r.line.right *ℚ unit r.basic c = mul_nonneg_ℚ r.line.right (unit r.basic c) h.0 (unit_nonneg r.basic c) in
    let q : zero_ℚ ≤ℚ point rows c = ih.0 in (
      by_facts (r.line.right ∷ unit r.basic c ∷ point rows c ∷ []) (by_le 1 p (by_le 1 q end)) (search terms depth 40) tt,
      λ k. let l : r.basic < n = b.0 in
          let apart : eqb c r.basic ≡ false = ne_eqb c r.basic (λ m. k (omega arith)) in
          let z : point rows c ≡ zero_ℚ = ih.1 k in
          rw (apart, z) (by_ring (r.line.right ∷ []) (search terms depth 40) tt),
    )

abbrev pub Both : List Entry → List Row → Tableau → Type 0
Both cost rows t = IsTied cost rows t × IsBasic t

pub both_keep : (n : ℕ) (cost : List Entry) (rows : List Row) → Keeps (Both cost rows) n
both_keep n cost rows t u j c h e m q = (tied_keeps n cost rows t u j c h.0 e m q, basic_keeps n t u j c h.1 e m q)

pub three_keep : (n all : ℕ) (cost : List Entry) (rows : List Row) → n ≤ all → Keeps (Three all cost rows) n
three_keep n all cost rows le t u j c h e m q = (tied_keeps n cost rows t u j c h.0 e m q, basic_keeps n t u j c h.1 e m q, below_keeps n all le t u j c h.2 e m q)

-- the cost of the point
pub point_cost : (cost : List Entry) (rows : List Row) (t : Tableau) (h : IsTied cost rows t) → IsBasic t → product cost (point t.rows) ≡ dot h.prices.0 (rights rows)
point_cost cost rows t h b =
    cost_is cost rows t (point t.rows) h (h.back (point t.rows) (point_solves t.rows b.units))
    ∙ by_eqs (product t.objective (point t.rows) ∷ dot h.prices.0 (rights rows) ∷ []) (by_eq one_ℚ (zero_at_point t.objective t.rows b.priced) done) (search terms depth 40) tt

-- the point of a tableau is a solution with no entry below 0
pub record PointOf (all : ℕ) (rows : List Row) (t : Tableau) : Type 0 where
  pub range : IsPoint all (point t.rows)
  pub solves : Solves rows (point t.rows)

pub point_of : (all : ℕ) (cost : List Entry) (rows : List Row) (t : Tableau) → Three all cost rows t → PointOf all rows t
point_of all cost rows t h = record { range = point_is all t.rows h.2 h.1.feasible; solves = h.0.back (point t.rows) (point_solves t.rows h.1.units) }
