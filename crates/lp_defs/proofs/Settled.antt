-- Rows whose basic column is artificial and which have no other column: pivots leave them as they are.
use Rattle.std.proofs.Common.{◌≡◌, ℕ, zero, suc, ◌<◌, ◌≤◌, ◌&&◌, not, inl, inr, Bool, true, false, List, [], ◌∷◌, Option, Some, None, Ok, ltb, eqb, length, refl, sym, ap, ◌∙◌, subst, arith, cond}
use Rattle.std.specs.List.{remove, insert}
use Rattle.std.proofs.lemmas.Bool.{ltb-true, ltb-false, ne_eqb, eq-eqb}
use Rattle.rationals.specs.Rational.{zero_ℚ, one_ℚ, ◌*ℚ◌, neg_ℚ, by_ring, by_eqs, terms}
use Rattle.rationals.specs.Ring.Eqs.{done, by_eq}
use Rattle.rationals.specs.Sparse.{Entry, value_if, product, Ascending}
use Rattle.lp_defs.specs.Tests.{is_zero, is_zero_true, is_zero_false}
use Rattle.lp_defs.specs.Lines.{Line, value_at}
use Rattle.lp_defs.specs.Path.{Row, Tableau, pivoted, row_at}
use Rattle.lp_defs.specs.Linear.{AllLines, AllRows, Less}
use Rattle.lp_defs.specs.Ends.{unit}
use Rattle.lp_defs.specs.Basis.{point, ray}
use Rattle.lp_defs.specs.Stages.{Settled}
use Rattle.lp_defs.specs.Phases.{nonzero_below}
use Rattle.lp_defs.proofs.Rows.{Each, Pivots, pivots, put_back, all_uninsert}
use Rattle.lp_defs.proofs.Basic.{value_is, rows_insert, rows_uninsert}

pub settled_stays : (n j : ℕ) (pivot : Line) (r s : Row) → j < n → Ascending 0 r.line.entries → s.basic ≡ r.basic → Less (value_at r.line.entries j) r.line pivot s.line → Settled n r → Settled n s
settled_stays n j pivot r s l a b k (inl h) = inl (omega arith)
settled_stays n j pivot r s l a b k (inr h) =
    let z : value_at r.line.entries j ≡ zero_ℚ = sym (value_is 0 j r.line.entries a) ∙ h.entries j l in
    inr (record {
      entries = λ c m. by_eqs (product s.line.entries (unit c) ∷ product r.line.entries (unit c) ∷ product pivot.entries (unit c) ∷ value_at r.line.entries j ∷ []) (by_eq one_ℚ (k.entries (unit c)) (by_eq (neg_ℚ (product pivot.entries (unit c))) z (by_eq one_ℚ (h.entries c m) done))) (search terms depth 40) tt;
      right = by_eqs (s.line.right ∷ r.line.right ∷ pivot.right ∷ value_at r.line.entries j ∷ []) (by_eq one_ℚ k.right (by_eq (neg_ℚ pivot.right) z (by_eq one_ℚ h.right done))) (search terms depth 40) tt;
    })

each_settled : (n j : ℕ) (pivot : Line) (rows new : List Row) → j < n → Each j pivot rows new → AllLines (λ line. Ascending 0 line.entries) rows → AllRows (Settled n) rows → AllRows (Settled n) new
each_settled n j pivot [] [] l e a h = tt
each_settled n j pivot [] (s ∷ ns) l e a h = absurd e
each_settled n j pivot (r ∷ rs) [] l e a h = absurd e
each_settled n j pivot (r ∷ rs) (s ∷ ns) l e a h = (settled_stays n j pivot r s l a.0 e.0 e.1 h.0, each_settled n j pivot rs ns l e.2 a.1 h.1)

-- a pivot keeps them
pub settled_pivot : (n j i : ℕ) (t u : Tableau) → j < n → i < length t.rows → AllLines (λ line. Ascending 0 line.entries) t.rows → AllRows (Settled n) t.rows → pivoted j i t ≡ Ok u → AllRows (Settled n) u.rows
settled_pivot n j i t u l h a s q =
    let p : Pivots j i t u = pivots j i t u q in
    let r : Row = row_at t.rows i in
    let others : List Row = remove t.rows i in
    let back : insert others i r ≡ t.rows = put_back t.rows i h in
    let x = rows_uninsert (Settled n) others i r (subst (AllRows (Settled n)) (sym back) s) in
    let y = all_uninsert (λ line. Ascending 0 line.entries) others i r (subst (AllLines (λ line. Ascending 0 line.entries)) (sym back) a) in
    subst (AllRows (Settled n)) (sym p.rows) (rows_insert (Settled n) p.others i (record { basic = j; line = p.pivot }) (each_settled n j p.pivot others p.others l p.each y.0 x.0) (inl l))

-- ---- the first rows are settled, i of them
abbrev pub FirstSettled : ℕ → ℕ → List Row → Type 0
FirstSettled n zero rows = Unit {0}
FirstSettled n (suc i) [] = Unit {0}
FirstSettled n (suc i) (r ∷ rows) = Settled n r × FirstSettled n i rows

pub all_first : (n : ℕ) (rows : List Row) → FirstSettled n (length rows) rows → AllRows (Settled n) rows
all_first n [] h = tt
all_first n (r ∷ rows) h =
    let e : length (r ∷ rows) ≡ suc (length rows) = omega arith in
    let k : FirstSettled n (suc (length rows)) (r ∷ rows) = subst (λ (m : ℕ). FirstSettled n m (r ∷ rows)) e h in
    (k.0, all_first n rows k.1)

pub first_more : (n i : ℕ) (rows : List Row) → i < length rows → FirstSettled n i rows → Settled n (row_at rows i) → FirstSettled n (suc i) rows
first_more n i [] l h s = tt
first_more n zero (r ∷ rows) l h s = (s, tt)
first_more n (suc i) (r ∷ rows) l h s = (h.0, first_more n i rows (omega arith) h.1 s)

each_first : (n j i : ℕ) (pivot : Line) (new : Row) (rows others : List Row) → j < n → i < length rows → new.basic < n → Each j pivot (remove rows i) others → AllLines (λ line. Ascending 0 line.entries) rows → FirstSettled n i rows → FirstSettled n (suc i) (insert others i new)
each_first n j i pivot new [] others l h b e a f = absurd (omega arith)
each_first n j zero pivot new (r ∷ rows) others l h b e a f = (inl b, tt)
each_first n j (suc i) pivot new (r ∷ rows) [] l h b e a f = absurd e
each_first n j (suc i) pivot new (r ∷ rows) (s ∷ others) l h b e a f = (settled_stays n j pivot r s l a.0 e.0 e.1 f.0, each_first n j i pivot new rows others l (omega arith) b e.2 a.1 f.1)

pub first_pivot : (n j i : ℕ) (t u : Tableau) → j < n → i < length t.rows → AllLines (λ line. Ascending 0 line.entries) t.rows → FirstSettled n i t.rows → pivoted j i t ≡ Ok u → FirstSettled n (suc i) u.rows
first_pivot n j i t u l h a f q =
    let p : Pivots j i t u = pivots j i t u q in
    subst (FirstSettled n (suc i)) (sym p.rows) (each_first n j i p.pivot (record { basic = j; line = p.pivot }) t.rows p.others l h l p.each a f)

-- ---- how many rows there are
each_long : (j : ℕ) (pivot : Line) (rows new : List Row) → Each j pivot rows new → length new ≡ length rows
each_long j pivot [] [] e = refl
each_long j pivot [] (s ∷ ns) e = absurd e
each_long j pivot (r ∷ rs) [] e = absurd e
each_long j pivot (r ∷ rs) (s ∷ ns) e = let k : length ns ≡ length rs = each_long j pivot rs ns e.2 in omega arith

same_long : (j i : ℕ) (pivot : Line) (new : Row) (rows others : List Row) → i < length rows → Each j pivot (remove rows i) others → length (insert others i new) ≡ length rows
same_long j i pivot new [] others h e = absurd (omega arith)
same_long j zero pivot new (r ∷ rows) others h e = let k : length others ≡ length rows = each_long j pivot rows others e in omega arith
same_long j (suc i) pivot new (r ∷ rows) [] h e = absurd e
same_long j (suc i) pivot new (r ∷ rows) (s ∷ others) h e = let k : length (insert others i new) ≡ length rows = same_long j i pivot new rows others (omega arith) e.2 in omega arith

pub pivot_long : (j i : ℕ) (t u : Tableau) → i < length t.rows → pivoted j i t ≡ Ok u → length u.rows ≡ length t.rows
pivot_long j i t u h q =
    let p : Pivots j i t u = pivots j i t u q in
    ap (λ (l : List Row). length l) p.rows ∙ same_long j i p.pivot (record { basic = j; line = p.pivot }) t.rows p.others h p.each

-- ---- the column that takes an artificial column's place
pub nonzero_is : (n m j : ℕ) (f : List Entry) → Ascending m f → nonzero_below n f ≡ Some j → (j < n) × (m ≤ j) × (value_at f j ≡ zero_ℚ → ⊥)
nonzero_is n m j [] a e = absurd (cc)
nonzero_is n m j (t ∷ f) a e = go (is_zero t.value) refl (ltb t.column n) refl e (nonzero_is n (suc t.column) j f a.1)
  where
    own : t.column ≡ j → (t.value ≡ zero_ℚ → ⊥) → value_at (t ∷ f) j ≡ zero_ℚ → ⊥
    own k ne z = ne (sym (ap (λ (b : Bool). cond b t.value (value_at f j)) (eq-eqb t.column j k)) ∙ z)

    other : suc t.column ≤ j → (value_at f j ≡ zero_ℚ → ⊥) → value_at (t ∷ f) j ≡ zero_ℚ → ⊥
    other k ne z = ne (sym (ap (λ (b : Bool). cond b t.value (value_at f j)) (ne_eqb t.column j (λ q. omega arith))) ∙ z)

    go : (b : Bool) → is_zero t.value ≡ b → (c : Bool) → ltb t.column n ≡ c → ◌≡◌ {A = Option ℕ} (elim (not b && c) [ true ↦ Some t.column | false ↦ nonzero_below n f ]) (Some j)
        → (nonzero_below n f ≡ Some j → (j < n) × (suc t.column ≤ j) × (value_at f j ≡ zero_ℚ → ⊥)) → (j < n) × (m ≤ j) × (value_at (t ∷ f) j ≡ zero_ℚ → ⊥)
    go true p c q e ih = let h = ih e in (h.0, (let l : suc t.column ≤ j = h.1 in let k : m ≤ t.column = a.0 in omega arith), other h.1 h.2)
    go false p true q e ih = let k : t.column ≡ j = (cc) in ((let l : t.column < n = ltb-true t.column n q in omega arith), (let l : m ≤ t.column = a.0 in omega arith), own k (is_zero_false t.value p))
    go false p false q e ih = let h = ih e in (h.0, (let l : suc t.column ≤ j = h.1 in let k : m ≤ t.column = a.0 in omega arith), other h.1 h.2)

pub none_is_empty : (n c : ℕ) (f : List Entry) → nonzero_below n f ≡ None → c < n → product f (unit c) ≡ zero_ℚ
none_is_empty n c [] e l = refl
none_is_empty n c (t ∷ f) e l = go (is_zero t.value) refl (ltb t.column n) refl e (λ k. none_is_empty n c f k l)
  where
    go : (b : Bool) → is_zero t.value ≡ b → (d : Bool) → ltb t.column n ≡ d → ◌≡◌ {A = Option ℕ} (elim (not b && d) [ true ↦ Some t.column | false ↦ nonzero_below n f ]) None
        → (nonzero_below n f ≡ None → product f (unit c) ≡ zero_ℚ) → product (t ∷ f) (unit c) ≡ zero_ℚ
    go true p d q e ih = by_eqs (t.value ∷ unit t.column c ∷ unit c t.column ∷ product f (unit c) ∷ []) (by_eq (unit c t.column) (is_zero_true t.value p) (by_eq one_ℚ (ih e) done)) (search terms depth 40) tt
    go false p true q e ih = absurd (cc)
    go false p false q e ih =
        let k : n ≤ t.column = ltb-false t.column n q in
        let apart : eqb t.column c ≡ false = ne_eqb t.column c (λ h. absurd (omega arith)) in
        let z : product f (unit c) ≡ zero_ℚ = ih e in
        rw (apart, z) (by_ring (t.value ∷ []) (search terms depth 40) tt)

-- ---- points and rays are 0 from column n on
pub point_ends : (n c : ℕ) (rows : List Row) → n ≤ c → AllRows (Settled n) rows → point rows c ≡ zero_ℚ
point_ends n c [] l s = refl
point_ends n c (r ∷ rows) l s = by_eqs (r.line.right ∷ unit r.basic c ∷ point rows c ∷ []) (by_eq one_ℚ (own s.0) (by_eq one_ℚ (point_ends n c rows l s.1) done)) (search terms depth 40) tt
  where
    own : Settled n r → r.line.right *ℚ unit r.basic c ≡ zero_ℚ
    own (inl h) = rw (ne_eqb c r.basic (λ e. omega arith)) (by_ring (r.line.right ∷ []) (search terms depth 40) tt)
    own (inr h) = by_eqs (r.line.right ∷ unit r.basic c ∷ []) (by_eq (unit r.basic c) h.right done) (search terms depth 40) tt

pub ray_ends : (n j c : ℕ) (rows : List Row) → j < n → n ≤ c → AllLines (λ line. Ascending 0 line.entries) rows → AllRows (Settled n) rows → ray j rows c ≡ zero_ℚ
ray_ends n j c [] l k a s = ap (λ (b : Bool). value_if b one_ℚ) (ne_eqb c j (λ e. omega arith))
ray_ends n j c (r ∷ rows) l k a s = by_eqs (value_at r.line.entries j ∷ unit r.basic c ∷ ray j rows c ∷ []) (by_eq (neg_ℚ one_ℚ) (own s.0) (by_eq one_ℚ (ray_ends n j c rows l k a.1 s.1) done)) (search terms depth 40) tt
  where
    own : Settled n r → value_at r.line.entries j *ℚ unit r.basic c ≡ zero_ℚ
    own (inl h) = rw (ne_eqb c r.basic (λ e. omega arith)) (by_ring (value_at r.line.entries j ∷ []) (search terms depth 40) tt)
    own (inr h) = by_eqs (value_at r.line.entries j ∷ unit r.basic c ∷ []) (by_eq (unit r.basic c) (sym (value_is 0 j r.line.entries a.0) ∙ h.entries j l) done) (search terms depth 40) tt
