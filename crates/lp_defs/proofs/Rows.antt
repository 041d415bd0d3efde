-- What a pivot does to all rows.
use Rattle.std.proofs.Common.{◌≡◌, ℕ, zero, suc, ◌<◌, List, [], ◌∷◌, ◌++◌, Ok, length, take, drop, refl, sym, ap, ◌∙◌, subst, arith}
use Rattle.std.specs.List.{remove, insert}
use Rattle.std.proofs.lemmas.List.{take-append-drop, append_assoc}
use Rattle.rationals.specs.Passes.{then_walk}
use Rattle.rationals.specs.Rational.{ℚ, zero_ℚ, one_ℚ, ◌+ℚ◌, ◌-ℚ◌, ◌*ℚ◌, neg_ℚ, inv_ℚ, mul_inv_ℚ, by_eqs, terms}
use Rattle.rationals.specs.Ring.Eqs.{done, by_eq}
use Rattle.rationals.specs.Sums.{dot, add_rows, scale_row, dot-add_rows, dot-scale_row}
use Rattle.lp_defs.specs.Walks.{after_ok}
use Rattle.rationals.specs.Sparse.{Entry, product}
use Rattle.lp_defs.specs.Lines.{Line, cleared, cleared_form, value_at, divided}
use Rattle.lp_defs.specs.Path.{Row, Tableau, row_at, cleared_row, cleared_rows, pivoted}
use Rattle.lp_defs.specs.Linear.{Holds, AllLines, Solves, values, rights, FormLess, Less, Times, Combines, Prices, IsTied}
use Rattle.lp_defs.proofs.Linear.{cleared_is, cleared_form_is, divided_is}

-- ---- one property of all lines
pub all_join : (P : Line → Type 0) (a b : List Row) → AllLines P a → AllLines P b → AllLines P (a ++ b)
all_join P [] b h k = k
all_join P (r ∷ a) b h k = (h.0, all_join P a b h.1 k)

pub all_front : (P : Line → Type 0) (a b : List Row) → AllLines P (a ++ b) → AllLines P a
all_front P [] b h = tt
all_front P (r ∷ a) b h = (h.0, all_front P a b h.1)

pub all_back : (P : Line → Type 0) (a b : List Row) → AllLines P (a ++ b) → AllLines P b
all_back P [] b h = h
all_back P (r ∷ a) b h = all_back P a b h.1

pub all_insert : (P : Line → Type 0) (rows : List Row) (i : ℕ) (r : Row) → AllLines P rows → P r.line → AllLines P (insert rows i r)
all_insert P rows i r h k =
    let g : AllLines P (take i rows ++ drop i rows) = subst (AllLines P) (sym (take-append-drop i rows)) h in
    all_join P (take i rows) (r ∷ drop i rows) (all_front P (take i rows) (drop i rows) g) (k, all_back P (take i rows) (drop i rows) g)

pub all_uninsert : (P : Line → Type 0) (rows : List Row) (i : ℕ) (r : Row) → AllLines P (insert rows i r) → AllLines P rows × P r.line
all_uninsert P rows i r h =
    let b : AllLines P (r ∷ drop i rows) = all_back P (take i rows) (r ∷ drop i rows) h in
    (subst (AllLines P) (take-append-drop i rows) (all_join P (take i rows) (drop i rows) (all_front P (take i rows) (r ∷ drop i rows) h) b.1), b.0)

-- the row that is taken out goes back to its place
pub put_back : (rows : List Row) (i : ℕ) → i < length rows → insert (remove rows i) i (row_at rows i) ≡ rows
put_back [] i h = absurd (omega arith)
put_back (r ∷ rows) zero h = refl
put_back (r ∷ rows) (suc i) h = ap (λ (l : List Row). r ∷ l) (put_back rows i (omega arith))

-- ---- the other rows, old and new
abbrev pub Each : ℕ → Line → List Row → List Row → Type 0
Each j pivot [] [] = Unit {0}
Each j pivot [] (n ∷ ns) = ⊥
Each j pivot (r ∷ rs) [] = ⊥
Each j pivot (r ∷ rs) (n ∷ ns) = (n.basic ≡ r.basic) × Less (value_at r.line.entries j) r.line pivot n.line × Each j pivot rs ns

row_is : (j : ℕ) (pivot : Line) (r n : Row) → cleared_row j pivot r ≡ Ok n → (n.basic ≡ r.basic) × Less (value_at r.line.entries j) r.line pivot n.line
row_is j pivot r n e =
    let u = after_ok (cleared j pivot r.line) (λ line. Ok (record { basic = r.basic; line = line })) n e in
    let h : record { basic = r.basic; line = u.0 } ≡ n = cc in
    (ap (λ (x : Row). x.basic) (sym h), subst (λ (x : Row). Less (value_at r.line.entries j) r.line pivot x.line) h (cleared_is (value_at r.line.entries j) pivot r.line u.0 u.1))

pub rows_are : (j : ℕ) (pivot : Line) (rows d all : List Row) → cleared_rows j pivot rows d ≡ Ok all → (new : List Row) × (all ≡ d ++ new) × Each j pivot rows new
rows_are j pivot [] d all e = ([], (let h : all ≡ d = cc in h ∙ sym (append_nil d)), tt)
  where
    append_nil : (l : List Row) → l ++ [] ≡ l
    append_nil [] = refl
    append_nil (x ∷ l) = ap (λ (m : List Row). x ∷ m) (append_nil l)
rows_are j pivot (r ∷ rows) d all e =
    let u = after_ok (cleared_row j pivot r) (λ new. cleared_rows j pivot rows (d ++ new ∷ [])) all e in
    let ih = rows_are j pivot rows (d ++ u.0 ∷ []) all u.2 in
    let k = row_is j pivot r u.0 u.1 in
    (u.0 ∷ ih.0, ih.1 ∙ append_assoc d (u.0 ∷ []) ih.0, (k.0, k.1, ih.2))

-- ---- a pivot
pub record Pivots (j i : ℕ) (t u : Tableau) : Type 0 where
  pub pivot : Line
  pub others : List Row
  pub scaled : Times (inv_ℚ (value_at (row_at t.rows i).line.entries j)) (row_at t.rows i).line pivot
  pub each : Each j pivot (remove t.rows i) others
  pub rows : u.rows ≡ insert others i (record { basic = j; line = pivot })
  pub objective : FormLess (value_at t.objective j) t.objective pivot.entries u.objective

pub pivots : (j i : ℕ) (t u : Tableau) → pivoted j i t ≡ Ok u → Pivots j i t u
pivots j i t u e =
    let line : Line = (row_at t.rows i).line in
    let a = after_ok (divided (value_at line.entries j) line) (λ pivot. then_walk (cleared_rows j pivot (remove t.rows i) []) (λ rows. then_walk (cleared_form (value_at t.objective j) pivot.entries t.objective) (λ objective. Ok (record { rows = insert rows i (record { basic = j; line = pivot }); objective = objective })))) u e in
    let b = after_ok (cleared_rows j a.0 (remove t.rows i) []) (λ rows. then_walk (cleared_form (value_at t.objective j) a.0.entries t.objective) (λ objective. Ok (record { rows = insert rows i (record { basic = j; line = a.0 }); objective = objective }))) u a.2 in
    let c = after_ok (cleared_form (value_at t.objective j) a.0.entries t.objective) (λ objective. Ok (record { rows = insert b.0 i (record { basic = j; line = a.0 }); objective = objective })) u b.2 in
    let h : record { rows = insert b.0 i (record { basic = j; line = a.0 }); objective = c.0 } ≡ u = cc in
    let n = rows_are j a.0 (remove t.rows i) [] b.0 b.1 in
    record {
      pivot = a.0;
      others = b.0;
      scaled = divided_is (value_at line.entries j) line a.0 a.1;
      each = subst (Each j a.0 (remove t.rows i)) (sym n.1) n.2;
      rows = ap (λ (x : Tableau). x.rows) (sym h);
      objective = subst (λ (x : Tableau). FormLess (value_at t.objective j) t.objective a.0.entries x.objective) h (cleared_form_is (value_at t.objective j) a.0.entries t.objective c.0 c.1);
    }

-- ---- solutions
less_holds : (f : ℚ) (line pivot new : Line) (x : ℕ → ℚ) → Less f line pivot new → Holds x pivot → Holds x line → Holds x new
less_holds f line pivot new x l h k = by_eqs (product new.entries x ∷ product line.entries x ∷ product pivot.entries x ∷ new.right ∷ line.right ∷ pivot.right ∷ f ∷ [])
    (by_eq one_ℚ (l.entries x) (by_eq (neg_ℚ one_ℚ) l.right (by_eq (neg_ℚ f) h (by_eq one_ℚ k done)))) (search terms depth 40) tt

less_held : (f : ℚ) (line pivot new : Line) (x : ℕ → ℚ) → Less f line pivot new → Holds x pivot → Holds x new → Holds x line
less_held f line pivot new x l h k = by_eqs (product new.entries x ∷ product line.entries x ∷ product pivot.entries x ∷ new.right ∷ line.right ∷ pivot.right ∷ f ∷ [])
    (by_eq (neg_ℚ one_ℚ) (l.entries x) (by_eq one_ℚ l.right (by_eq f h (by_eq one_ℚ k done)))) (search terms depth 40) tt

each_solves : (j : ℕ) (pivot : Line) (rows new : List Row) (x : ℕ → ℚ) → Each j pivot rows new → Holds x pivot → Solves rows x → Solves new x
each_solves j pivot [] [] x e h k = tt
each_solves j pivot [] (n ∷ ns) x e h k = absurd e
each_solves j pivot (r ∷ rs) [] x e h k = absurd e
each_solves j pivot (r ∷ rs) (n ∷ ns) x e h k = (less_holds (value_at r.line.entries j) r.line pivot n.line x e.1 h k.0, each_solves j pivot rs ns x e.2 h k.1)

each_solved : (j : ℕ) (pivot : Line) (rows new : List Row) (x : ℕ → ℚ) → Each j pivot rows new → Holds x pivot → Solves new x → Solves rows x
each_solved j pivot [] [] x e h k = tt
each_solved j pivot [] (n ∷ ns) x e h k = absurd e
each_solved j pivot (r ∷ rs) [] x e h k = absurd e
each_solved j pivot (r ∷ rs) (n ∷ ns) x e h k = (less_held (value_at r.line.entries j) r.line pivot n.line x e.1 h k.0, each_solved j pivot rs ns x e.2 h k.1)

-- a pivot on an entry that is not 0 keeps the solutions
pub pivot_keeps : (j i : ℕ) (t u : Tableau) (x : ℕ → ℚ) → Pivots j i t u → i < length t.rows → Solves t.rows x → Solves u.rows x
pivot_keeps j i t u x p h s =
    let r : Row = row_at t.rows i in
    let g = all_uninsert (Holds x) (remove t.rows i) i r (subst (λ (l : List Row). Solves l x) (sym (put_back t.rows i h)) s) in
    let k : Holds x p.pivot = p.scaled.entries x ∙ ap (λ (v : ℚ). inv_ℚ (value_at r.line.entries j) *ℚ v) g.1 ∙ sym p.scaled.right in
    subst (λ (l : List Row). Solves l x) (sym p.rows) (all_insert (Holds x) p.others i (record { basic = j; line = p.pivot }) (each_solves j p.pivot (remove t.rows i) p.others x p.each k g.0) k)

unscale : (a : ℚ) (line new : Line) (x : ℕ → ℚ) → (a ≡ zero_ℚ → ⊥) → Times (inv_ℚ a) line new → Holds x new → Holds x line
unscale a line new x ne s h =
    let e : a *ℚ inv_ℚ a ≡ one_ℚ = mul_inv_ℚ a ne in
    by_eqs (a ∷ inv_ℚ a ∷ product line.entries x ∷ product new.entries x ∷ line.right ∷ new.right ∷ [])
    (by_eq (neg_ℚ a) (s.entries x) (by_eq a s.right (by_eq a h (by_eq (line.right -ℚ product line.entries x) e done)))) (search terms depth 40) tt

pub pivot_kept : (j i : ℕ) (t u : Tableau) (x : ℕ → ℚ) → Pivots j i t u → i < length t.rows → (value_at (row_at t.rows i).line.entries j ≡ zero_ℚ → ⊥) → Solves u.rows x → Solves t.rows x
pivot_kept j i t u x p h ne s =
    let r : Row = row_at t.rows i in
    let g = all_uninsert (Holds x) p.others i (record { basic = j; line = p.pivot }) (subst (λ (l : List Row). Solves l x) p.rows s) in
    subst (λ (l : List Row). Solves l x) (put_back t.rows i h)
    (all_insert (Holds x) (remove t.rows i) i r (each_solved j p.pivot (remove t.rows i) p.others x p.each g.1 g.0) (unscale (value_at r.line.entries j) r.line p.pivot x ne p.scaled g.1))

-- ---- sums of rows
times_combines : (rows : List Row) (y : List ℚ) (c : ℚ) (line new : Line) → Times c line new → Combines rows y line → Combines rows (scale_row c y) new
times_combines rows y c line new s k = record {
  entries = λ x. s.entries x ∙ ap (λ (v : ℚ). c *ℚ v) (k.entries x) ∙ sym (dot-scale_row c y (values rows x));
  right = s.right ∙ ap (λ (v : ℚ). c *ℚ v) k.right ∙ sym (dot-scale_row c y (rights rows));
}

minus : (a b c d f n : ℚ) → n ≡ a -ℚ f *ℚ b → a ≡ c → b ≡ d → n ≡ c +ℚ neg_ℚ f *ℚ d
minus a b c d f n h k l = by_eqs (a ∷ b ∷ c ∷ d ∷ f ∷ n ∷ []) (by_eq one_ℚ h (by_eq one_ℚ k (by_eq (neg_ℚ f) l done))) (search terms depth 40) tt

sum_scaled : (y z : List ℚ) (c : ℚ) (v : List ℚ) → dot y v +ℚ c *ℚ dot z v ≡ dot (add_rows y (scale_row c z)) v
sum_scaled y z c v = ap (λ (w : ℚ). dot y v +ℚ w) (sym (dot-scale_row c z v)) ∙ sym (dot-add_rows y (scale_row c z) v)

less_combines : (rows : List Row) (y z : List ℚ) (f : ℚ) (line pivot new : Line) → Less f line pivot new → Combines rows y line → Combines rows z pivot → Combines rows (add_rows y (scale_row (neg_ℚ f) z)) new
less_combines rows y z f line pivot new l k m = record {
  entries = λ x. minus (product line.entries x) (product pivot.entries x) (dot y (values rows x)) (dot z (values rows x)) f (product new.entries x) (l.entries x) (k.entries x) (m.entries x) ∙ sum_scaled y z (neg_ℚ f) (values rows x);
  right = minus line.right pivot.right (dot y (rights rows)) (dot z (rights rows)) f new.right l.right k.right m.right ∙ sum_scaled y z (neg_ℚ f) (rights rows);
}

priced : (a b c d e f n : ℚ) → n ≡ a -ℚ f *ℚ b → a ≡ c -ℚ d → b ≡ e → n ≡ c -ℚ (d +ℚ f *ℚ e)
priced a b c d e f n h k l = by_eqs (a ∷ b ∷ c ∷ d ∷ e ∷ f ∷ n ∷ []) (by_eq one_ℚ h (by_eq one_ℚ k (by_eq (neg_ℚ f) l done))) (search terms depth 40) tt

pub less_prices : (cost : List Entry) (rows : List Row) (y z : List ℚ) (f : ℚ) (form new : List Entry) (pivot : Line) → FormLess f form pivot.entries new → Prices cost rows y form → Combines rows z pivot → Prices cost rows (add_rows y (scale_row f z)) new
less_prices cost rows y z f form new pivot l k m x =
    priced (product form x) (product pivot.entries x) (product cost x) (dot y (values rows x)) (dot z (values rows x)) f (product new x) (l x) (k x) (m.entries x) ∙ ap (λ (v : ℚ). product cost x -ℚ v) (sum_scaled y z f (values rows x))

abbrev Spans : List Row → Line → Type 0
Spans rows line = (y : List ℚ) × Combines rows y line

each_spans : (start : List Row) (j : ℕ) (pivot : Line) (rows new : List Row) → Each j pivot rows new → Spans start pivot → AllLines (Spans start) rows → AllLines (Spans start) new
each_spans start j pivot [] [] e h k = tt
each_spans start j pivot [] (n ∷ ns) e h k = absurd e
each_spans start j pivot (r ∷ rs) [] e h k = absurd e
each_spans start j pivot (r ∷ rs) (n ∷ ns) e h k =
    ((add_rows k.0.0 (scale_row (neg_ℚ (value_at r.line.entries j)) h.0), less_combines start k.0.0 h.0 (value_at r.line.entries j) r.line pivot n.line e.1 k.0.1 h.1), each_spans start j pivot rs ns e.2 h k.1)

-- a pivot on an entry that is not 0 keeps the program
pub tied_pivot : (cost : List Entry) (start : List Row) (j i : ℕ) (t u : Tableau) → Pivots j i t u → i < length t.rows → (value_at (row_at t.rows i).line.entries j ≡ zero_ℚ → ⊥) → IsTied cost start t → IsTied cost start u
tied_pivot cost start j i t u p h ne k =
    let r : Row = row_at t.rows i in
    let g = all_uninsert (Spans start) (remove t.rows i) i r (subst (AllLines (Spans start)) (sym (put_back t.rows i h)) k.spans) in
    let m : Spans start p.pivot = (scale_row (inv_ℚ (value_at r.line.entries j)) g.1.0, times_combines start g.1.0 (inv_ℚ (value_at r.line.entries j)) r.line p.pivot p.scaled g.1.1) in
    record {
      spans = subst (AllLines (Spans start)) (sym p.rows) (all_insert (Spans start) p.others i (record { basic = j; line = p.pivot }) (each_spans start j p.pivot (remove t.rows i) p.others p.each m g.0) m);
      prices = (add_rows k.prices.0 (scale_row (value_at t.objective j) m.0), less_prices cost start k.prices.0 m.0 (value_at t.objective j) t.objective u.objective p.pivot p.objective k.prices.1 m.1);
      back = λ x s. k.back x (pivot_kept j i t u x p h ne s);
    }
