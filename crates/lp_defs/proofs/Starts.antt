-- Rows that end in unit columns are a start of a path, and say what the program says.
use Rattle.std.proofs.Common.{◌≡◌, ℕ, zero, suc, ◌<◌, ◌≤◌, ◌+◌, Bool, true, false, List, [], ◌∷◌, ◌++◌, eqb, length, refl, sym, ap, ap₂, ◌∙◌, arith, eqb-true, cond}
use Rattle.std.proofs.lemmas.Bool.{ne_eqb, eq-eqb, eqb-false}
use Rattle.rationals.specs.Rational.{ℚ, zero_ℚ, one_ℚ, ◌≤ℚ◌, le_refl_ℚ, by_ring, by_eqs, by_linear, by_linear_eq, terms}
use Rattle.rationals.specs.Ring.Eqs.{done, by_eq}
use Rattle.rationals.specs.Ring.Given.{fact, nothing}
use Rattle.rationals.specs.Sparse.{Entry, value_if, product, coefficient_is, Ascending}
use Rattle.rationals.specs.Forms.{EndsBelow}
use Rattle.lp_defs.specs.Lines.{value_at}
use Rattle.lp_defs.specs.Linear.{AllLines, AllRows, Solves, values, rights}
use Rattle.lp_defs.specs.Ends.{unit}
use Rattle.lp_defs.specs.Basis.{IsUnits}
use Rattle.lp_defs.specs.Program.{AllFormsBelow, NoneNegative, EndsInUnit, AllEndInUnits}
use Rattle.lp_defs.specs.Phases.{unit_rows, with_units, unit_costs}
use Rattle.lp_defs.specs.Certificates.{MeetsAll, AllZeroAt, column_of}
use Rattle.lp_defs.proofs.Linear.{product-append}

-- ---- unit columns

-- a form of columns below n is 0 at a later column
pub none_above : (n b : ℕ) (f : List Entry) → n ≤ b → EndsBelow n f → product f (unit b) ≡ zero_ℚ
none_above n b [] h e = refl
none_above n b (t ∷ f) h e =
    let k : t.column < n = e.0 in
    let apart : eqb t.column b ≡ false = ne_eqb t.column b (λ m. absurd (omega arith)) in
    let ih : product f (unit b) ≡ zero_ℚ = none_above n b f h e.1 in
    rw (apart, ih) (by_ring (t.value ∷ []) (search terms depth 40) tt)

-- a row that ends with 1 in column j, at column b
ended_at : (n j b : ℕ) (f : List Entry) → n ≤ b → EndsInUnit n j f → product f (unit b) ≡ value_if (eqb j b) one_ℚ
ended_at n j b f h u =
    ap (λ (g : List Entry). product g (unit b)) u.is
    ∙ product-append u.front (record { column = j; value = one_ℚ } ∷ []) (unit b)
    ∙ by_eqs (product u.front (unit b) ∷ value_if (eqb j b) one_ℚ ∷ []) (by_eq one_ℚ (none_above n b u.front h u.below) done) (search terms depth 40) tt

pub own_unit : (n j : ℕ) (f : List Entry) → n ≤ j → EndsInUnit n j f → product f (unit j) ≡ one_ℚ
own_unit n j f h u = ended_at n j j f h u ∙ ap (λ (b : Bool). value_if b one_ℚ) (eq-eqb j j refl)

pub other_unit : (n j b : ℕ) (f : List Entry) → n ≤ b → (j ≡ b → ⊥) → EndsInUnit n j f → product f (unit b) ≡ zero_ℚ
other_unit n j b f h ne u = ended_at n j b f h u ∙ ap (λ (b : Bool). value_if b one_ℚ) (ne_eqb j b ne)

-- rows from column k on, of which k is above j
later_rows : (n j k : ℕ) (f : List Entry) (rows : List (List Entry)) (right : List ℚ) → n ≤ j → j < k → EndsInUnit n j f → AllEndInUnits n k rows → AllRows (λ s. product f (unit s.basic) ≡ zero_ℚ) (unit_rows k rows right)
later_rows n j k f [] right h l u a = tt
later_rows n j k f (g ∷ rows) [] h l u a = tt
later_rows n j k f (g ∷ rows) (b ∷ right) h l u a = (other_unit n j k f (omega arith) (λ e. omega arith) u, later_rows n j (suc k) f rows right h (omega arith) u a.1)

later_units : (n j k : ℕ) (rows : List (List Entry)) (right : List ℚ) → n ≤ j → j < k → AllEndInUnits n k rows → AllRows (λ s. product s.line.entries (unit j) ≡ zero_ℚ) (unit_rows k rows right)
later_units n j k [] right h l a = tt
later_units n j k (g ∷ rows) [] h l a = tt
later_units n j k (g ∷ rows) (b ∷ right) h l a = (other_unit n k j g h (λ e. omega arith) a.0, later_units n j (suc k) rows right h (omega arith) a.1)

pub units_of : (n j : ℕ) (rows : List (List Entry)) (right : List ℚ) → n ≤ j → AllEndInUnits n j rows → IsUnits (unit_rows j rows right)
units_of n j [] right h a = tt
units_of n j (f ∷ rows) [] h a = tt
units_of n j (f ∷ rows) (b ∷ right) h a = (own_unit n j f h a.0, later_rows n j (suc j) f rows right h (omega arith) a.0 a.1, later_units n j (suc j) rows right h (omega arith) a.1, units_of n (suc j) rows right (omega arith) a.1)

pub basics_below : (j m : ℕ) (rows : List (List Entry)) (right : List ℚ) → j + length rows ≤ m → AllRows (λ r. r.basic < m) (unit_rows j rows right)
basics_below j m [] right h = tt
basics_below j m (f ∷ rows) [] h = tt
basics_below j m (f ∷ rows) (b ∷ right) h = (omega arith, basics_below (suc j) m rows right (omega arith))

-- a form of columns below n costs nothing at the basic columns
pub free_at_units : (n j : ℕ) (cost : List Entry) (rows : List (List Entry)) (right : List ℚ) → n ≤ j → EndsBelow n cost → AllRows (λ r. product cost (unit r.basic) ≡ zero_ℚ) (unit_rows j rows right)
free_at_units n j cost [] right h e = tt
free_at_units n j cost (f ∷ rows) [] h e = tt
free_at_units n j cost (f ∷ rows) (b ∷ right) h e = (none_above n j cost h e, free_at_units n (suc j) cost rows right (omega arith) e)

pub rights_above : (j : ℕ) (rows : List (List Entry)) (right : List ℚ) → NoneNegative right → AllLines (λ line. zero_ℚ ≤ℚ line.right) (unit_rows j rows right)
rights_above j [] right h = tt
rights_above j (f ∷ rows) [] h = tt
rights_above j (f ∷ rows) (b ∷ right) h = (h.0, rights_above (suc j) rows right h.1)

-- ---- forms with their artificial columns

pub units_at_end : (n j : ℕ) (rows : List (List Entry)) → AllFormsBelow n rows → AllEndInUnits n j (with_units j rows)
units_at_end n j [] h = tt
units_at_end n j (f ∷ rows) h = (record { front = f; below = h.0.below; is = refl }, units_at_end n (suc j) rows h.1)

pub length_with_units : (j : ℕ) (rows : List (List Entry)) → length (with_units j rows) ≡ length rows
length_with_units j [] = refl
length_with_units j (f ∷ rows) = let k : length (with_units (suc j) rows) ≡ length rows = length_with_units (suc j) rows in omega arith

one_behind : (n k j : ℕ) (f : List Entry) → k ≤ j → n ≤ j → Ascending k f → EndsBelow n f → Ascending k (f ++ record { column = j; value = one_ℚ } ∷ [])
one_behind n k j [] h l a e = (h, tt)
one_behind n k j (t ∷ f) h l a e = (a.0, one_behind n (suc t.column) j f (let m : t.column < n = e.0 in omega arith) l a.1 e.1)

pub rows_rise : (n j : ℕ) (rows : List (List Entry)) (right : List ℚ) → n ≤ j → AllFormsBelow n rows → AllLines (λ line. Ascending 0 line.entries) (unit_rows j (with_units j rows) right)
rows_rise n j [] right l h = tt
rows_rise n j (f ∷ rows) [] l h = tt
rows_rise n j (f ∷ rows) (b ∷ right) l h = (one_behind n 0 j f (omega arith) l h.0.form.rises h.0.below, rows_rise n (suc j) rows right (omega arith) h.1)

-- the value of a form with its artificial column
with_unit_is : (j : ℕ) (f : List Entry) (x : ℕ → ℚ) → x j ≡ zero_ℚ → product (f ++ record { column = j; value = one_ℚ } ∷ []) x ≡ product f x
with_unit_is j f x z = product-append f (record { column = j; value = one_ℚ } ∷ []) x ∙ by_eqs (product f x ∷ x j ∷ []) (by_eq one_ℚ z done) (search terms depth 40) tt

-- ---- what the rows say where the artificial columns are 0

pub meets_of : (n j : ℕ) (rows : List (List Entry)) (right : List ℚ) (x : ℕ → ℚ) → n ≤ j → ((c : ℕ) → n ≤ c → x c ≡ zero_ℚ) → length right ≡ length rows → Solves (unit_rows j (with_units j rows) right) x → MeetsAll rows right x
meets_of n j [] right x l z h s = tt
meets_of n j (f ∷ rows) [] x l z h s = absurd (omega arith)
meets_of n j (f ∷ rows) (b ∷ right) x l z h s = (sym (with_unit_is j f x (z j l)) ∙ s.0, meets_of n (suc j) rows right x (omega arith) z (omega arith) s.1)

pub stays_of : (n j : ℕ) (rows : List (List Entry)) (right : List ℚ) (d : ℕ → ℚ) → n ≤ j → ((c : ℕ) → n ≤ c → d c ≡ zero_ℚ) → length right ≡ length rows → AllLines (λ line. product line.entries d ≡ zero_ℚ) (unit_rows j (with_units j rows) right) → AllZeroAt rows d
stays_of n j [] right d l z h s = tt
stays_of n j (f ∷ rows) [] d l z h s = absurd (omega arith)
stays_of n j (f ∷ rows) (b ∷ right) d l z h s = (sym (with_unit_is j f d (z j l)) ∙ s.0, stays_of n (suc j) rows right d (omega arith) z (omega arith) s.1)

unit_elsewhere : (j c : ℕ) → c < j → unit c j ≡ zero_ℚ
unit_elsewhere j c h = ap (λ (b : Bool). value_if b one_ℚ) (ne_eqb j c (λ e. omega arith))

pub column_is : (n j c : ℕ) (rows : List (List Entry)) (right : List ℚ) → c < n → n ≤ j → length right ≡ length rows → values (unit_rows j (with_units j rows) right) (unit c) ≡ column_of rows c
column_is n j c [] right l k h = refl
column_is n j c (f ∷ rows) [] l k h = absurd (omega arith)
column_is n j c (f ∷ rows) (b ∷ right) l k h = ap₂ (λ (v : ℚ) (l : List ℚ). v ∷ l) (with_unit_is j f (unit c) (unit_elsewhere j c (omega arith)) ∙ sym (coefficient_is f c)) (column_is n (suc j) c rows right l (omega arith) (omega arith))

pub right_is : (j : ℕ) (rows : List (List Entry)) (right : List ℚ) → length right ≡ length rows → rights (unit_rows j rows right) ≡ right
right_is j [] [] h = refl
right_is j [] (b ∷ right) h = absurd (omega arith)
right_is j (f ∷ rows) [] h = absurd (omega arith)
right_is j (f ∷ rows) (b ∷ right) h = ap (λ (l : List ℚ). b ∷ l) (right_is (suc j) rows right (omega arith))

-- ---- the costs of phase one

pub costs_rise : (k j m : ℕ) → k ≤ j → Ascending k (unit_costs j m)
costs_rise k j zero h = tt
costs_rise k j (suc m) h = (h, costs_rise (suc j) (suc j) m (omega arith))

pub costs_above : (j m : ℕ) (x : ℕ → ℚ) → ((c : ℕ) → zero_ℚ ≤ℚ x c) → zero_ℚ ≤ℚ product (unit_costs j m) x
costs_above j zero x h = le_refl_ℚ zero_ℚ
costs_above j (suc m) x h = by_linear (x j ∷ product (unit_costs (suc j) m) x ∷ []) (fact (h j) (fact (costs_above (suc j) m x h) nothing)) (search terms depth 40) tt

pub costs_zero : (j m : ℕ) (x : ℕ → ℚ) → ((c : ℕ) → zero_ℚ ≤ℚ x c) → product (unit_costs j m) x ≤ℚ zero_ℚ → (c : ℕ) → j ≤ c → c < j + m → x c ≡ zero_ℚ
costs_zero j zero x h k c l u = absurd (omega arith)
costs_zero j (suc m) x h k c l u = go (eqb c j) refl (λ a b. costs_zero (suc j) m x h (by_linear (x j ∷ product (unit_costs (suc j) m) x ∷ []) (fact k (fact (h j) nothing)) (search terms depth 40) tt) c a b)
  where
    go : (b : Bool) → eqb c j ≡ b → (suc j ≤ c → c < suc j + m → x c ≡ zero_ℚ) → x c ≡ zero_ℚ
    go true e ih = ap x (eqb-true c j e) ∙ by_linear_eq (x j ∷ product (unit_costs (suc j) m) x ∷ []) (fact k (fact (h j) (fact (costs_above (suc j) m x h) nothing))) (search terms depth 40) tt
    go false e ih = ih (let ne : ¬ (c ≡ j) = eqb-false c j e in omega arith) (omega arith)

pub costs_below : (n j m c : ℕ) → c < n → n ≤ j → product (unit_costs j m) (unit c) ≡ zero_ℚ
costs_below n j zero c h l = refl
costs_below n j (suc m) c h l = by_eqs (unit c j ∷ product (unit_costs (suc j) m) (unit c) ∷ []) (by_eq one_ℚ (unit_elsewhere j c (omega arith)) (by_eq one_ℚ (costs_below n (suc j) m c h (omega arith)) done)) (search terms depth 40) tt

pub cost_is_one : (j m c : ℕ) → j ≤ c → c < j + m → value_at (unit_costs j m) c ≡ one_ℚ
cost_is_one j zero c l u = absurd (omega arith)
cost_is_one j (suc m) c l u = go (eqb j c) refl (λ a b. cost_is_one (suc j) m c a b)
  where
    go : (b : Bool) → eqb j c ≡ b → (suc j ≤ c → c < suc j + m → value_at (unit_costs (suc j) m) c ≡ one_ℚ) → cond b one_ℚ (value_at (unit_costs (suc j) m) c) ≡ one_ℚ
    go true e ih = refl
    go false e ih = ih (let ne : ¬ (j ≡ c) = eqb-false j c e in omega arith) (omega arith)
