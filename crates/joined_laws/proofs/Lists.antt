-- Lists of numbers by node that fit a program.
use Rattle.std.proofs.Common.{◌≡◌, ℕ, suc, ◌+◌, Bool, true, false, ◌&&◌, List, [], ◌∷◌, refl, ap, subst, ◌∙◌, arith}
use Rattle.rationals.specs.Rational.{zero_ℚ}
use Rattle.rationals.specs.Sparse.{Entry}
use Rattle.rationals.specs.Choices.{pick}
use Rattle.scen_defs.specs.Lists.{Each}
use Rattle.scen_defs.specs.Values.{At}
use Rattle.scen_defs.specs.Program.{Program, node_at}
use Rattle.scen_defs.specs.Valid.{Lives}
use Rattle.scen_model.specs.Derived.{is_row_of, is_column_of, fits_at, all_fit}
use Rattle.edit_defs.proofs.Lists.{each-append}
use Rattle.dual_assemble.specs.Walks.{form_at}
use Rattle.dual_assemble.specs.Values.{is_place, number_at, node_values, numbers_by_node}

-- ---- what holds of the place of each number
module _ (P : ℕ → ℕ → Type 0) where
  node_each : (n : ℕ) (f : List Entry) → Each (λ (e : Entry). P n e.column) f → Each (λ (a : At). P a.node a.index) (node_values n f)
  node_each n [] h = tt
  node_each n (e ∷ f) h =
      each-append (λ (a : At). P a.node a.index) (number_at n e.column e.value) (node_values n f) (one (is_place n e.column))
      (node_each n f h.1)
    where
      one : (b : Bool) → Each (λ (a : At). P a.node a.index) (pick b (record { node = n; index = e.column; value = e.value } ∷ []) [])
      one true = (h.0, tt)
      one false = tt

  numbers_each : (n : ℕ) (fs : List (List Entry)) → ((k : ℕ) → Each (λ (e : Entry). P (n + k) e.column) (form_at fs k))
      → Each (λ (a : At). P a.node a.index) (numbers_by_node n fs)
  numbers_each n [] h = tt
  numbers_each n (f ∷ fs) h =
      each-append (λ (a : At). P a.node a.index) (node_values n f) (numbers_by_node (n + 1) fs)
      (node_each n f (subst (λ (m : ℕ). Each (λ (e : Entry). P m e.column) f) (let d : n + 0 ≡ n = omega arith in d) (h 0)))
      (numbers_each (n + 1) fs (λ k. subst (λ (m : ℕ). Each (λ (e : Entry). P m e.column) (form_at fs k))
      (let d : n + suc k ≡ n + 1 + k = omega arith in d) (h (suc k))))

  pub all_each : (fs : List (List Entry)) → ((n : ℕ) → Each (λ (e : Entry). P n e.column) (form_at fs n))
      → Each (λ (a : At). P a.node a.index) (numbers_by_node 0 fs)
  all_each fs h = numbers_each 0 fs (λ k. subst (λ (m : ℕ). Each (λ (e : Entry). P m e.column) (form_at fs k))
      (let d : k ≡ 0 + k = omega arith in d) (h k))

-- ---- places that fit
abbrev pub FitsAt : Program → Bool → ℕ → ℕ → Type 0
FitsAt p of_rows n i = fits_at p of_rows (record { node = n; index = i; value = zero_ℚ }) ≡ true

pub column_fits : (p : Program) (n j : ℕ) → Lives p n → is_column_of p (node_at p.nodes n).stage j ≡ true → FitsAt p false n j
column_fits p n j l e = ap (λ (b : Bool). b && is_column_of p (node_at p.nodes n).stage j) l ∙ e

pub row_fits : (p : Program) (n i : ℕ) → Lives p n → is_row_of p (node_at p.nodes n).stage i ≡ true → FitsAt p true n i
row_fits p n i l e = ap (λ (b : Bool). b && is_row_of p (node_at p.nodes n).stage i) l ∙ e

-- a list fits whose places fit
pub all_fits : (p : Program) (of_rows : Bool) (values : List At) → Each (λ (a : At). FitsAt p of_rows a.node a.index) values
    → all_fit p of_rows values ≡ true
all_fits p of_rows [] h = refl
all_fits p of_rows (a ∷ values) h = ap (λ (b : Bool). b && all_fit p of_rows values) h.0 ∙ all_fits p of_rows values h.1
