-- What is taken away entry by entry is what is taken away row by row.
use Rattle.std.proofs.Common.{◌≡◌, ℕ, suc, ◌<◌, ◌≤◌, Bool, true, false, eqb, List, [], ◌∷◌, Result, Ok, Err, refl, sym, ap, ap₂, ◌∙◌, arith, eqb-true}
use Rattle.std.proofs.lemmas.Bool.{ne_eqb}
use Rattle.rationals.specs.Rational.{ℚ, zero_ℚ, ◌+ℚ◌, zero_add_ℚ, add_zero_ℚ, zero_mul_ℚ}
use Rattle.rationals.specs.Sparse.{Entry, coefficient, value_if, Ascending}
use Rattle.rationals.specs.Passes.{Operation, less_product_walk, then_walk, IsNarrow}
use Rattle.rationals.specs.Choices.{pick}
use Rattle.rationals.proofs.WalkLaws.{less_zero_product}
use Rattle.scen_model.specs.Gathered.{entries_from}

-- ---- a column that stands nowhere in the entries
absent_coefficient : (c j : ℕ) (es : List Entry) → j < c → Ascending c es → coefficient es j ≡ zero_ℚ
absent_coefficient c j [] h a = refl
absent_coefficient c j (e ∷ es) h a =
    let above : c ≤ e.column = a.0 in
    ap₂ (λ b q. value_if b e.value +ℚ q) (ne_eqb e.column j (λ same. omega (arith, same, h, above))) (absent_coefficient (suc e.column) j es (omega arith) a.1) ∙ zero_add_ℚ zero_ℚ

absent_entries : (c j : ℕ) (y s : ℚ) (es : List Entry) → j < c → Ascending c es → entries_from y j s es ≡ Ok s
absent_entries c j y s [] h a = refl
absent_entries c j y s (e ∷ es) h a =
    let above : c ≤ e.column = a.0 in
    ap (λ b. then_walk (pick b (less_product_walk s e.value y) (Ok s)) (λ t. entries_from y j t es)) (ne_eqb e.column j (λ same. omega (arith, same, h, above)))
    ∙ absent_entries (suc e.column) j y s es (omega arith) a.1

-- ---- entries whose columns rise
only : (w : Result ℚ Operation) (t : ℚ) (f : ℚ → Result ℚ Operation) → ((u : ℚ) → f u ≡ Ok u) → then_walk w f ≡ Ok t → w ≡ Ok t
only (Ok u) t f h e = sym (h u) ∙ e
only (Err p) t f h e = absurd (cc)

pub entries_sum : (c j : ℕ) (y s t : ℚ) (es : List Entry) → Ascending c es → IsNarrow s → entries_from y j s es ≡ Ok t → less_product_walk s (coefficient es j) y ≡ Ok t
entries_sum c j y s t [] a f e = less_zero_product s zero_ℚ y f (zero_mul_ℚ y) ∙ e
entries_sum c j y s t (d ∷ es) a f e = go (eqb d.column j) refl (entries_sum (suc d.column) j y s t es a.1 f) e
  where
    go : (b : Bool) → eqb d.column j ≡ b → (entries_from y j s es ≡ Ok t → less_product_walk s (coefficient es j) y ≡ Ok t)
        → then_walk (pick b (less_product_walk s d.value y) (Ok s)) (λ u. entries_from y j u es) ≡ Ok t → less_product_walk s (value_if b d.value +ℚ coefficient es j) y ≡ Ok t
    go true p ih e =
        let same = eqb-true d.column j p in
        let below : j < suc d.column = omega (arith, same) in
        ap (λ q. less_product_walk s q y) (ap (λ q. d.value +ℚ q) (absent_coefficient (suc d.column) j es below a.1) ∙ add_zero_ℚ d.value)
        ∙ only (less_product_walk s d.value y) t (λ u. entries_from y j u es) (λ u. absent_entries (suc d.column) j y u es below a.1) e
    go false p ih e = ap (λ q. less_product_walk s q y) (zero_add_ℚ (coefficient es j)) ∙ ih e

-- ---- node by node
pub then_same : {A B P : Type 0} (r : Result A P) (f g : A → Result B P) → ((x : A) → f x ≡ g x) → then_walk r f ≡ then_walk r g
then_same (Ok x) f g h = h x
then_same (Err p) f g h = refl
