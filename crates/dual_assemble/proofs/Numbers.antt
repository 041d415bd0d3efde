-- The number at a node and an index of forms by node.
use Rattle.std.proofs.Common.{◌≡◌, ℕ, zero, suc, ◌+◌, ◌<◌, Bool, true, false, ◌&&◌, eqb, List, [], ◌∷◌, ◌++◌, Ok, refl, sym, ap, ap₂, ◌∙◌, arith, append_assoc, eqb-true}
use Rattle.std.proofs.lemmas.Bool.{eq-eqb, ne_eqb, eqb-false, lt-ltb}
use Rattle.rationals.specs.Rational.{ℚ, zero_ℚ, one_ℚ, ◌+ℚ◌, zero_add_ℚ, add_zero_ℚ}
use Rattle.rationals.specs.Sparse.{Entry, Ascending, coefficient, value_if}
use Rattle.rationals.specs.Forms.{IsForm}
use Rattle.rationals.specs.Choices.{pick}
use Rattle.scen_defs.specs.Lists.{Each}
use Rattle.scen_defs.specs.Values.{At, at}
use Rattle.cut_defs.specs.Stored.{Stored}
use Rattle.cut_defs.specs.Current.{stored_flat}
use Rattle.dual_assemble.specs.Walks.{form_at, flat_from}
use Rattle.dual_assemble.specs.Values.{is_place, number_at, node_values, numbers_by_node}
use Rattle.dual_assemble.proofs.FlatEnds.{flats_are_exact}

none_below : (n c : ℕ) (f : List Entry) → Ascending n f → c < n → coefficient f c ≡ zero_ℚ
none_below n c [] a h = refl
none_below n c (e ∷ f) a h =
    let other : eqb e.column c ≡ false = ne_eqb e.column c (λ q. absurd (omega (arith, a.0))) in
    ap (λ b. value_if b e.value +ℚ coefficient f c) other ∙ zero_add_ℚ (coefficient f c) ∙ none_below (suc e.column) c f a.1 (omega (arith, a.0))

apart : (m n c i : ℕ) → (m ≡ n → c ≡ i → ⊥) → (eqb m n && eqb c i) ≡ false
apart m n c i f = go (eqb m n) refl (eqb c i) refl
  where
    go : (b : Bool) → eqb m n ≡ b → (d : Bool) → eqb c i ≡ d → (eqb m n && eqb c i) ≡ false
    go true p true q = absurd (f (eqb-true m n p) (eqb-true c i q))
    go true p false q = ap₂ ◌&&◌ p q
    go false p d q = ap₂ ◌&&◌ p q

-- a number at another place is passed over
skip : (m n c i : ℕ) (q : ℚ) (ys : List At) → (m ≡ n → c ≡ i → ⊥) → at (number_at m c q ++ ys) n i ≡ at ys n i
skip m n c i q ys h = go (is_place m c)
  where
    go : (b : Bool) → at (pick b (record { node = m; index = c; value = q } ∷ []) [] ++ ys) n i ≡ at ys n i
    go true = ap (λ b. pick b q (at ys n i)) (apart m n c i h)
    go false = refl

-- the number at its place is found
found : (n i c : ℕ) (q : ℚ) (ys : List At) → n < 4294967296 → i < 4294967296 → c ≡ i → at (number_at n c q ++ ys) n i ≡ q
found n i c q ys h k e =
    let fit : is_place n c ≡ true = ap₂ ◌&&◌ (lt-ltb n 4294967296 h) (lt-ltb c 4294967296 (omega arith)) in
    ap (λ b. at (pick b (record { node = n; index = c; value = q } ∷ []) [] ++ ys) n i) fit ∙ ap₂ (λ a b. pick (a && b) q (at ys n i)) (eq-eqb n n refl) (eq-eqb c i e)

other_node : (m n i : ℕ) (f : List Entry) (ys : List At) → (m ≡ n → ⊥) → at (node_values m f ++ ys) n i ≡ at ys n i
other_node m n i [] ys h = refl
other_node m n i (e ∷ f) ys h =
    ap (λ l. at l n i) (append_assoc (number_at m e.column e.value) (node_values m f) ys)
    ∙ skip m n e.column i e.value (node_values m f ++ ys) (λ p _. h p) ∙ other_node m n i f ys h

this_node : (k n i : ℕ) (f : List Entry) (ys : List At) → Ascending k f → n < 4294967296 → i < 4294967296 → at ys n i ≡ zero_ℚ → at (node_values n f ++ ys) n i ≡ coefficient f i
this_node k n i [] ys a h g z = z
this_node k n i (e ∷ f) ys a h g z = ap (λ l. at l n i) (append_assoc (number_at n e.column e.value) (node_values n f) ys) ∙ go (eqb e.column i) refl (this_node (suc e.column) n i f ys a.1 h g z)
  where
    go : (b : Bool) → eqb e.column i ≡ b → at (node_values n f ++ ys) n i ≡ coefficient f i → at (number_at n e.column e.value ++ (node_values n f ++ ys)) n i ≡ value_if b e.value +ℚ coefficient f i
    go true p ih =
        let c : e.column ≡ i = eqb-true e.column i p in
        found n i e.column e.value (node_values n f ++ ys) h g c ∙ sym (ap (λ v. e.value +ℚ v) (none_below (suc e.column) i f a.1 (omega arith)) ∙ add_zero_ℚ e.value)
    go false p ih = skip n n e.column i e.value (node_values n f ++ ys) (λ _ q. eqb-false e.column i p q) ∙ ih ∙ sym (zero_add_ℚ (coefficient f i))

-- forms from node m on have no number at an earlier one
values_none : (n m i : ℕ) (fs : List (List Entry)) → n < m → at (numbers_by_node m fs) n i ≡ zero_ℚ
values_none n m i [] h = refl
values_none n m i (f ∷ fs) h = other_node m n i f (numbers_by_node (m + 1) fs) (λ e. absurd (omega arith)) ∙ values_none n (m + 1) i fs (omega arith)

values_at : (m k n i : ℕ) (fs : List (List Entry)) → n ≡ m + k → Each IsForm fs → n < 4294967296 → i < 4294967296 → at (numbers_by_node m fs) n i ≡ coefficient (form_at fs k) i
values_at m k n i [] e w h g = refl
values_at m zero n i (f ∷ fs) e w h g =
    let here : m ≡ n = omega arith in
    ap (λ (x : ℕ). at (node_values x f ++ numbers_by_node (m + 1) fs) n i) here ∙ this_node 0 n i f (numbers_by_node (m + 1) fs) w.0.rises h g (values_none n (m + 1) i fs (omega arith))
values_at m (suc k) n i (f ∷ fs) e w h g = other_node m n i f (numbers_by_node (m + 1) fs) (λ p. absurd (omega arith)) ∙ values_at (m + 1) k n i fs (omega arith) w.1 h g

-- the number at (n, i) is that of the form at node n
pub values_are_numbers : (fs : List (List Entry)) (v : List At) → v ≡ numbers_by_node 0 fs → Each IsForm fs → (n i : ℕ) → n < 4294967296 → i < 4294967296 → at v n i ≡ coefficient (form_at fs n) i
values_are_numbers fs v e w n i h g = ap (λ (l : List At). at l n i) e ∙ values_at 0 n n i fs (omega arith) w h g

-- of a flat dual it is the flat dual's
pub numbers_are_flat : (cut : Stored) (fs : List (List Entry)) (v : List At) → flat_from [] one_ℚ cut ≡ Ok fs → v ≡ numbers_by_node 0 fs → Each IsForm fs → (n i : ℕ) → n < 4294967296 → i < 4294967296 → at v n i ≡ stored_flat cut n i
numbers_are_flat cut fs v f e w n i h g = values_are_numbers fs v e w n i h g ∙ flats_are_exact cut fs n i f
