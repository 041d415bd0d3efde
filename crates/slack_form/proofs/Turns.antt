-- Numbers and forms with their signs turned.
use Rattle.std.proofs.Common.{◌≡◌, ℕ, suc, Bool, true, false, eqb, List, [], ◌∷◌, ◌++◌, refl, sym, ap, ◌∙◌}
use Rattle.rationals.specs.Rational.{ℚ, zero_ℚ, ◌+ℚ◌, ◌*ℚ◌, by_ring, terms}
use Rattle.rationals.specs.Sparse.{Entry, product, coefficient, value_if, Ascending}
use Rattle.rationals.specs.Forms.{IsForm, AllNonzero, EndsBelow}
use Rattle.slack_form.specs.Standard.{turned, turned_form}

-- ---- numbers
pub turned_zero : (b : Bool) → turned b zero_ℚ ≡ zero_ℚ
turned_zero true = by_ring [] (search terms depth 40) tt
turned_zero false = refl

-- what is turned twice is as it was, so turned numbers are equal only where the numbers are
pub turned_twice : (b : Bool) (v : ℚ) → turned b (turned b v) ≡ v
turned_twice true v = by_ring (v ∷ []) (search terms depth 40) tt
turned_twice false v = refl

pub turned_same : (b : Bool) (u v : ℚ) → turned b u ≡ turned b v → u ≡ v
turned_same b u v e = sym (turned_twice b u) ∙ ap (turned b) e ∙ turned_twice b v

pub turned_times : (b : Bool) (u v : ℚ) → u *ℚ turned b v ≡ turned b u *ℚ v
turned_times true u v = by_ring (u ∷ v ∷ []) (search terms depth 40) tt
turned_times false u v = refl

turned_entry : (b : Bool) (u v w : ℚ) → turned b u *ℚ v +ℚ turned b w ≡ turned b (u *ℚ v +ℚ w)
turned_entry true u v w = by_ring (u ∷ v ∷ w ∷ []) (search terms depth 40) tt
turned_entry false u v w = refl

turned_if : (b c : Bool) (u w : ℚ) → value_if c (turned b u) +ℚ turned b w ≡ turned b (value_if c u +ℚ w)
turned_if true true u w = by_ring (u ∷ w ∷ []) (search terms depth 40) tt
turned_if true false u w = by_ring (w ∷ []) (search terms depth 40) tt
turned_if false c u w = refl

-- ---- forms
pub product_turned : (b : Bool) (f : List Entry) (x : ℕ → ℚ) → product (turned_form b f) x ≡ turned b (product f x)
product_turned b [] x = sym (turned_zero b)
product_turned b (e ∷ f) x = ap (λ v. turned b e.value *ℚ x e.column +ℚ v) (product_turned b f x) ∙ turned_entry b e.value (x e.column) (product f x)

pub coefficient_turned : (b : Bool) (f : List Entry) (c : ℕ) → coefficient (turned_form b f) c ≡ turned b (coefficient f c)
coefficient_turned b [] c = sym (turned_zero b)
coefficient_turned b (e ∷ f) c = ap (λ v. value_if (eqb e.column c) (turned b e.value) +ℚ v) (coefficient_turned b f c) ∙ turned_if b (eqb e.column c) e.value (coefficient f c)

pub turned_append : (b : Bool) (f g : List Entry) → turned_form b (f ++ g) ≡ turned_form b f ++ turned_form b g
turned_append b [] g = refl
turned_append b (e ∷ f) g = ap (λ h. record { column = e.column; value = turned b e.value } ∷ h) (turned_append b f g)

turned_rises : (b : Bool) (n : ℕ) (f : List Entry) → Ascending n f → Ascending n (turned_form b f)
turned_rises b n [] h = tt
turned_rises b n (e ∷ f) h = (h.0, turned_rises b (suc e.column) f h.1)

turned_nonzero : (b : Bool) (f : List Entry) → AllNonzero f → AllNonzero (turned_form b f)
turned_nonzero b [] h = tt
turned_nonzero b (e ∷ f) h = (λ z. h.0 (turned_same b e.value zero_ℚ (z ∙ sym (turned_zero b))), turned_nonzero b f h.1)

pub turned_is_form : (b : Bool) (f : List Entry) → IsForm f → IsForm (turned_form b f)
turned_is_form b f h = record { rises = turned_rises b 0 f h.rises; nonzero = turned_nonzero b f h.nonzero }

pub turned_below : (b : Bool) (n : ℕ) (f : List Entry) → EndsBelow n f → EndsBelow n (turned_form b f)
turned_below b n [] h = tt
turned_below b n (e ∷ f) h = (h.0, turned_below b n f h.1)
