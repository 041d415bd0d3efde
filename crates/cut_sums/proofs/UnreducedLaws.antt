-- Fractions that need not be in lowest terms: their lowest terms fit, and sums over a common denominator.
use Rattle.std.proofs.Common.{◌≡◌, ℕ, ℤ, pos, ◌*◌, ◌<◌, ◌≤◌, ◌^◌, ◌+ℤ◌, ◌*ℤ◌, Bool, false, ◌||◌, Ok, [], ◌∷◌, refl, sym, ap, ap₂, ◌∙◌, subst, arith, mul-pos, mul_comm, ◌⊎◌, inl, inr, Option, Some, None, IfSome}
use Rattle.std.proofs.lemmas.Bool.{lt-leb}
use Rattle.std.proofs.lemmas.Nat.{mul-le}
use Rattle.std.proofs.Math.Nat.{le_of_mul-le-mul_left}
use Rattle.std.specs.Prelude.{unsigned_abs}
use Rattle.rationals.specs.Integers.{fromZ, reif}
use Rattle.rationals.specs.Ring.Eqs.{done, by_eq}
use Rattle.rationals.specs.Rational.{ℚ, ◌÷◌, ◌+ℚ◌, ◌*ℚ◌, frac_is, frac_same, frac-add, zero_ℚ, zero_mul_ℚ, mul_zero_ℚ}
use Rattle.rationals.specs.Passes.{wide, unless, fitted, add_product_walk, IsNarrow}
use Rattle.rationals.proofs.IntLemmas.{abs-times}
use Rattle.cut_sums.specs.Unreduced.{IsUnreduced}
use Rattle.cut_sums.proofs.TallyLaws.{stepped, adds_nothing}

-- over a common denominator
pub over_common : (n p : ℤ) (d e u v : ℕ) → 0 < d → 0 < e → 0 < u → d * u ≡ e * v → (n *ℤ pos u +ℤ p *ℤ pos v) ÷ (d * u) ≡ n ÷ d +ℚ p ÷ e
over_common n p d e u v hd he hu same =
    frac_same (n *ℤ pos u +ℤ p *ℤ pos v) (n *ℤ pos e +ℤ p *ℤ pos d) (d * u) (d * e) (mul-pos hd hu) (mul-pos hd he)
    (fromZ (n ∷ p ∷ pos d ∷ pos e ∷ pos u ∷ pos v ∷ [])
    (by_eq (p *ℤ pos d) (ap pos (sym same)) done) (search reif depth 40) tt)
    ∙ sym (frac-add n p d e hd he)

-- a product over the product of denominators
pub product_over : (a b : ℚ) → (a.num *ℤ b.num) ÷ (a.den * b.den) ≡ a *ℚ b
unfolding ◌*ℚ◌
product_over a b = refl

-- the lowest terms of a fraction are no larger than its parts
least_den : (n : ℤ) (d : ℕ) → 0 < d → (n ÷ d).den ≤ d
least_den n d h =
    let no : ¬ (d < (n ÷ d).den) = λ k. (n ÷ d).least n d h k (sym (frac_is n d h)) in
    omega (arith, no)

scaled : (a b d e : ℕ) → 0 < d → a * d ≡ b * e → e ≤ d → a ≤ b
scaled a b d e h same k =
    let l : a * d ≤ b * d = subst (λ x. x ≤ b * d) (sym same) (mul-le b e b d (omega arith) k) in
    le_of_mul-le-mul_left {m = a} {n = b} {k = d} (omega (arith, l, mul_comm d a, mul_comm d b)) h

least_num : (n : ℤ) (d : ℕ) → 0 < d → unsigned_abs (n ÷ d).num ≤ unsigned_abs n
least_num n d h = scaled (unsigned_abs (n ÷ d).num) (unsigned_abs n) d (n ÷ d).den h
    (sym (abs-times (n ÷ d).num d) ∙ ap unsigned_abs (frac_is n d h) ∙ abs-times n (n ÷ d).den) (least_den n d h)

not_wide : (m n : ℕ) → m ≤ n → n < 2 ^ 127 → wide m ≡ false
not_wide m n h k = lt-leb (2 ^ 127) m (omega (arith, h, k))

pub lowest_fits : (n : ℤ) (d : ℕ) → IsUnreduced n d → IsNarrow (n ÷ d)
lowest_fits n d u =
    ap₂ (λ (a b : Bool). a || b) (not_wide (unsigned_abs (n ÷ d).num) (unsigned_abs n) (least_num n d u.above_zero) u.num_fits)
    (not_wide (n ÷ d).den d (least_den n d u.above_zero) u.den_fits)

-- what a sum over a common denominator is
pub over_is : (n p z sum left right : ℤ) (d e u v common also : ℕ) → 0 < d → 0 < e → 0 < u → z ≡ sum → sum ≡ left +ℤ right → left ≡ n *ℤ pos u → right ≡ p *ℤ pos v → common ≡ d * u → also ≡ e * v → common ≡ also → z ÷ common ≡ n ÷ d +ℚ p ÷ e
over_is n p z sum left right d e u v common also hd he hu zs s l r c a same =
    let num : z ≡ n *ℤ pos u +ℤ p *ℤ pos v = zs ∙ s ∙ ap₂ (λ (x y : ℤ). x +ℤ y) l r in
    ap₂ (λ (x : ℤ) (y : ℕ). x ÷ y) num c ∙ over_common n p d e u v hd he hu (sym c ∙ same ∙ a)

-- a step that comes to a number that fits
pub step_is : (s w u q : ℚ) → q ≡ s +ℚ w *ℚ u → IsNarrow q → Ok q ≡ add_product_walk s w u
step_is s w u q e f = sym (stepped s w u q e f)

-- where a factor is 0, nothing is added
pub unadded : (s a b : ℚ) → IsNarrow s → (a ≡ zero_ℚ) ⊎ (b ≡ zero_ℚ) → Ok s ≡ add_product_walk s a b
unadded s a b fits (inl zero) = sym (adds_nothing s a b fits (ap (λ q. q *ℚ b) zero ∙ zero_mul_ℚ b))
unadded s a b fits (inr zero) = sym (adds_nothing s a b fits (ap (λ q. a *ℚ q) zero ∙ mul_zero_ℚ a))

-- lowest terms that fit are there
pub never_none : (n : ℤ) (d : ℕ) (r : Option ℚ) → IsUnreduced n d → r ≡ fitted (n ÷ d) → r ≡ None → ⊥
never_none n d r u e none = some_not_none (n ÷ d) (sym (ap (λ b. unless b (n ÷ d)) (lowest_fits n d u)) ∙ sym e ∙ none)
  where
    some_not_none : (q : ℚ) → Some q ≡ None → ⊥
    some_not_none q h = absurd (cc)

-- what holds of a value that is found
pub if_some : {X : Type 0} {P Q : X → Type 0} (r : Option X) → ((x : X) → P x → Q x) → IfSome r P → IfSome r Q
if_some None f h = h
if_some (Some x) f h = f x h
