-- Rational numbers: fractions with the least denominator.
use Rattle.std.proofs.Common.{zero-lt-suc, le_refl, ◌↔◌, T, ◌≡◌, ℕ, zero, suc, ◌+◌, ◌*◌, ◌/◌, ◌%◌, ◌<◌}
use Rattle.std.proofs.Common.{◌≤◌, ℤ, pos, negsuc, ◌+ℤ◌, ◌*ℤ◌}
use Rattle.std.proofs.Common.{neg_ℤ, ◌≤ℤ◌, ◌<ℤ◌, ◌⊎◌, inl, inr, List, [], ◌∷◌, refl, sym, ap, ap₂, ◌∙◌}
use Rattle.std.proofs.Common.{subst, arith, eqb, Bool, true}
use Rattle.std.proofs.Common.{false, eqb-true, div-add-mod', subst₂, mul-pos, ⊎_elim}
use Rattle.std.proofs.lemmas.Bool.{eqb-false}
use Rattle.std.proofs.lemmas.Int.{ints}
use borrow.Author.Differences.{up, down}
use native.Mathlib.Nat.{eq_of_mul-eq-mul_right, mul-mod_left}
use native.Mathlib.Bridge.{le_prop}
use Rattle.rationals.specs.Integers.{ringZ, fromZ, boundZ, reif, le_cancel_pos, nonneg_pos}
use Rattle.rationals.specs.Ring.{CommRing, Ordered, Facts, Eqs, Reif, Reifs, problem, solve, claim, bound, times}
use Rattle.rationals.specs.Ring.{Given, decide, linear, decide_same, both_ways, true_of}
use Rattle.rationals.specs.Polynomials.{all_zero, all_slack}
use Rattle.rationals.specs.Ring.Reif.{r_at, r_lit, r_nul, r_one, r_add, r_sub, r_mul, r_opp}
use Rattle.rationals.specs.Ring.Reifs.{r_none, r_more}
use lib.Signed.{≤ℤ_refl, clash_ℤ, le_z_yes, le_z}
use Rattle.std.proofs.lemmas.Int.{by_lt_z}
use Rattle.rationals.specs.Ring.Facts.{end, by_le, by_times, by_same}
use Rattle.rationals.specs.Ring.Eqs.{done, by_eq}

-- no fraction with a smaller denominator is equal to n / d
abbrev pub IsLeast : ℤ → ℕ → Type 0
IsLeast n d = (m : ℤ) (e : ℕ) → 0 < e → e < d → m *ℤ pos d ≡ n *ℤ pos e → ⊥

pub record ℚ : Type 0 where
  pub num : ℤ
  pub den : ℕ
  pub den_pos : 0 < den
  pub least : IsLeast num den

-- ---- every fraction has an equal one with the least denominator

-- a product with a positive number decides the other factor
pub cancel_pos : (m n : ℤ) (d : ℕ) → 0 < d → m *ℤ pos d ≡ n *ℤ pos d → m ≡ n
cancel_pos m n d h e =
    let k : up m + down n ≡ up n + down m = eq_of_mul-eq-mul_right d h (up m + down n) (up n + down m) (omega (arith, ints)) in
    omega (arith, ints)

-- whether d divides m
pub record Divides (d : ℕ) (m : ℤ) : Type 0 where
  pub quotient : ℤ
  pub is : quotient *ℤ pos d ≡ m

unfoldable pub nat_divides : (d a : ℕ) → 0 < d → ((q : ℕ) × (q * d ≡ a)) ⊎ ((q : ℕ) → q * d ≡ a → ⊥)
nat_divides d a h = go (eqb (a % d) 0) refl
  where
    go : (b : Bool) → eqb (a % d) 0 ≡ b → ((q : ℕ) × (q * d ≡ a)) ⊎ ((q : ℕ) → q * d ≡ a → ⊥)
    go true e = inl (a / d, omega (arith, eqb-true (a % d) 0 e, div-add-mod' a d))
    go false e = inr (λ q f. eqb-false (a % d) 0 e (ap (λ (n : ℕ). n % d) (sym f) ∙ mul-mod_left q d))

pub negated_quotient : (q d a : ℕ) → q * d ≡ suc a → neg_ℤ (pos q) *ℤ pos d ≡ negsuc a
negated_quotient q d a e = ringZ (pos q ∷ pos d ∷ []) (search reif depth 40) tt ∙ ap (λ (k : ℕ). neg_ℤ (pos k)) e

unfoldable pub divides : (d : ℕ) (m : ℤ) → 0 < d → Divides d m ⊎ (Divides d m → ⊥)
divides d (pos a) h = go (nat_divides d a h)
  where
    go : ((q : ℕ) × (q * d ≡ a)) ⊎ ((q : ℕ) → q * d ≡ a → ⊥) → Divides d (pos a) ⊎ (Divides d (pos a) → ⊥)
    go (inl r) = inl (record { quotient = pos r.0; is = ap pos r.1 })
    go (inr f) = inr (λ r. no r.quotient r.is)
      where
        no : (q : ℤ) → q *ℤ pos d ≡ pos a → ⊥
        no (pos q) e = f q (omega (arith, ints))
        no (negsuc q) e = omega (arith, ints)
divides d (negsuc a) h = go (nat_divides d (suc a) h)
  where
    go : ((q : ℕ) × (q * d ≡ suc a)) ⊎ ((q : ℕ) → q * d ≡ suc a → ⊥)
        → Divides d (negsuc a) ⊎ (Divides d (negsuc a) → ⊥)
    go (inl r) = inl (record { quotient = neg_ℤ (pos r.0); is = negated_quotient r.0 d a r.1 })
    go (inr f) = inr (λ r. no r.quotient r.is)
      where
        no : (q : ℤ) → q *ℤ pos d ≡ negsuc a → ⊥
        no (pos q) e = omega (arith, ints)
        no (negsuc q) e = f (suc q) (omega (arith, ints))

-- an equal fraction whose denominator is below j
pub record Smaller (n : ℤ) (d j : ℕ) : Type 0 where
  pub e : ℕ
  pub e_pos : 0 < e
  pub below : e < j
  pub m : ℤ
  pub same : m *ℤ pos d ≡ n *ℤ pos e

unfoldable pub smaller : (n : ℤ) (d j : ℕ) → 0 < d → Smaller n d j ⊎ (Smaller n d j → ⊥)
smaller n d zero h = inr (λ s. omega (arith, s.below))
smaller n d (suc zero) h = inr (λ s. omega (arith, s.below, s.e_pos))
smaller n d (suc (suc j)) h = go (smaller n d (suc j) h) (divides d (n *ℤ pos (suc j)) h)
  where
    go : Smaller n d (suc j) ⊎ (Smaller n d (suc j) → ⊥)
        → Divides d (n *ℤ pos (suc j)) ⊎ (Divides d (n *ℤ pos (suc j)) → ⊥)
        → Smaller n d (suc (suc j)) ⊎ (Smaller n d (suc (suc j)) → ⊥)
    go (inl s) _ = inl (record { e = s.e; e_pos = s.e_pos; below = omega (arith, s.below); m = s.m; same = s.same })
    go (inr f) (inl q) = inl (record { e = suc j; e_pos = omega arith; below = omega arith; m = q.quotient; same = q.is })
    go (inr f) (inr g) = inr (λ s. which s (eqb s.e (suc j)) refl)
      where
        which : (s : Smaller n d (suc (suc j))) (b : Bool) → eqb s.e (suc j) ≡ b → ⊥
        which s true e = g (record { quotient = s.m; is = s.same ∙ ap (λ (k : ℕ). n *ℤ pos k) (eqb-true s.e (suc j) e) })
        which s false e = f (record {
          e = s.e;
          e_pos = s.e_pos;
          below = let ne : ¬ (s.e ≡ suc j) = eqb-false s.e (suc j) e
              in omega (arith, s.below);
          m = s.m;
          same = s.same;
        })

pub record Reduced (n : ℤ) (d : ℕ) : Type 0 where
  pub it : ℚ
  pub same : it.num *ℤ pos d ≡ n *ℤ pos it.den

pub through : (a s n : ℤ) (b d e : ℕ) → 0 < e → a *ℤ pos e ≡ s *ℤ pos b
    → s *ℤ pos d ≡ n *ℤ pos e → a *ℤ pos d ≡ n *ℤ pos b
through a s n b d e p h k = cancel_pos (a *ℤ pos d) (n *ℤ pos b) e p
    (fromZ (a ∷ s ∷ n ∷ pos b ∷ pos d ∷ pos e ∷ []) (by_eq (pos d) h (by_eq (pos b) k done)) (search reif depth 40) tt)

unfoldable pub reduce : (fuel : ℕ) (n : ℤ) (d : ℕ) → 0 < d → d ≤ fuel → Reduced n d
reduce zero n d h k = absurd (omega arith)
reduce (suc fuel) n d h k = go (smaller n d d h) (reduce fuel)
  where
    go : Smaller n d d ⊎ (Smaller n d d → ⊥) → ((n : ℤ) (d : ℕ) → 0 < d → d ≤ fuel → Reduced n d) → Reduced n d
    go (inl s) again =
        let r : Reduced s.m s.e = again s.m s.e s.e_pos (omega (arith, s.below)) in
        record { it = r.it; same = through r.it.num s.m n r.it.den d s.e s.e_pos r.same s.same }
    go (inr f) again = record {
      it = record { num = n; den = d; den_pos = h; least = λ m e p q s. f (record { e = e; e_pos = p; below = q; m = m; same = s }) };
      same = refl;
    }

-- n / d, and 0 where d is 0
infixl 80 ◌÷◌
unfoldable pub ◌÷◌ : ℤ → ℕ → ℚ
n ÷ zero = (reduce 1 (pos 0) 1 (zero-lt-suc 0) (le_refl 1)).it
n ÷ suc d = (reduce (suc d) n (suc d) (zero-lt-suc d) (le_refl (suc d))).it

pub frac_is : (n : ℤ) (d : ℕ) → 0 < d → (n ÷ d).num *ℤ pos d ≡ n *ℤ pos (n ÷ d).den
unfolding ◌÷◌
frac_is n zero h = absurd (omega arith)
frac_is n (suc d) h = (reduce (suc d) n (suc d) (zero-lt-suc d) (le_refl (suc d))).same

-- ---- two that are equal by cross products are the same
made : (n : ℤ) (d : ℕ) → 0 < d → IsLeast n d → ℚ
made n d p l = record { num = n; den = d; den_pos = p; least = l }

least_prop : (n : ℤ) (d : ℕ) → IsProp (IsLeast n d)
least_prop n d = hlevel

ext : (a b : ℚ) → a.num ≡ b.num → a.den ≡ b.den → a ≡ b
unfolding made
ext a b e f = subst₂ (λ (n : ℤ) (d : ℕ). (p : 0 < d) (l : IsLeast n d) → a ≡ made n d p l) e f
    (λ p l. ap₂ (made a.num a.den) (le_prop a.den_pos p) (least_prop a.num a.den a.least l)) b.den_pos b.least

pub same_ℚ : (a b : ℚ) → a.num *ℤ pos b.den ≡ b.num *ℤ pos a.den → a ≡ b
same_ℚ a b e =
    let x : ¬ (a.den < b.den) = λ h. b.least a.num a.den a.den_pos h e in
    let y : ¬ (b.den < a.den) = λ h. a.least b.num b.den b.den_pos h (sym e) in
    let d : a.den ≡ b.den = omega arith in
    ext a b (cancel_pos a.num b.num b.den b.den_pos (e ∙ ap (λ (k : ℕ). b.num *ℤ pos k) d)) d

-- equal fractions are the same number, and the other way round
pub frac_same : (n m : ℤ) (d e : ℕ) → 0 < d → 0 < e → n *ℤ pos e ≡ m *ℤ pos d → n ÷ d ≡ m ÷ e
frac_same n m d e p q h =
    let x : ℚ = n ÷ d in
    let y : ℚ = m ÷ e in
    let hx : x.num *ℤ pos d ≡ n *ℤ pos x.den = frac_is n d p in
    let hy : y.num *ℤ pos e ≡ m *ℤ pos y.den = frac_is m e q in
    same_ℚ x y (cancel_pos (x.num *ℤ pos y.den) (y.num *ℤ pos x.den) (d * e) (mul-pos p q)
    (fromZ (x.num ∷ y.num ∷ n ∷ m ∷ pos d ∷ pos e ∷ pos x.den ∷ pos y.den ∷ [])
    (by_eq (pos y.den *ℤ pos e) hx (by_eq (neg_ℤ (pos x.den *ℤ pos d)) hy (by_eq (pos x.den *ℤ pos y.den) h done)))
    (search reif depth 40) tt))

pub frac_cross : (n m : ℤ) (d e : ℕ) → 0 < d → 0 < e → n ÷ d ≡ m ÷ e → n *ℤ pos e ≡ m *ℤ pos d
frac_cross n m d e p q h =
    let x : ℚ = n ÷ d in
    let hx : x.num *ℤ pos d ≡ n *ℤ pos x.den = frac_is n d p in
    let hy : x.num *ℤ pos e ≡ m *ℤ pos x.den = subst (λ (z : ℚ). z.num *ℤ pos e ≡ m *ℤ pos z.den) (sym h) (frac_is m e q) in
    cancel_pos (n *ℤ pos e) (m *ℤ pos d) x.den x.den_pos
    (fromZ (x.num ∷ n ∷ m ∷ pos d ∷ pos e ∷ pos x.den ∷ [])
    (by_eq (neg_ℤ (pos e)) hx (by_eq (pos d) hy done)) (search reif depth 40) tt)

pub frac_self : (a : ℚ) → a.num ÷ a.den ≡ a
frac_self a = same_ℚ (a.num ÷ a.den) a (frac_is a.num a.den a.den_pos)

-- to prove something of each number, prove it of each fraction
pub by_frac : (P : ℚ → Type 0) → ((n : ℤ) (d : ℕ) → 0 < d → P (n ÷ d)) → (a : ℚ) → P a
by_frac P f a = subst P (frac_self a) (f a.num a.den a.den_pos)

-- ---- the operations and the order
unfoldable pub zero_ℚ : ℚ
zero_ℚ = pos 0 ÷ 1

unfoldable pub one_ℚ : ℚ
one_ℚ = pos 1 ÷ 1

infixl 60 ◌+ℚ◌ ◌-ℚ◌
infixl 70 ◌*ℚ◌
unfoldable pub ◌+ℚ◌ : ℚ → ℚ → ℚ
a +ℚ b = ((a.num *ℤ pos b.den) +ℤ (b.num *ℤ pos a.den)) ÷ (a.den * b.den)

unfoldable pub ◌*ℚ◌ : ℚ → ℚ → ℚ
a *ℚ b = (a.num *ℤ b.num) ÷ (a.den * b.den)

unfoldable pub neg_ℚ : ℚ → ℚ
neg_ℚ a = neg_ℤ a.num ÷ a.den

abbrev pub ◌-ℚ◌ : ℚ → ℚ → ℚ
a -ℚ b = a +ℚ neg_ℚ b

infix 50 ◌≤ℚ◌ ◌<ℚ◌
pub record ◌≤ℚ◌ (a b : ℚ) : Type 0 where
  pub le : (a.num *ℤ pos b.den) ≤ℤ (b.num *ℤ pos a.den)

pub record ◌<ℚ◌ (a b : ℚ) : Type 0 where
  pub lt : (a.num *ℤ pos b.den) <ℤ (b.num *ℤ pos a.den)

-- ---- on fractions
pub frac-add : (n m : ℤ) (d e : ℕ) → 0 < d → 0 < e → n ÷ d +ℚ m ÷ e ≡ ((n *ℤ pos e) +ℤ (m *ℤ pos d)) ÷ (d * e)
unfolding ◌+ℚ◌
frac-add n m d e p q =
    let x : ℚ = n ÷ d in
    let y : ℚ = m ÷ e in
    frac_same ((x.num *ℤ pos y.den) +ℤ (y.num *ℤ pos x.den)) ((n *ℤ pos e) +ℤ (m *ℤ pos d)) (x.den * y.den) (d * e)
    (mul-pos x.den_pos y.den_pos) (mul-pos p q)
    (fromZ (x.num ∷ y.num ∷ n ∷ m ∷ pos d ∷ pos e ∷ pos x.den ∷ pos y.den ∷ [])
    (by_eq (pos y.den *ℤ pos e) (frac_is n d p) (by_eq (pos x.den *ℤ pos d) (frac_is m e q) done)) (search reif depth 40) tt)

pub frac-mul : (n m : ℤ) (d e : ℕ) → 0 < d → 0 < e → n ÷ d *ℚ m ÷ e ≡ (n *ℤ m) ÷ (d * e)
unfolding ◌*ℚ◌
frac-mul n m d e p q =
    let x : ℚ = n ÷ d in
    let y : ℚ = m ÷ e in
    frac_same (x.num *ℤ y.num) (n *ℤ m) (x.den * y.den) (d * e) (mul-pos x.den_pos y.den_pos) (mul-pos p q)
    (fromZ (x.num ∷ y.num ∷ n ∷ m ∷ pos d ∷ pos e ∷ pos x.den ∷ pos y.den ∷ [])
    (by_eq (y.num *ℤ pos e) (frac_is n d p) (by_eq (n *ℤ pos x.den) (frac_is m e q) done)) (search reif depth 40) tt)

pub frac-neg : (n : ℤ) (d : ℕ) → 0 < d → neg_ℚ (n ÷ d) ≡ neg_ℤ n ÷ d
unfolding neg_ℚ
frac-neg n d p =
    let x : ℚ = n ÷ d in
    frac_same (neg_ℤ x.num) (neg_ℤ n) x.den d x.den_pos p
    (fromZ (x.num ∷ n ∷ pos d ∷ pos x.den ∷ []) (by_eq (neg_ℤ (pos 1)) (frac_is n d p) done) (search reif depth 40) tt)

pub frac_le_to : (n m : ℤ) (d e : ℕ) → 0 < d → 0 < e → n ÷ d ≤ℚ m ÷ e → (n *ℤ pos e) ≤ℤ (m *ℤ pos d)
frac_le_to n m d e p q h =
    let x : ℚ = n ÷ d in
    let y : ℚ = m ÷ e in
    le_cancel_pos (n *ℤ pos e) (m *ℤ pos d) (x.den * y.den) (mul-pos x.den_pos y.den_pos)
    (boundZ (x.num ∷ y.num ∷ n ∷ m ∷ pos d ∷ pos e ∷ pos x.den ∷ pos y.den ∷ [])
    (by_times (nonneg_pos (d * e)) h.le (by_same (neg_ℤ (pos y.den *ℤ pos e)) (frac_is n d p)
    (by_same (pos x.den *ℤ pos d) (frac_is m e q) end))) (search reif depth 40) tt)

pub frac_le : (n m : ℤ) (d e : ℕ) → 0 < d → 0 < e → (n *ℤ pos e) ≤ℤ (m *ℤ pos d) → n ÷ d ≤ℚ m ÷ e
frac_le n m d e p q h =
    let x : ℚ = n ÷ d in
    let y : ℚ = m ÷ e in
    record {
      le = le_cancel_pos (x.num *ℤ pos y.den) (y.num *ℤ pos x.den) (d * e) (mul-pos p q)
          (boundZ (x.num ∷ y.num ∷ n ∷ m ∷ pos d ∷ pos e ∷ pos x.den ∷ pos y.den ∷ [])
          (by_times (nonneg_pos (x.den * y.den)) h (by_same (pos y.den *ℤ pos e) (frac_is n d p)
          (by_same (neg_ℤ (pos x.den *ℤ pos d)) (frac_is m e q) end))) (search reif depth 40) tt);
    }

-- ---- the laws of a commutative ring
pub add_comm_ℚ : (a b : ℚ) → a +ℚ b ≡ b +ℚ a
add_comm_ℚ = by_frac _ (λ n d p. by_frac _ (λ m e q. simp frac-add
    (frac_same _ _ _ _ (search mul-pos) (search mul-pos) (ringZ (n ∷ m ∷ pos d ∷ pos e ∷ []) (search reif depth 40) tt))))

pub add_assoc_ℚ : (a b c : ℚ) → (a +ℚ b) +ℚ c ≡ a +ℚ (b +ℚ c)
add_assoc_ℚ = by_frac _ (λ n d p. by_frac _ (λ m e q. by_frac _
    (λ l f r. simp (frac-add, mul-pos) (frac_same _ _ _ _ (search mul-pos) (search mul-pos)
    (ringZ (n ∷ m ∷ l ∷ pos d ∷ pos e ∷ pos f ∷ []) (search reif depth 40) tt)))))

pub mul_comm_ℚ : (a b : ℚ) → a *ℚ b ≡ b *ℚ a
mul_comm_ℚ = by_frac _ (λ n d p. by_frac _ (λ m e q. simp frac-mul
    (frac_same _ _ _ _ (search mul-pos) (search mul-pos) (ringZ (n ∷ m ∷ pos d ∷ pos e ∷ []) (search reif depth 40) tt))))

pub mul_assoc_ℚ : (a b c : ℚ) → (a *ℚ b) *ℚ c ≡ a *ℚ (b *ℚ c)
mul_assoc_ℚ = by_frac _ (λ n d p. by_frac _ (λ m e q. by_frac _
    (λ l f r. simp (frac-mul, mul-pos) (frac_same _ _ _ _ (search mul-pos) (search mul-pos)
    (ringZ (n ∷ m ∷ l ∷ pos d ∷ pos e ∷ pos f ∷ []) (search reif depth 40) tt)))))

pub mul_add_ℚ : (a b c : ℚ) → a *ℚ (b +ℚ c) ≡ a *ℚ b +ℚ a *ℚ c
mul_add_ℚ = by_frac _ (λ n d p. by_frac _ (λ m e q. by_frac _
    (λ l f r. simp (frac-add, frac-mul, mul-pos) (frac_same _ _ _ _ (search mul-pos) (search mul-pos)
    (ringZ (n ∷ m ∷ l ∷ pos d ∷ pos e ∷ pos f ∷ []) (search reif depth 40) tt)))))

pub add_zero_ℚ : (a : ℚ) → a +ℚ zero_ℚ ≡ a
unfolding zero_ℚ
add_zero_ℚ = by_frac _ (λ n d p. frac-add n (pos 0) d 1 p (omega arith)
    ∙ frac_same _ _ _ _ (omega arith) p (ringZ (n ∷ pos d ∷ []) (search reif depth 40) tt))

pub mul_one_ℚ : (a : ℚ) → a *ℚ one_ℚ ≡ a
unfolding one_ℚ
mul_one_ℚ = by_frac _ (λ n d p. frac-mul n (pos 1) d 1 p (omega arith)
    ∙ frac_same _ _ _ _ (omega arith) p (ringZ (n ∷ pos d ∷ []) (search reif depth 40) tt))

pub add_neg_ℚ : (a : ℚ) → a +ℚ neg_ℚ a ≡ zero_ℚ
unfolding zero_ℚ
add_neg_ℚ = by_frac _ (λ n d p. simp (frac-neg, frac-add) (frac_same _ _ _ _ (mul-pos p p) (omega arith)
    (ringZ (n ∷ pos d ∷ []) (search reif depth 40) tt)))

abbrev pub ring_ℚ : CommRing
ring_ℚ = record {
  carrier = ℚ;
  nul = zero_ℚ;
  uno = one_ℚ;
  ◌⊕◌ = ◌+ℚ◌;
  ◌⊗◌ = ◌*ℚ◌;
  neg = neg_ℚ;
  add_assoc = add_assoc_ℚ;
  add_comm = add_comm_ℚ;
  add_nul = add_zero_ℚ;
  add_neg = add_neg_ℚ;
  mul_assoc = mul_assoc_ℚ;
  mul_comm = mul_comm_ℚ;
  mul_uno = mul_one_ℚ;
  mul_add = mul_add_ℚ;
}

-- ---- the order
pub le_refl_ℚ : (a : ℚ) → a ≤ℚ a
le_refl_ℚ a = record { le = ≤ℤ_refl (a.num *ℤ pos a.den) }

pub le_of_same_ℚ : {a b : ℚ} → a ≡ b → a ≤ℚ b
le_of_same_ℚ {a} {b} e = subst (λ (x : ℚ). a ≤ℚ x) e (le_refl_ℚ a)

pub le_antisym_ℚ : {a b : ℚ} → a ≤ℚ b → b ≤ℚ a → a ≡ b
le_antisym_ℚ {a} {b} h k = same_ℚ a b (let p : (a.num *ℤ pos b.den) ≤ℤ (b.num *ℤ pos a.den) = h.le
    in let q : (b.num *ℤ pos a.den) ≤ℤ (a.num *ℤ pos b.den) = k.le in omega (arith, ints))

pub le_total_ℚ : (a b : ℚ) → (a ≤ℚ b) ⊎ (b <ℚ a)
le_total_ℚ a b = by_lt_z (b.num *ℤ pos a.den) (a.num *ℤ pos b.den) (λ h. inr (record { lt = h })) (λ h. inl (record { le = h }))

pub not_le_of_lt_ℚ : {a b : ℚ} → a <ℚ b → b ≤ℚ a → ⊥
not_le_of_lt_ℚ {a} {b} h k = clash_ℤ h.lt k.le

pub lt_of_not_le_ℚ : {a b : ℚ} → (b ≤ℚ a → ⊥) → a <ℚ b
lt_of_not_le_ℚ {a} {b} f = ⊎_elim (λ h. absurd (f h)) (λ h. h) (le_total_ℚ b a)

le_add_right_ℚ : (a b c : ℚ) → a ≤ℚ b → a +ℚ c ≤ℚ b +ℚ c
le_add_right_ℚ = by_frac _ (λ n d p. by_frac _ (λ m e q. by_frac _ (λ l f r h.
    simp frac-add (frac_le _ _ _ _ (search mul-pos) (search mul-pos)
    (boundZ (n ∷ m ∷ l ∷ pos d ∷ pos e ∷ pos f ∷ []) (by_times (nonneg_pos (f * f)) (frac_le_to n m d e p q h) end)
    (search reif depth 40) tt)))))

pub le_trans_ℚ : {a b c : ℚ} → a ≤ℚ b → b ≤ℚ c → a ≤ℚ c
le_trans_ℚ {a} {b} {c} h k = record {
  le = le_cancel_pos (a.num *ℤ pos c.den) (c.num *ℤ pos a.den) b.den b.den_pos
      (boundZ (a.num ∷ b.num ∷ c.num ∷ pos a.den ∷ pos b.den ∷ pos c.den ∷ [])
      (by_times (nonneg_pos c.den) h.le (by_times (nonneg_pos a.den) k.le end)) (search reif depth 40) tt);
}

pub le_add_ℚ : (a b c d : ℚ) → a ≤ℚ b → c ≤ℚ d → a +ℚ c ≤ℚ b +ℚ d
le_add_ℚ a b c d h k = le_trans_ℚ (le_add_right_ℚ a b c h) (subst₂
    (λ x y. x ≤ℚ y) (add_comm_ℚ c b) (add_comm_ℚ d b) (le_add_right_ℚ c d b k))

nonneg_num : (n : ℤ) (d : ℕ) → 0 < d → pos 0 ÷ 1 ≤ℚ n ÷ d → pos 0 ≤ℤ n
nonneg_num n d p h = let f : (pos 0 *ℤ pos d) ≤ℤ (n *ℤ pos 1) = frac_le_to (pos 0) n 1 d (omega arith) p h in omega (arith, ints)

pub mul_nonneg_ℚ : (a b : ℚ) → zero_ℚ ≤ℚ a → zero_ℚ ≤ℚ b → zero_ℚ ≤ℚ a *ℚ b
unfolding zero_ℚ
mul_nonneg_ℚ = by_frac _ (λ n d p. by_frac _ (λ m e q h k.
    let x : pos 0 ≤ℤ n = nonneg_num n d p h in
    let y : pos 0 ≤ℤ m = nonneg_num m e q k in
    rw frac-mul (frac_le _ _ _ _ (omega arith) (search mul-pos)
    (boundZ (n ∷ m ∷ pos d ∷ pos e ∷ []) (by_times x y end) (search reif depth 40) tt))))

pub one_nonneg_ℚ : zero_ℚ ≤ℚ one_ℚ
unfolding zero_ℚ one_ℚ
one_nonneg_ℚ = frac_le _ _ _ _ (omega arith) (omega arith) (le_z_yes tt)

pub le_or_ge_ℚ : (a b : ℚ) → (a ≤ℚ b) ⊎ (b ≤ℚ a)
le_or_ge_ℚ a b = by_lt_z (b.num *ℤ pos a.den) (a.num *ℤ pos b.den)
    (λ h. inr (record { le = (let k : (b.num *ℤ pos a.den) <ℤ (a.num *ℤ pos b.den) = h in omega (arith, ints)) }))
    (λ h. inl (record { le = h }))

abbrev pub ordered_ℚ : Ordered ring_ℚ
ordered_ℚ = record {
  le = ◌≤ℚ◌;
  le_refl = le_refl_ℚ;
  le-add = le_add_ℚ;
  mul_nonneg = mul_nonneg_ℚ;
  one_nonneg = one_nonneg_ℚ;
  le_total =
      le_or_ge_ℚ;
}

-- ---- division
unfoldable pub inverse_of : ℤ → ℕ → ℚ
inverse_of (pos n) d = pos d ÷ n
inverse_of (negsuc n) d = neg_ℤ (pos d) ÷ suc n

-- 1 / a, and 0 where a is 0
unfoldable pub inv_ℚ : ℚ → ℚ
inv_ℚ a = inverse_of a.num a.den

infixl 70 ◌/ℚ◌
abbrev pub ◌/ℚ◌ : ℚ → ℚ → ℚ
a /ℚ b = a *ℚ inv_ℚ b

inverse_is : (n : ℤ) (d : ℕ) → 0 < d → (n ≡ pos 0 → ⊥) → n ÷ d *ℚ inverse_of n d ≡ one_ℚ
unfolding inverse_of one_ℚ
inverse_is (pos zero) d p h = absurd (h refl)
inverse_is (pos (suc n)) d p h = frac-mul (pos (suc n)) (pos d) d (suc n) p (omega arith)
    ∙ frac_same _ _ _ _ (mul-pos p (omega arith)) (omega arith) (ringZ (pos (suc n) ∷ pos d ∷ []) (search reif depth 40) tt)
inverse_is (negsuc n) d p h = frac-mul (negsuc n) (neg_ℤ (pos d)) d (suc n) p (omega arith)
    ∙ frac_same _ _ _ _ (mul-pos p (omega arith)) (omega arith) (signs (pos (suc n)) (pos d))
  where
    signs : (z d : ℤ) → (neg_ℤ z *ℤ neg_ℤ d) *ℤ pos 1 ≡ pos 1 *ℤ (d *ℤ z)
    signs z d = ringZ (z ∷ d ∷ []) (search reif depth 40) tt

pub mul_inv_ℚ : (a : ℚ) → (a ≡ zero_ℚ → ⊥) → a *ℚ inv_ℚ a ≡ one_ℚ
unfolding inv_ℚ zero_ℚ
mul_inv_ℚ a h = ap (λ x. x *ℚ inverse_of a.num a.den) (sym (frac_self a))
    ∙ inverse_is a.num a.den a.den_pos (λ e. h (sym (frac_self a)
    ∙ frac_same a.num (pos 0) a.den 1 a.den_pos (omega arith) (omega (arith, ints))))

-- ---- `ring` and `bound` at the rationals
abbrev pub b0 : {a : ℚ} {s : List ℚ} → Reif ring_ℚ (a ∷ s) a
b0 = r_at 0

abbrev pub b1 : {a b : ℚ} {s : List ℚ} → Reif ring_ℚ (b ∷ a ∷ s) a
b1 = r_at 1

abbrev pub b2 : {a b c : ℚ} {s : List ℚ} → Reif ring_ℚ (b ∷ c ∷ a ∷ s) a
b2 = r_at 2

abbrev pub b3 : {a b c d : ℚ} {s : List ℚ} → Reif ring_ℚ (b ∷ c ∷ d ∷ a ∷ s) a
b3 = r_at 3

abbrev pub b4 : {a b c d e : ℚ} {s : List ℚ} → Reif ring_ℚ (b ∷ c ∷ d ∷ e ∷ a ∷ s) a
b4 = r_at 4

abbrev pub b5 : {a b c d e f : ℚ} {s : List ℚ} → Reif ring_ℚ (b ∷ c ∷ d ∷ e ∷ f ∷ a ∷ s) a
b5 = r_at 5

abbrev pub b6 : {a b c d e f g : ℚ} {s : List ℚ} → Reif ring_ℚ (b ∷ c ∷ d ∷ e ∷ f ∷ g ∷ a ∷ s) a
b6 = r_at 6

abbrev pub b7 : {a b c d e f g h : ℚ} {s : List ℚ} → Reif ring_ℚ (b ∷ c ∷ d ∷ e ∷ f ∷ g ∷ h ∷ a ∷ s) a
b7 = r_at 7

abbrev pub b8 : {a v0 v1 v2 v3 v4 v5 v6 v7 : ℚ} {s : List ℚ}
    → Reif ring_ℚ (v0 ∷ v1 ∷ v2 ∷ v3 ∷ v4 ∷ v5 ∷ v6 ∷ v7 ∷ a ∷ s) a
b8 = r_at 8

abbrev pub b9 : {a v0 v1 v2 v3 v4 v5 v6 v7 v8 : ℚ} {s : List ℚ}
    → Reif ring_ℚ (v0 ∷ v1 ∷ v2 ∷ v3 ∷ v4 ∷ v5 ∷ v6 ∷ v7 ∷ v8 ∷ a ∷ s) a
b9 = r_at 9

abbrev pub b10 : {a v0 v1 v2 v3 v4 v5 v6 v7 v8 v9 : ℚ} {s : List ℚ}
    → Reif ring_ℚ (v0 ∷ v1 ∷ v2 ∷ v3 ∷ v4 ∷ v5 ∷ v6 ∷ v7 ∷ v8 ∷ v9 ∷ a ∷ s) a
b10 = r_at 10

abbrev pub b11 : {a v0 v1 v2 v3 v4 v5 v6 v7 v8 v9 v10 : ℚ} {s : List ℚ}
    → Reif ring_ℚ (v0 ∷ v1 ∷ v2 ∷ v3 ∷ v4 ∷ v5 ∷ v6 ∷ v7 ∷ v8 ∷ v9 ∷ v10 ∷ a ∷ s) a
b11 = r_at 11

abbrev pub b12 : {a v0 v1 v2 v3 v4 v5 v6 v7 v8 v9 v10 v11 : ℚ} {s : List ℚ}
    → Reif ring_ℚ (v0 ∷ v1 ∷ v2 ∷ v3 ∷ v4 ∷ v5 ∷ v6 ∷ v7 ∷ v8 ∷ v9 ∷ v10 ∷ v11 ∷ a ∷ s) a
b12 = r_at 12

abbrev pub b13 : {a v0 v1 v2 v3 v4 v5 v6 v7 v8 v9 v10 v11 v12 : ℚ} {s : List ℚ}
    → Reif ring_ℚ (v0 ∷ v1 ∷ v2 ∷ v3 ∷ v4 ∷ v5 ∷ v6 ∷ v7 ∷ v8 ∷ v9 ∷ v10 ∷ v11 ∷ v12 ∷ a ∷ s) a
b13 = r_at 13

abbrev pub b14 : {a v0 v1 v2 v3 v4 v5 v6 v7 v8 v9 v10 v11 v12 v13 : ℚ} {s : List ℚ}
    → Reif ring_ℚ (v0 ∷ v1 ∷ v2 ∷ v3 ∷ v4 ∷ v5 ∷ v6 ∷ v7 ∷ v8 ∷ v9 ∷ v10 ∷ v11 ∷ v12 ∷ v13 ∷ a ∷ s) a
b14 = r_at 14

abbrev pub b15 : {a v0 v1 v2 v3 v4 v5 v6 v7 v8 v9 v10 v11 v12 v13 v14 : ℚ} {s : List ℚ}
    → Reif ring_ℚ (v0 ∷ v1 ∷ v2 ∷ v3 ∷ v4 ∷ v5 ∷ v6 ∷ v7 ∷ v8 ∷ v9 ∷ v10
    ∷ v11 ∷ v12 ∷ v13 ∷ v14 ∷ a ∷ s) a
b15 = r_at 15

-- a whole number
abbrev pub int_ℚ : ℤ → ℚ
int_ℚ z = z ÷ 1

pub times-one : (n : ℕ) → times ring_ℚ n one_ℚ ≡ pos n ÷ 1
unfolding times zero_ℚ one_ℚ
times-one zero = refl
times-one (suc n) = ap (λ x. pos 1 ÷ 1 +ℚ x) (times-one n) ∙ frac-add (pos 1) (pos n) 1 1 (omega arith) (omega arith)
    ∙ frac_same _ _ _ _ (omega arith) (omega arith)
    (let e : (pos 1 *ℤ pos 1) +ℤ (pos n *ℤ pos 1) ≡ pos (suc n) = omega (arith, ints)
    in ap (λ z. z *ℤ pos 1) e)

abbrev pub r_int : {s : List ℚ} (n : ℕ) → Reif ring_ℚ s (pos n ÷ 1)
r_int n = r_lit n (times-one n)

pub ruleset terms = (
  r_int,
  b0,
  b1,
  b2,
  b3,
  b4,
  b5,
  b6,
  b7,
  b8,
  b9,
  b10,
  b11,
  b12,
  b13,
  b14,
  b15,
  r_none,
  r_more,
  r_nul,
  r_one,
  r_add,
  r_sub,
  r_mul,
  r_opp,
)

-- x ≡ y by the laws of rings, where s lists the atoms
pub by_ring : (s : List ℚ) {x y : ℚ} (rs : Reifs ring_ℚ s (x ∷ y ∷ [])) → T (all_zero (problem ring_ℚ done rs)) → x ≡ y
by_ring s rs e = solve ring_ℚ done rs (true_of e)

-- the same from equations l ≡ r, each times a factor c
pub by_eqs : (s : List ℚ) {xs : List ℚ} (es : Eqs ring_ℚ xs) {x y : ℚ} (rs : Reifs ring_ℚ s (x ∷ y ∷ xs))
    → T (all_zero (problem ring_ℚ es rs)) → x ≡ y
by_eqs s es rs e = solve ring_ℚ es rs (true_of e)

-- x ≤ y from facts, each times a factor
pub by_facts : (s : List ℚ) {xs : List ℚ} (es : Facts ring_ℚ ordered_ℚ xs) {x y : ℚ} (rs : Reifs ring_ℚ s (x ∷ y ∷ xs))
    → T (all_slack (claim ring_ℚ ordered_ℚ es rs)) → x ≤ℚ y
by_facts s es rs e = bound ring_ℚ ordered_ℚ es rs (true_of e)

-- x ≤ y from facts, with factors that are found by computing
pub by_linear : (s : List ℚ) {xs : List ℚ} (es : Given ring_ℚ ordered_ℚ xs) {x y : ℚ} (rs : Reifs ring_ℚ s (x ∷ y ∷ xs))
    → T (decide ring_ℚ ordered_ℚ es rs) → x ≤ℚ y
by_linear s es rs e = linear ring_ℚ ordered_ℚ es rs (true_of e)

-- x ≡ y from facts, with factors that are found by computing
pub by_linear_eq : (s : List ℚ) {xs : List ℚ} (es : Given ring_ℚ ordered_ℚ xs) {x y : ℚ} (rs : Reifs ring_ℚ s (x ∷ y ∷ xs))
    → T (decide_same ring_ℚ ordered_ℚ es rs) → x ≡ y
by_linear_eq s es rs e = let h = both_ways ring_ℚ ordered_ℚ es rs (true_of e) in le_antisym_ℚ h.0 h.1

-- ---- common laws
pub zero_add_ℚ : (a : ℚ) → zero_ℚ +ℚ a ≡ a
zero_add_ℚ a = by_ring (a ∷ []) (search terms depth 40) tt

pub mul_zero_ℚ : (a : ℚ) → a *ℚ zero_ℚ ≡ zero_ℚ
mul_zero_ℚ a = by_ring (a ∷ []) (search terms depth 40) tt

pub zero_mul_ℚ : (a : ℚ) → zero_ℚ *ℚ a ≡ zero_ℚ
zero_mul_ℚ a = by_ring (a ∷ []) (search terms depth 40) tt

pub add_mul_ℚ : (a b c : ℚ) → (a +ℚ b) *ℚ c ≡ a *ℚ c +ℚ b *ℚ c
add_mul_ℚ a b c = by_ring (a ∷ b ∷ c ∷ []) (search terms depth 40) tt

pub mul_mono_ℚ : {a b c : ℚ} → zero_ℚ ≤ℚ c → a ≤ℚ b → c *ℚ a ≤ℚ c *ℚ b
mul_mono_ℚ {a} {b} {c} p h = by_facts (a ∷ b ∷ c ∷ []) (by_times p h end) (search terms depth 40) tt

pub sub_nonneg_ℚ : {a b : ℚ} → a ≤ℚ b → zero_ℚ ≤ℚ b -ℚ a
sub_nonneg_ℚ {a} {b} h = by_facts (a ∷ b ∷ []) (by_le 1 h end) (search terms depth 40) tt

pub lt_le_ℚ : {a b : ℚ} → a <ℚ b → a ≤ℚ b
lt_le_ℚ {a} {b} h = ⊎_elim (λ k. k) (λ k. absurd (not_le_of_lt_ℚ h k)) (le_or_ge_ℚ a b)

-- a strict inequality from another, where its denial would deny that one
pub lt_by : {a b l r : ℚ} → l <ℚ r → (b ≤ℚ a → r ≤ℚ l) → a <ℚ b
lt_by h f = lt_of_not_le_ℚ (λ k. not_le_of_lt_ℚ h (f k))

pub zero_lt_one_ℚ : zero_ℚ <ℚ one_ℚ
unfolding zero_ℚ one_ℚ
zero_lt_one_ℚ = lt_of_not_le_ℚ (λ h. let k : (pos 1 *ℤ pos 1) ≤ℤ (pos 0 *ℤ pos 1) =
    frac_le_to (pos 1) (pos 0) 1 1 (omega arith) (omega arith) h in omega (arith, ints))

pub ne_of_gt_ℚ : {a : ℚ} → zero_ℚ <ℚ a → a ≡ zero_ℚ → ⊥
ne_of_gt_ℚ h e = not_le_of_lt_ℚ h (le_of_same_ℚ e)

-- ---- products and quotients of positive numbers
pub inv_nonneg_ℚ : {a : ℚ} → zero_ℚ <ℚ a → zero_ℚ ≤ℚ inv_ℚ a
inv_nonneg_ℚ {a} h =
    let e : a *ℚ inv_ℚ a ≡ one_ℚ = mul_inv_ℚ a (ne_of_gt_ℚ h) in
    let p : zero_ℚ ≤ℚ a = lt_le_ℚ h in
    ⊎_elim (λ k. k) (λ k. absurd (not_le_of_lt_ℚ zero_lt_one_ℚ
    (by_facts (a ∷ inv_ℚ a ∷ []) (by_times p k (by_same one_ℚ (sym e) end)) (search terms depth 40) tt)))
    (le_or_ge_ℚ zero_ℚ (inv_ℚ a))

pub le_cancel_ℚ : {a b c : ℚ} → zero_ℚ <ℚ c → c *ℚ a ≤ℚ c *ℚ b → a ≤ℚ b
le_cancel_ℚ {a} {b} {c} h k =
    let e : c *ℚ inv_ℚ c ≡ one_ℚ = mul_inv_ℚ c (ne_of_gt_ℚ h) in
    by_facts (a ∷ b ∷ c ∷ inv_ℚ c ∷ []) (by_times (inv_nonneg_ℚ h) k (by_same (b -ℚ a) e end)) (search terms depth 40) tt

pub cancel_ℚ : {a b c : ℚ} → (c ≡ zero_ℚ → ⊥) → c *ℚ a ≡ c *ℚ b → a ≡ b
cancel_ℚ {a} {b} {c} h k =
    let e : c *ℚ inv_ℚ c ≡ one_ℚ = mul_inv_ℚ c h in
    by_eqs (a ∷ b ∷ c ∷ inv_ℚ c ∷ []) (by_eq (inv_ℚ c) k (by_eq (b -ℚ a) e done)) (search terms depth 40) tt

pub mul_pos_ℚ : {a b : ℚ} → zero_ℚ <ℚ a → zero_ℚ <ℚ b → zero_ℚ <ℚ a *ℚ b
mul_pos_ℚ {a} {b} h k = lt_by k (λ p. le_cancel_ℚ h (by_facts (a ∷ b ∷ []) (by_le 1 p end) (search terms depth 40) tt))

pub div_mul_ℚ : (a b : ℚ) → (b ≡ zero_ℚ → ⊥) → a /ℚ b *ℚ b ≡ a
div_mul_ℚ a b h = by_eqs (a ∷ b ∷ inv_ℚ b ∷ []) (by_eq a (mul_inv_ℚ b h) done) (search terms depth 40) tt

-- a fraction by its whole numbers
pub frac_clear : (n : ℤ) (d : ℕ) → 0 < d → pos d ÷ 1 *ℚ n ÷ d ≡ n ÷ 1
frac_clear n d h = frac-mul (pos d) n 1 d (omega arith) h ∙ frac_same _ _ _ _ (omega arith) (omega arith)
    (ringZ (n ∷ pos d ∷ []) (search reif depth 40) tt)

-- ---- tests
abbrev pub at_most : ℚ → ℚ → Bool
at_most a b = le_z (a.num *ℤ pos b.den) (b.num *ℤ pos a.den)

pub at_most_true : (a b : ℚ) → at_most a b ≡ true → a ≤ℚ b
at_most_true a b e = record { le = le_z_yes (subst T (sym e) tt) }

pub at_most_false : (a b : ℚ) → at_most a b ≡ false → b <ℚ a
at_most_false a b e = lt_of_not_le_ℚ (λ h. let k : (a.num *ℤ pos b.den) ≤ℤ (b.num *ℤ pos a.den) = h.le in omega (arith, ints))

-- ---- what the numbers are, in full
pub record Laws : Type 0 where
  pub each_is_a_fraction : (a : ℚ) → (n : ℤ) × (d : ℕ) × (0 < d) × (n ÷ d ≡ a)
  pub equal_by_cross_products : (n m : ℤ) (d e : ℕ) → 0 < d → 0 < e → (n ÷ d ≡ m ÷ e) ↔ (n *ℤ pos e ≡ m *ℤ pos d)
  pub order_by_cross_products : (n m : ℤ) (d e : ℕ) → 0 < d → 0 < e
      → (n ÷ d ≤ℚ m ÷ e) ↔ ((n *ℤ pos e) ≤ℤ (m *ℤ pos d))
  pub sum_of_fractions : (n m : ℤ) (d e : ℕ) → 0 < d → 0 < e
      → n ÷ d +ℚ m ÷ e ≡ ((n *ℤ pos e) +ℤ (m *ℤ pos d)) ÷ (d * e)
  pub product_of_fractions : (n m : ℤ) (d e : ℕ) → 0 < d → 0 < e → n ÷ d *ℚ m ÷ e ≡ (n *ℤ m) ÷ (d * e)
  pub negated_fraction : (n : ℤ) (d : ℕ) → 0 < d → neg_ℚ (n ÷ d) ≡ neg_ℤ n ÷ d
  pub quotient_of_itself : (a : ℚ) → (a ≡ zero_ℚ → ⊥) → a /ℚ a ≡ one_ℚ
  pub zero_is : zero_ℚ ≡ pos 0 ÷ 1
  pub one_is : one_ℚ ≡ pos 1 ÷ 1

pub laws : Laws
unfolding zero_ℚ one_ℚ
laws = record {
  each_is_a_fraction = λ a. (a.num, a.den, a.den_pos, frac_self a);
  equal_by_cross_products = λ n m d e p q. (frac_cross n m d e p q, frac_same n m d e p q);
  order_by_cross_products = λ n m d e p q. (frac_le_to n m d e p q, frac_le n m d e p q);
  sum_of_fractions = frac-add;
  product_of_fractions = frac-mul;
  negated_fraction = frac-neg;
  quotient_of_itself = mul_inv_ℚ;
  zero_is = refl;
  one_is = refl;
}

-- the sign of a number: 1, 0 or -1
abbrev pub sign_of : ℤ → ℤ
sign_of (pos zero) = pos 0
sign_of (pos (suc n)) = pos 1
sign_of (negsuc n) = negsuc 0

abbrev pub sign_ℚ : ℚ → ℤ
sign_ℚ a = sign_of a.num
