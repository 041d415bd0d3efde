-- How many numbers below a bound have a flag.
use Rattle.std.proofs.Common.{◌≡◌, ℕ, zero, suc, ◌+◌, ◌<◌, ◌≤◌, ◌⊎◌, inl, inr, Bool, true, false, cond, arith, refl, sym, ap, subst, ◌∙◌}
use Rattle.std.proofs.lemmas.Bool.{cases_eq, false≢true}
use Rattle.pass_table.specs.Progress.{count_below}

pub count_most : (P : ℕ → Bool) (n : ℕ) → count_below P n ≤ n
unfolding count_below
count_most P zero = omega arith
count_most P (suc n) = go (P n) (count_most P n)
  where
    go : (b : Bool) → count_below P n ≤ n → count_below P n + cond b 1 0 ≤ suc n
    go true h = omega arith
    go false h = omega arith

pub count_none : (P : ℕ → Bool) (n : ℕ) → ((k : ℕ) → P k ≡ false) → count_below P n ≡ 0
unfolding count_below
count_none P zero none = refl
count_none P (suc n) none =
    let e : ◌≡◌ {A = ℕ} (cond (P n) 1 0) 0 = ap (λ b. cond b 1 0) (none n) in omega (arith, e, count_none P n none)

pub count_less : (P Q : ℕ → Bool) (n : ℕ) → ((k : ℕ) → P k ≡ true → Q k ≡ true) → count_below P n ≤ count_below Q n
unfolding count_below
count_less P Q zero implied = omega arith
count_less P Q (suc n) implied = go (P n) (Q n) (implied n) (count_less P Q n implied)
  where
    go : (a b : Bool) → (a ≡ true → b ≡ true) → count_below P n ≤ count_below Q n → count_below P n + cond a 1 0 ≤ count_below Q n + cond b 1 0
    go true true h l = omega arith
    go true false h l = absurd (false≢true (h refl))
    go false true h l = omega arith
    go false false h l = omega arith

pub count_same : (P Q : ℕ → Bool) (n : ℕ) → ((k : ℕ) → k < n → P k ≡ Q k) → count_below P n ≡ count_below Q n
unfolding count_below
count_same P Q zero same = refl
count_same P Q (suc n) same =
    let e : ◌≡◌ {A = ℕ} (cond (P n) 1 0) (cond (Q n) 1 0) = ap (λ b. cond b 1 0) (same n (omega arith)) in
    omega (arith, e, count_same P Q n (λ k l. same k (omega arith)))

-- one more
pub count_more : (P Q : ℕ → Bool) (i n : ℕ) → i < n → P i ≡ false → Q i ≡ true → ((k : ℕ) → (k ≡ i → ⊥) → P k ≡ Q k) → count_below Q n ≡ count_below P n + 1
unfolding count_below
count_more P Q i zero less off on same = absurd (omega arith)
count_more P Q i (suc n) less off on same = go (cases_eq n i) (λ l. count_more P Q i n l off on same)
  where
    go : (n ≡ i) ⊎ (n ≡ i → ⊥) → (i < n → count_below Q n ≡ count_below P n + 1) → count_below Q n + cond (Q n) 1 0 ≡ count_below P n + cond (P n) 1 0 + 1
    go (inl e) more =
        let p : ◌≡◌ {A = ℕ} (cond (P n) 1 0) 0 = ap (λ b. cond b 1 0) (ap P e ∙ off) in
        let q : ◌≡◌ {A = ℕ} (cond (Q n) 1 0) 1 = ap (λ b. cond b 1 0) (ap Q e ∙ on) in
        omega (arith, p, q, count_same P Q n (λ k l. same k (λ b. omega (arith, b, e))))
    go (inr ne) more =
        let e : ◌≡◌ {A = ℕ} (cond (P n) 1 0) (cond (Q n) 1 0) = ap (λ b. cond b 1 0) (same n ne) in
        omega (arith, e, more (omega (arith, ne)))

pub count_next : (P : ℕ → Bool) (n : ℕ) → P n ≡ true → count_below P (n + 1) ≡ count_below P n + 1
unfolding count_below
count_next P n e = ap (λ x. count_below P x) (plus_one n) ∙ ap (λ b. count_below P n + cond b 1 0) e
  where
    plus_one : (n : ℕ) → n + 1 ≡ suc n
    plus_one n = omega arith

pub count_rises : (P : ℕ → Bool) (a b : ℕ) → a ≤ b → count_below P a ≤ count_below P b
unfolding count_below
count_rises P a zero h = let e : a ≡ zero = omega arith in let Q : ℕ → Type 0 = λ x. count_below P x ≤ count_below P zero in subst Q (sym e) (omega arith)
count_rises P a (suc b) h = go (cases_eq a (suc b)) (λ low. count_rises P a b low)
  where
    go : (a ≡ suc b) ⊎ (a ≡ suc b → ⊥) → (a ≤ b → count_below P a ≤ count_below P b) → count_below P a ≤ count_below P b + cond (P b) 1 0
    go (inl e) more = let Q : ℕ → Type 0 = λ x. count_below P x ≤ count_below P (suc b) in subst Q (sym e) (omega arith)
    go (inr ne) more = omega (arith, more (omega (arith, h, ne)))
