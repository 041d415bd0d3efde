-- A subtree is its node and the subtrees of the node's children.
use Rattle.std.proofs.Common.{◌≡◌, ℕ, zero, suc, ◌+◌, ◌-◌, ◌≤◌, ◌<◌, Bool, true, false, ◌&&◌, eqb, leb, List, [], ◌∷◌, inl, inr, ⊎_elim, refl, sym, ap, ap₂, subst, ◌∙◌, arith, eqb-true}
use Rattle.std.proofs.lemmas.Bool.{eq-eqb, ne_eqb, le-leb, leb-true, and_parts, cases_eq}
use Rattle.rationals.specs.Rational.{ℚ, zero_ℚ, ◌+ℚ◌, add_zero_ℚ, zero_add_ℚ}
use Rattle.rationals.specs.Sums.{sum_ℚ, sum-add, sum-swap}
use Rattle.rationals.specs.Sparse.{value_if}
use Rattle.scen_defs.specs.Lists.{Each, Once, keep}
use Rattle.scen_defs.specs.Program.{View, IsLive, IsTree}
use Rattle.scen_defs.specs.Flat.{up, is_above, subtree, is_child, children}
use Rattle.scen_defs.proofs.SumLaws.{each-map, sum-ext, sum-same, sum-none, sum-pick, sum-keep, sum-if}
use Rattle.scen_defs.proofs.TreeLaws.{climb}

-- ---- what is kept
pub each-keep : {A : Type 0} (P : A → Type 0) (test : A → Bool) (xs : List A) → Each (λ x. test x ≡ true → P x) xs → Each P (keep test xs)
each-keep P test [] h = tt
each-keep {A} P test (x ∷ xs) h = go (test x) refl (each-keep P test xs h.1)
  where
    go : (b : Bool) → test x ≡ b → Each P (keep test xs) → Each P (elim b [ true ↦ x ∷ keep test xs | false ↦ keep test xs ])
    go true p rest = (h.0 p, rest)
    go false p rest = rest

pub no : {b : Bool} → b ≡ false → b ≡ true → ⊥
no {b} p q = clash (sym p ∙ q)
  where
    clash : false ≡ true → ⊥
    clash e = cc

pub keep-each : {A : Type 0} (P : A → Type 0) (test : A → Bool) (xs : List A) → Each P (keep test xs) → Each (λ x. test x ≡ true → P x) xs
keep-each P test [] h = tt
keep-each {A} P test (x ∷ xs) h = go (test x) refl (keep-each P test xs) h
  where
    go : (b : Bool) → test x ≡ b → (Each P (keep test xs) → Each (λ x. test x ≡ true → P x) xs) → Each P (elim b [ true ↦ x ∷ keep test xs | false ↦ keep test xs ]) → (test x ≡ true → P x) × Each (λ x. test x ≡ true → P x) xs
    go true p rest h = ((λ q. h.0), rest h.1)
    go false p rest h = ((λ q. absurd (no p q)), rest h)

absent-keep : (n : ℕ) (test : ℕ → Bool) (xs : List ℕ) → Each (λ x. x ≡ n → ⊥) xs → Each (λ x. x ≡ n → ⊥) (keep test xs)
absent-keep n test xs h = each-keep (λ x. x ≡ n → ⊥) test xs (each-map (λ x p q. p) xs h)

pub once-keep : (n : ℕ) (test : ℕ → Bool) (xs : List ℕ) → test n ≡ true → Once n xs → Once n (keep test xs)
once-keep n test [] t h = h
once-keep n test (x ∷ xs) t h = go (test x) refl (once-keep n test xs t) h
  where
    go : (b : Bool) → test x ≡ b → (Once n xs → Once n (keep test xs)) → Once n (x ∷ xs) → Once n (elim b [ true ↦ x ∷ keep test xs | false ↦ keep test xs ])
    go true p rest (inl q) = inl (q.0, absent-keep n test xs q.1)
    go true p rest (inr q) = inr (q.0, rest q.1)
    go false p rest (inl q) = absurd (no p (ap test q.0 ∙ t))
    go false p rest (inr q) = rest q.1

-- ---- children
pub up-shift : (v : View) (k m : ℕ) → up v (suc k) m ≡ up v k (v.parent m)
up-shift v zero m = refl
up-shift v (suc k) m = ap v.parent (up-shift v k m)

pub record ChildIs (v : View) (n m : ℕ) : Type 0 where
  pub stage : v.stage m ≡ suc (v.stage n)
  pub parent : v.parent m ≡ n

pub child-is : (v : View) (n m : ℕ) → is_child v n m ≡ true → ChildIs v n m
child-is v n m e = let h = and_parts (eqb (v.stage m) (suc (v.stage n))) (eqb (v.parent m) n) e in record { stage = eqb-true (v.stage m) (suc (v.stage n)) h.0; parent = eqb-true (v.parent m) n h.1 }

pub record AboveIs (v : View) (m n : ℕ) : Type 0 where
  pub stage : v.stage m ≤ v.stage n
  pub up : up v (v.stage n - v.stage m) n ≡ m

pub above-is : (v : View) (m n : ℕ) → is_above v m n ≡ true → AboveIs v m n
above-is v m n e = let h = and_parts (leb (v.stage m) (v.stage n)) (eqb (up v (v.stage n - v.stage m) n) m) e in record { stage = leb-true (v.stage m) (v.stage n) h.0; up = eqb-true (up v (v.stage n - v.stage m) n) m h.1 }

pub is-above : (v : View) (m n : ℕ) → v.stage m ≤ v.stage n → up v (v.stage n - v.stage m) n ≡ m → is_above v m n ≡ true
is-above v m n h e = ap₂ ◌&&◌ (le-leb (v.stage m) (v.stage n) h) (eq-eqb (up v (v.stage n - v.stage m) n) m e)

pub above-self : (v : View) (n : ℕ) → is_above v n n ≡ true
above-self v n = is-above v n n (omega arith) (ap (λ (k : ℕ). up v k n) (let e : v.stage n - v.stage n ≡ 0 = omega arith in e))

-- what is below a child is below the node
pub below-child : (v : View) (n m k : ℕ) → is_child v n m ≡ true → is_above v m k ≡ true → is_above v n k ≡ true
below-child v n m k c a =
    let p : ChildIs v n m = child-is v n m c in
    let q : AboveIs v m k = above-is v m k a in
    let s : v.stage m ≡ suc (v.stage n) = p.stage in
    let l : v.stage m ≤ v.stage k = q.stage in
    let e : v.stage k - v.stage n ≡ suc (v.stage k - v.stage m) = omega (arith, s, l) in
    is-above v n k (omega (arith, s, l)) (ap (λ (i : ℕ). up v i k) e ∙ ap v.parent q.up ∙ p.parent)

-- a sum over a subtree
pub subtree-split : (v : View) → IsTree v → (f : ℕ → ℚ) (n : ℕ) → IsLive v n → sum_ℚ f (subtree v n) ≡ f n +ℚ sum_ℚ (λ m. sum_ℚ f (subtree v m)) (children v n)
subtree-split v t f n l =
    sum-keep (λ k. is_above v n k) f v.live
    ∙ sum-same (λ k. value_if (is_above v n k) (f k)) (λ k. value_if (eqb n k) (f k) +ℚ sum_ℚ (λ m. below m k) v.live) v.live (each-map (λ k i. split k i.live) v.live t.nodes)
    ∙ sum-add (λ k. value_if (eqb n k) (f k)) (λ k. sum_ℚ (λ m. below m k) v.live) v.live
    ∙ ap₂ ◌+ℚ◌ (sum-pick n (λ k. value_if (eqb n k) (f k)) v.live l (others v.live) ∙ ap (λ b. value_if b (f n)) (eq-eqb n n refl))
    (sum-swap (λ k m. below m k) v.live v.live
    ∙ sum-ext _ _ (λ m. sum-if (is_child v n m) (λ k. value_if (is_above v m k) (f k)) v.live ∙ ap (λ z. value_if (is_child v n m) z) (sym (sum-keep (λ k. is_above v m k) f v.live))) v.live
    ∙ sym (sum-keep (λ m. is_child v n m) (λ m. sum_ℚ f (subtree v m)) v.live))
  where
    below : ℕ → ℕ → ℚ
    below m k = value_if (is_child v n m) (value_if (is_above v m k) (f k))

    others : (ks : List ℕ) → Each (λ k. (k ≡ n → ⊥) → value_if (eqb n k) (f k) ≡ zero_ℚ) ks
    others [] = tt
    others (k ∷ ks) = ((λ ne. ap (λ b. value_if b (f k)) (ne_eqb n k (λ p. ne (sym p)))), others ks)

    all : (P : ℕ → Type 0) → ((m : ℕ) → P m) → (ks : List ℕ) → Each P ks
    all P h [] = tt
    all P h (k ∷ ks) = (h k, all P h ks)

    -- no child is above k
    none : (k : ℕ) → ((m : ℕ) → is_child v n m ≡ true → is_above v m k ≡ true → ⊥) → sum_ℚ (λ m. below m k) v.live ≡ zero_ℚ
    none k h = sum-none (λ m. below m k) v.live (all (λ m. below m k ≡ zero_ℚ) (λ m. go m (is_child v n m) refl (is_above v m k) refl) v.live)
      where
        go : (m : ℕ) (b : Bool) → is_child v n m ≡ b → (c : Bool) → is_above v m k ≡ c → value_if b (value_if c (f k)) ≡ zero_ℚ
        go m false p c q = refl
        go m true p false q = refl
        go m true p true q = absurd (h m p q)

    split : (k : ℕ) → IsLive v k → value_if (is_above v n k) (f k) ≡ value_if (eqb n k) (f k) +ℚ sum_ℚ (λ m. below m k) v.live
    split k j = go (is_above v n k) refl
      where
        at_node : n ≡ k → f k ≡ value_if (eqb n k) (f k) +ℚ sum_ℚ (λ m. below m k) v.live
        at_node e = sym (ap₂ (λ b z. value_if b (f k) +ℚ z) (eq-eqb n k e) (none k (λ m c a.
            let p : ChildIs v n m = child-is v n m c in
            let s : v.stage m ≡ suc (v.stage n) = p.stage in
            let r : v.stage m ≤ v.stage k = (above-is v m k a).stage in
            let d : v.stage n ≡ v.stage k = ap v.stage e in omega (arith, s, r, d))) ∙ add_zero_ℚ (f k))

        -- the child above k
        child : ℕ
        child = up v (v.stage k - suc (v.stage n)) k

        below_node : AboveIs v n k → (n ≡ k → ⊥) → v.stage n < v.stage k → f k ≡ value_if (eqb n k) (f k) +ℚ sum_ℚ (λ m. below m k) v.live
        below_node a ne lt =
            let c : IsLive v child × (v.stage child + (v.stage k - suc (v.stage n)) ≡ v.stage k) = climb v t k j (v.stage k - suc (v.stage n)) (omega arith) in
            let s : v.stage child ≡ suc (v.stage n) = (let e : v.stage child + (v.stage k - suc (v.stage n)) ≡ v.stage k = c.1 in omega (arith, e, lt)) in
            let p : v.parent child ≡ n = ap (λ (i : ℕ). up v i k) (let e : suc (v.stage k - suc (v.stage n)) ≡ v.stage k - v.stage n = omega (arith, lt) in e) ∙ a.up in
            let is : is_child v n child ≡ true = ap₂ ◌&&◌ (eq-eqb (v.stage child) (suc (v.stage n)) s) (eq-eqb (v.parent child) n p) in
            let over : is_above v child k ≡ true = is-above v child k (omega (arith, s, lt)) (ap (λ (i : ℕ). up v (v.stage k - i) k) s) in
            sym (ap₂ (λ b z. value_if b (f k) +ℚ z) (ne_eqb n k ne)
            (sum-pick child (λ m. below m k) v.live c.0 (all (λ m. (m ≡ child → ⊥) → below m k ≡ zero_ℚ) (λ m d. only m d (is_child v n m) refl (is_above v m k) refl) v.live)
            ∙ ap₂ (λ b c. value_if b (value_if c (f k))) is over) ∙ zero_add_ℚ (f k))
          where
            only : (m : ℕ) → (m ≡ child → ⊥) → (b : Bool) → is_child v n m ≡ b → (c : Bool) → is_above v m k ≡ c → value_if b (value_if c (f k)) ≡ zero_ℚ
            only m d false p c q = refl
            only m d true p false q = refl
            only m d true p true q = absurd (d (sym (above-is v m k q).up ∙ ap (λ (i : ℕ). up v (v.stage k - i) k) (child-is v n m p).stage))

        go : (b : Bool) → is_above v n k ≡ b → value_if b (f k) ≡ value_if (eqb n k) (f k) +ℚ sum_ℚ (λ m. below m k) v.live
        go false p = sym (ap₂ (λ b z. value_if b (f k) +ℚ z) (ne_eqb n k (λ e. no p (subst (λ (i : ℕ). is_above v n i ≡ true) e (above-self v n)))) (none k (λ m c a. no p (below-child v n m k c a))) ∙ add_zero_ℚ zero_ℚ)
        go true p = ⊎_elim at_node (λ ne. let a : AboveIs v n k = above-is v n k p in below_node a ne (strict a ne)) (cases_eq n k)
          where
            strict : AboveIs v n k → (n ≡ k → ⊥) → v.stage n < v.stage k
            strict a ne = ⊎_elim (λ (e : v.stage n ≡ v.stage k). absurd (ne (sym a.up ∙ ap (λ (i : ℕ). up v i k) (let z : v.stage k - v.stage n ≡ 0 = omega (arith, e) in z)))) (λ d. let h : v.stage n ≤ v.stage k = a.stage in let d' : ¬ (v.stage n ≡ v.stage k) = d in omega (arith, h, d')) (cases_eq (v.stage n) (v.stage k))
