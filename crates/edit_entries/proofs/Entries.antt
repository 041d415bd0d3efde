-- A form with one of its entries set.
use Rattle.std.proofs.Common.{◌≡◌, ◌≢◌, ℕ, zero, suc, ◌+◌, ◌<◌, ◌≤◌, Bool, true, false, eqb, ltb, List, [], ◌∷◌, ◌++◌, length, get_or, take, drop, refl, sym, ap, ap₂, subst, ◌∙◌, arith, append_assoc, append-nil, add-one, eqb-true}
use Rattle.std.proofs.lemmas.Bool.{ne_eqb, eqb-false, ltb-true, ltb-false, le-ltb}
use Rattle.rationals.specs.Rational.{ℚ, zero_ℚ}
use Rattle.rationals.specs.Sparse.{Entry, Ascending}
use Rattle.rationals.specs.Forms.{put, put_unless, is_zero, AllNonzero, IsForm}
use Rattle.rationals.specs.Choices.{pick}
use Rattle.frac128.proofs.FormLemmas.{put_zero}
use Rattle.edit_defs.specs.After.{set_entry}
use Rattle.edit_entries.specs.InPlace.{Starts, behind}

-- the first i terms stand before the column
abbrev pub Splits : ℕ → List Entry → ℕ → Type 0
Splits c f i = (v : ℚ) → set_entry c v f ≡ take i f ++ set_entry c v (drop i f)

step : (c : ℕ) (v : ℚ) (f : List Entry) (i : ℕ) (e : Entry) → i < length f → e ≡ get_or f i e → e.column < c → take i f ++ set_entry c v (drop i f) ≡ take (suc i) f ++ set_entry c v (drop (suc i) f)
step c v [] i e h p q = absurd (omega (arith, h))
step c v (d ∷ f) zero e h p q =
    let same : e ≡ d = p in
    let less : d.column < c = subst (λ (x : Entry). x.column < c) same q in
    ap₂ (λ a b. pick a (put c v (d ∷ f)) (pick b (put c v f) (d ∷ set_entry c v f))) (le-ltb c d.column (omega (arith, less))) (ne_eqb c d.column (λ e. omega (arith, e, less)))
step c v (d ∷ f) (suc i) e h p q = ap (λ xs. d ∷ xs) (step c v f i e (omega (arith, h)) p q)

pub split_next : (c : ℕ) (f : List Entry) (i : ℕ) (e : Entry) → i < length f → e ≡ get_or f i e → e.column < c → Splits c f i → Splits c f (i + 1)
split_next c f i e h p q s v = s v ∙ step c v f i e h p q ∙ ap (λ (j : ℕ). take j f ++ set_entry c v (drop j f)) (sym (add-one i))

pub starts_here : (c : ℕ) (f : List Entry) (i : ℕ) (e : Entry) → i < length f → e ≡ get_or f i e → c ≤ e.column → Starts c (drop i f)
starts_here c [] i e h p q = absurd (omega (arith, h))
starts_here c (d ∷ f) zero e h p q = subst (λ (x : Entry). c ≤ x.column) (let same : e ≡ d = p in same) q
starts_here c (d ∷ f) (suc i) e h p q = starts_here c f i e (omega (arith, h)) p q

pub starts_end : (c : ℕ) (f : List Entry) (i : ℕ) → length f ≤ i → Starts c (drop i f)
starts_end c [] zero h = tt
starts_end c [] (suc i) h = tt
starts_end c (d ∷ f) zero h = absurd (omega (arith, h))
starts_end c (d ∷ f) (suc i) h = starts_end c f i (omega (arith, h))

put-front : (c : ℕ) (v : ℚ) (f : List Entry) → put c v f ≡ put c v [] ++ f
put-front c v f = go (is_zero v)
  where
    go : (b : Bool) → put_unless b c v f ≡ put_unless b c v [] ++ f
    go true = refl
    go false = refl

set-front : (c : ℕ) (v : ℚ) (f : List Entry) → Starts c f → set_entry c v f ≡ put c v [] ++ behind c f
set-front c v [] s = sym (append-nil (put c v []))
set-front c v (e ∷ f) s = go (ltb c e.column) refl (eqb c e.column) refl
  where
    go : (a : Bool) → ltb c e.column ≡ a → (b : Bool) → eqb c e.column ≡ b → pick a (put c v (e ∷ f)) (pick b (put c v f) (e ∷ set_entry c v f)) ≡ put c v [] ++ pick b f (e ∷ f)
    go true p true q = absurd (let x : c < e.column = ltb-true c e.column p in let y : c ≡ e.column = eqb-true c e.column q in omega (arith, x, y))
    go true p false q = put-front c v (e ∷ f)
    go false p true q = put-front c v f
    go false p false q = absurd (let x : e.column ≤ c = ltb-false c e.column p in let y : c ≡ e.column → ⊥ = eqb-false c e.column q in y (omega (arith, x, s)))

-- the terms before, the value, and the terms behind
pub set_parts : (c : ℕ) (v : ℚ) (f front all more : List Entry) (i : ℕ) → Splits c f i → Starts c (drop i f) → front ≡ take i f → all ≡ front ++ put c v [] → more ≡ all ++ behind c (drop i f) → more ≡ set_entry c v f
set_parts c v f front all more i s h p q r =
    r ∙ ap (λ xs. xs ++ behind c (drop i f)) (q ∙ ap (λ xs. xs ++ put c v []) p) ∙ append_assoc (take i f) (put c v []) (behind c (drop i f)) ∙ ap (λ xs. take i f ++ xs) (sym (set-front c v (drop i f) h)) ∙ sym (s v)

-- ---- it is a form
put-rises : (n c : ℕ) (v : ℚ) (f : List Entry) → n ≤ c → Ascending (suc c) f → Ascending n (put c v f)
put-rises n c v f h a = go (is_zero v)
  where
    weaker : (f : List Entry) → Ascending (suc c) f → Ascending n f
    weaker [] a = tt
    weaker (e ∷ f) a = ((let l : suc c ≤ e.column = a.0 in omega (arith, l, h)), a.1)

    go : (b : Bool) → Ascending n (put_unless b c v f)
    go true = weaker f a
    go false = (h, a)

set-rises : (n c : ℕ) (v : ℚ) (f : List Entry) → n ≤ c → Ascending n f → Ascending n (set_entry c v f)
set-rises n c v [] h a = put-rises n c v [] h tt
set-rises n c v (e ∷ f) h a = go (ltb c e.column) refl (eqb c e.column) refl (set-rises (suc e.column) c v f)
  where
    go : (x : Bool) → ltb c e.column ≡ x → (y : Bool) → eqb c e.column ≡ y → (suc e.column ≤ c → Ascending (suc e.column) f → Ascending (suc e.column) (set_entry c v f)) → Ascending n (pick x (put c v (e ∷ f)) (pick y (put c v f) (e ∷ set_entry c v f)))
    go true p y q again = put-rises n c v (e ∷ f) h ((let l : c < e.column = ltb-true c e.column p in omega (arith, l)), a.1)
    go false p true q again = put-rises n c v f h (subst (λ (k : ℕ). Ascending (suc k) f) (sym (eqb-true c e.column q)) a.1)
    go false p false q again = (a.0, again (let x : e.column ≤ c = ltb-false c e.column p in let y : c ≡ e.column → ⊥ = eqb-false c e.column q in less x y) a.1)
      where
        less : e.column ≤ c → (c ≡ e.column → ⊥) → suc e.column ≤ c
        less x y = omega (arith, x, y)

put-nonzero : (c : ℕ) (v : ℚ) (f : List Entry) → (is_zero v ≡ false → v ≢ zero_ℚ) → AllNonzero f → AllNonzero (put c v f)
put-nonzero c v f h a = go (is_zero v) refl
  where
    go : (b : Bool) → is_zero v ≡ b → AllNonzero (put_unless b c v f)
    go true e = a
    go false e = (h e, a)

set-nonzero : (c : ℕ) (v : ℚ) (f : List Entry) → (is_zero v ≡ false → v ≢ zero_ℚ) → AllNonzero f → AllNonzero (set_entry c v f)
set-nonzero c v [] h a = put-nonzero c v [] h tt
set-nonzero c v (e ∷ f) h a = go (ltb c e.column) (eqb c e.column) (set-nonzero c v f h a.1)
  where
    go : (x y : Bool) → AllNonzero (set_entry c v f) → AllNonzero (pick x (put c v (e ∷ f)) (pick y (put c v f) (e ∷ set_entry c v f)))
    go true y r = put-nonzero c v (e ∷ f) h a
    go false true r = put-nonzero c v f h a.1
    go false false r = (a.0, r)

nonzero-of : (v : ℚ) → is_zero v ≡ false → v ≢ zero_ℚ
nonzero-of v h e = (let q : (let x : List Entry = [] in x) ≡ record { column = 0; value = v } ∷ [] = sym (put_zero 0 v e) ∙ ap (λ b. put_unless b 0 v []) h in absurd (cc))

pub set_form : (c : ℕ) (v : ℚ) (f all terms : List Entry) → IsForm f → terms ≡ f → all ≡ set_entry c v terms → IsForm all
set_form c v f all terms h e p = subst IsForm (sym (p ∙ ap (set_entry c v) e)) (record { rises = set-rises 0 c v f (omega arith) h.rises; nonzero = set-nonzero c v f (nonzero-of v) h.nonzero })
