-- Lists of values grow at their end.
use Rattle.std.proofs.Common.{◌≡◌, ◌≢◌, ℕ, zero, suc, ◌<◌, ◌≤◌, Bool, true, false, ◌&&◌, eqb, List, [], ◌∷◌, ◌++◌, length, drop, get_or, refl, sym, ap, ap₂, subst, ◌∙◌, arith, eqb-true, ◌+◌, add-one}
use Rattle.std.proofs.lemmas.Bool.{eq-eqb}
use Rattle.rationals.specs.Rational.{ℚ, zero_ℚ}
use Rattle.rationals.specs.Choices.{pick}
use Rattle.scen_defs.specs.Lists.{Each}
use Rattle.scen_defs.proofs.NodeReads.{drop_read}
use Rattle.scen_defs.specs.Values.{At, at, IsAt, IsBefore, EndsBefore, Rises, AreValues}

pub each-push : {A : Type 0} (P : A → Type 0) (xs : List A) (x : A) → Each P xs → P x → Each P (xs ++ x ∷ [])
each-push P [] x h p = (p, tt)
each-push P (y ∷ xs) x h p = (h.0, each-push P xs x h.1 p)

rises-push : (values : List At) (a : At) → Rises values → EndsBefore values a.node a.index → Rises (values ++ a ∷ [])
rises-push [] a h k = (tt, tt)
rises-push (b ∷ values) a h k = (each-push (λ c. IsBefore c.node c.index b) values a h.0 k.0, rises-push values a h.1 k.1)

pub values-push : (values : List At) (n i : ℕ) (q : ℚ) → AreValues values → EndsBefore values n i → q ≢ zero_ℚ
    → AreValues (values ++ record { node = n; index = i; value = q } ∷ [])
values-push values n i q h k z = record {
  rises = rises-push values (record { node = n; index = i; value = q }) h.rises k;
  nonzero = each-push (λ a. a.value ≢ zero_ℚ) values (record { node = n; index = i; value = q }) h.nonzero z;
}

-- ---- numbers in rising order
pub before-trans : (n i : ℕ) (a b : At) → IsBefore b.node b.index a → IsBefore n i b → IsBefore n i a
before-trans n i a b h k = record { node = omega (arith, h.node, k.node); index = λ e. omega (arith, h.node, k.node, h.index, k.index, e) }

test : ℕ → ℕ → At → Bool
test n i a = eqb a.node n && eqb a.index i

apart : (n i : ℕ) (a : At) → (a.node ≡ n → a.index ≡ i → ⊥) → test n i a ≡ false
unfolding test
apart n i a f = go (eqb a.node n) refl (eqb a.index i) refl
  where
    go : (b : Bool) → eqb a.node n ≡ b → (c : Bool) → eqb a.index i ≡ c → eqb a.node n && eqb a.index i ≡ false
    go true p true q = absurd (f (eqb-true a.node n p) (eqb-true a.index i q))
    go true p false q = ap₂ (λ b c. b && c) p q
    go false p c q = ap₂ (λ b c. b && c) p q

skip-first : (n i : ℕ) (a : At) (values : List At) → (a.node ≡ n → a.index ≡ i → ⊥) → at (a ∷ values) n i ≡ at values n i
unfolding test
skip-first n i a values f = ap (λ b. pick b a.value (at values n i)) (apart n i a f)

before-apart : (n i : ℕ) (a : At) → IsBefore n i a → a.node ≡ n → a.index ≡ i → ⊥
before-apart n i a h e d = omega (arith, h.index e, d)

-- the first stands before what stands at place p of the rest
first-before : (a : At) (values : List At) (p : ℕ) (b : At) → Each (λ c. IsBefore c.node c.index a) values → p < length values → b ≡ get_or values p b → IsBefore b.node b.index a
first-before a [] p b h l e = absurd (omega arith)
first-before a (c ∷ values) zero b h l e = subst (λ (d : At). IsBefore d.node d.index a) (sym e) h.0
first-before a (c ∷ values) (suc p) b h l e = first-before a values p b h.1 (omega (arith, l)) e

-- what stands at place p, and all before it, may be passed over
pub pass-over : (n i p : ℕ) (values : List At) (b : At) → Rises values → p < length values → b ≡ get_or values p b → IsBefore n i b → at (drop (suc p) values) n i ≡ at values n i
pass-over n i p [] b r h e k = absurd (omega arith)
pass-over n i zero (a ∷ values) b r h e k = sym (skip-first n i a values (before-apart n i a (subst (IsBefore n i) e k)))
pass-over n i (suc p) (a ∷ values) b r h e k =
    let l : p < length values = omega (arith, h) in
    pass-over n i p values b r.1 l e k ∙ sym (skip-first n i a values (before-apart n i a (before-trans n i a b (first-before a values p b r.0 l e) k)))

-- after what stands at place p nothing is found, where that stands behind
pub none-behind : (n i : ℕ) (b : At) (values : List At) → Rises (b ∷ values) → (IsBefore n i b → ⊥) → (b.node ≡ n → b.index ≡ i → ⊥) → at (b ∷ values) n i ≡ zero_ℚ
none-behind n i b values r h f = skip-first n i b values f ∙ rest values r.0
  where
    rest : (values : List At) → Each (λ c. IsBefore c.node c.index b) values → at values n i ≡ zero_ℚ
    rest [] k = refl
    rest (c ∷ values) k = skip-first n i c values (λ p q. h (record {
      node = let l : b.node ≤ c.node = k.0.node in omega (arith, l, p);
      index = λ e. let l : b.node ≡ c.node → b.index < c.index = k.0.index in let m : b.index < c.index = l (e ∙ sym p) in omega (arith, m, q);
    })) ∙ rest values k.1

pub rises-drop : (p : ℕ) (values : List At) → Rises values → Rises (drop p values)
rises-drop zero values r = r
rises-drop (suc p) [] r = r
rises-drop (suc p) (a ∷ values) r = rises-drop p values r.1

-- what stands at place p is found
pub found-at : (n i p : ℕ) (values : List At) (b : At) → Rises values → p < length values → b ≡ get_or values p b → b.node ≡ n → b.index ≡ i → b.value ≡ at values n i
found-at n i p [] b r h e f g = absurd (omega arith)
found-at n i zero (a ∷ values) b r h e f g =
    ap (λ (c : At). c.value) e ∙ sym (ap₂ (λ x y. pick (x && y) a.value (at values n i)) (eq-eqb a.node n (ap (λ (c : At). c.node) (sym e) ∙ f)) (eq-eqb a.index i (ap (λ (c : At). c.index) (sym e) ∙ g)))
found-at n i (suc p) (a ∷ values) b r h e f g =
    let l : p < length values = omega (arith, h) in
    let k : IsBefore b.node b.index a = first-before a values p b r.0 l e in
    found-at n i p values b r.1 l e f g ∙ sym (skip-first n i a values (λ q s. (let m : a.index < b.index = k.index (q ∙ sym f) in omega (arith, m, s, g))))

-- what comes last stands before (n, i) exactly where all do
pub all-before : (n i p : ℕ) (values : List At) (b : At) → Rises values → suc p ≡ length values → b ≡ get_or values p b → IsBefore n i b → EndsBefore values n i
all-before n i p [] b r h e k = tt
all-before n i zero (a ∷ []) b r h e k = (subst (IsBefore n i) e k, tt)
all-before n i zero (a ∷ c ∷ values) b r h e k = absurd (omega (arith, h))
all-before n i (suc p) (a ∷ values) b r h e k =
    let l : suc p ≡ length values = omega (arith, h) in
    (before-trans n i a b (first-before a values p b r.0 (omega (arith, l)) e) k, all-before n i p values b r.1 l e k)

pub last-before : (n i p : ℕ) (values : List At) (b : At) → p < length values → b ≡ get_or values p b → EndsBefore values n i → IsBefore n i b
last-before n i p [] b h e k = absurd (omega arith)
last-before n i zero (a ∷ values) b h e k = subst (IsBefore n i) (sym e) k.0
last-before n i (suc p) (a ∷ values) b h e k = last-before n i p values b (omega (arith, h)) e k.1

-- ---- the steps of the search
pub passes-over : (n i m : ℕ) (values : List At) (b : At) → Rises values → m < length values → b ≡ get_or values m b → IsBefore n i b → at (drop (m + 1) values) n i ≡ at values n i
passes-over n i m values b r h e k = rw (add-one m) (pass-over n i m values b r h e k)

pub nothing-from : (n i m : ℕ) (values : List At) (b : At) → Rises values → m < length values → b ≡ get_or values m b → (IsBefore n i b → ⊥) → (IsAt n i b → ⊥) → at (drop m values) n i ≡ zero_ℚ
nothing-from n i m values b r h e k l =
    let d : drop m values ≡ b ∷ drop (m + 1) values = drop_read values m b h e in
    ap (λ (vs : List At). at vs n i) d ∙ none-behind n i b (drop (m + 1) values) (subst Rises d (rises-drop m values r)) k (λ p q. l (record { node = p; index = q }))
