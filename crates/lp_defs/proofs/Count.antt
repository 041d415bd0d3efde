-- How many sets of columns there are.
use Rattle.std.proofs.Common.{◌≡◌, ℕ, zero, suc, ◌+◌, ◌*◌, ◌^◌, ◌<◌, ◌≤◌, ◌⊎◌, inl, inr, Bool, true, false, List, [], ◌∷◌, eqb, length, refl, sym, ◌∙◌, subst, arith, eqb-true}
use Rattle.std.proofs.lemmas.Bool.{eqb-false}
use Rattle.std.proofs.Math.Nat.{pow-succ'}
use Rattle.lp_defs.specs.Path.{Row}
use Rattle.lp_defs.specs.Linear.{AllRows}
use Rattle.lp_defs.specs.Trace.{NotIn}

-- ---- lists of different numbers
abbrev pub Differs : ℕ → List ℕ → Type 0
Differs x [] = Unit {0}
Differs x (y ∷ l) = (y ≡ x → ⊥) × Differs x l

abbrev pub AllDiffer : List ℕ → Type 0
AllDiffer [] = Unit {0}
AllDiffer (x ∷ l) = Differs x l × AllDiffer l

abbrev pub AllUnder : ℕ → List ℕ → Type 0
AllUnder n [] = Unit {0}
AllUnder n (x ∷ l) = (x < n) × AllUnder n l

without : ℕ → List ℕ → List ℕ
without x [] = []
without x (y ∷ l) = elim (eqb y x) [ true ↦ without x l | false ↦ y ∷ without x l ]

same_without : (x : ℕ) (l : List ℕ) → Differs x l → length (without x l) ≡ length l
unfolding without
same_without x [] d = refl
same_without x (y ∷ l) d = go (eqb y x) refl (same_without x l d.1)
  where
    go : (b : Bool) → eqb y x ≡ b → length (without x l) ≡ length l → length {A = ℕ} (elim b [ true ↦ without x l | false ↦ y ∷ without x l ]) ≡ length (y ∷ l)
    go true e ih = absurd (d.0 (eqb-true y x e))
    go false e ih = omega arith

long_without : (x : ℕ) (l : List ℕ) → AllDiffer l → length l ≤ length (without x l) + 1
unfolding without
long_without x [] d = omega arith
long_without x (y ∷ l) d = go (eqb y x) refl (long_without x l d.1)
  where
    go : (b : Bool) → eqb y x ≡ b → length l ≤ length (without x l) + 1 → length (y ∷ l) ≤ length {A = ℕ} (elim b [ true ↦ without x l | false ↦ y ∷ without x l ]) + 1
    go true e ih = let s : length (without x l) ≡ length l = same_without x l (subst (λ (z : ℕ). Differs z l) (eqb-true y x e) d.0) in omega arith
    go false e ih = omega arith

differs_without : (x y : ℕ) (l : List ℕ) → Differs y l → Differs y (without x l)
unfolding without
differs_without x y [] d = tt
differs_without x y (z ∷ l) d = go (eqb z x) (differs_without x y l d.1)
  where
    go : (b : Bool) → Differs y (without x l) → Differs y (elim b [ true ↦ without x l | false ↦ z ∷ without x l ])
    go true ih = ih
    go false ih = (d.0, ih)

differ_without : (x : ℕ) (l : List ℕ) → AllDiffer l → AllDiffer (without x l)
unfolding without
differ_without x [] d = tt
differ_without x (y ∷ l) d = go (eqb y x) (differ_without x l d.1)
  where
    go : (b : Bool) → AllDiffer (without x l) → AllDiffer (elim b [ true ↦ without x l | false ↦ y ∷ without x l ])
    go true ih = ih
    go false ih = (differs_without x y l d.0, ih)

under_without : (n : ℕ) (l : List ℕ) → AllUnder (suc n) l → AllUnder n (without n l)
unfolding without
under_without n [] u = tt
under_without n (y ∷ l) u = go (eqb y n) refl (under_without n l u.1)
  where
    go : (b : Bool) → eqb y n ≡ b → AllUnder n (without n l) → AllUnder n (elim b [ true ↦ without n l | false ↦ y ∷ without n l ])
    go true e ih = ih
    go false e ih = ((let ne : ¬ (y ≡ n) = eqb-false y n e in let k : y < suc n = u.0 in omega arith), ih)

-- different numbers below n are at most n
pub at_most : (n : ℕ) (l : List ℕ) → AllUnder n l → AllDiffer l → length l ≤ n
at_most zero [] u d = omega arith
at_most zero (x ∷ l) u d = absurd (let k : x < 0 = u.0 in omega arith)
at_most (suc n) l u d =
    let a : length l ≤ length (without n l) + 1 = long_without n l d in
    let b : length (without n l) ≤ n = at_most n (without n l) (under_without n l u) (differ_without n l d) in
    omega arith

-- ---- a set of basic columns as a number
abbrev pub digit : Bool → ℕ
digit true = 1
digit false = 0

abbrev pub is_basic : ℕ → List Row → Bool
is_basic c [] = false
is_basic c (r ∷ rows) = elim (eqb r.basic c) [ true ↦ true | false ↦ is_basic c rows ]

pub code : ℕ → List Row → ℕ
code zero rows = 0
code (suc n) rows = 2 * code n rows + digit (is_basic n rows)

digit_small : (b : Bool) → digit b ≤ 1
digit_small true = omega arith
digit_small false = omega arith

pub code_under : (n : ℕ) (rows : List Row) → code n rows < 2 ^ n
unfolding code
code_under zero rows = omega arith
code_under (suc n) rows =
    let ih : code n rows < 2 ^ n = code_under n rows in
    let d : digit (is_basic n rows) ≤ 1 = digit_small (is_basic n rows) in
    let e : 2 ^ suc n ≡ 2 * 2 ^ n = pow-succ' 2 n in
    omega arith

digit_same : (a b : Bool) → digit a ≡ digit b → a ≡ b
digit_same true true e = refl
digit_same true false e = absurd (omega arith)
digit_same false true e = absurd (omega arith)
digit_same false false e = refl

code_same : (n : ℕ) (a b : List Row) → code n a ≡ code n b → (c : ℕ) → c < n → is_basic c a ≡ is_basic c b
unfolding code
code_same zero a b e c h = absurd (omega arith)
code_same (suc n) a b e c h =
    let x : digit (is_basic n a) ≤ 1 = digit_small (is_basic n a) in
    let y : digit (is_basic n b) ≤ 1 = digit_small (is_basic n b) in
    let same : code n a ≡ code n b = omega arith in
    let last : digit (is_basic n a) ≡ digit (is_basic n b) = omega arith in
    go (eqb c n) refl (digit_same (is_basic n a) (is_basic n b) last) (code_same n a b same c)
  where
    go : (t : Bool) → eqb c n ≡ t → is_basic n a ≡ is_basic n b → (c < n → is_basic c a ≡ is_basic c b) → is_basic c a ≡ is_basic c b
    go true q l ih = subst (λ (k : ℕ). is_basic k a ≡ is_basic k b) (sym (eqb-true c n q)) l
    go false q l ih = ih (let ne : ¬ (c ≡ n) = eqb-false c n q in omega arith)

out_of : (c : ℕ) (rows : List Row) → is_basic c rows ≡ false → NotIn c rows
out_of c [] e = tt
out_of c (r ∷ rows) e = go (eqb r.basic c) refl e (out_of c rows)
  where
    go : (b : Bool) → eqb r.basic c ≡ b → ◌≡◌ {A = Bool} (elim b [ true ↦ true | false ↦ is_basic c rows ]) false → (is_basic c rows ≡ false → NotIn c rows) → NotIn c (r ∷ rows)
    go true q e ih = absurd (cc)
    go false q e ih = (eqb-false r.basic c q, ih e)

out_to : (c : ℕ) (rows : List Row) → NotIn c rows → is_basic c rows ≡ false
out_to c [] h = refl
out_to c (r ∷ rows) h = go (eqb r.basic c) refl (out_to c rows h.1)
  where
    go : (b : Bool) → eqb r.basic c ≡ b → is_basic c rows ≡ false → elim b [ true ↦ true | false ↦ is_basic c rows ] ≡ false
    go true q e = absurd (h.0 (eqb-true r.basic c q))
    go false q e = e

out_above : (n c : ℕ) (rows : List Row) → n ≤ c → AllRows (λ r. r.basic < n) rows → NotIn c rows
out_above n c [] l h = tt
out_above n c (r ∷ rows) l h = ((λ e. (let k : r.basic < n = h.0 in omega arith)), out_above n c rows l h.1)

-- sets of columns below n that have the same number are the same
pub same_code : (n : ℕ) (a b : List Row) → AllRows (λ r. r.basic < n) b → code n a ≡ code n b → (c : ℕ) → NotIn c a → NotIn c b
same_code n a b h e c out = go (split n c)
  where
    split : (n c : ℕ) → (c < n) ⊎ (n ≤ c)
    split n c = grind arith

    go : (c < n) ⊎ (n ≤ c) → NotIn c b
    go (inl l) = out_of c b (sym (code_same n a b e c l) ∙ out_to c a out)
    go (inr l) = out_above n c b l h
