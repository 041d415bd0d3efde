-- Values in forms.
use Rattle.std.proofs.Common.{◌≡◌, ◌∙◌, ap, sym, refl, subst, ℕ, zero, suc, ◌<◌, ◌≤◌, Bool, true, false, List, [], ◌∷◌, ◌++◌, length, get_or, set, take, drop, nat_eq, nat_lt, arith, add-one, ℤ, pos, if◌then◌else◌}
use Rattle.std.proofs.lemmas.List.{take-append-drop, drop_more}
use Rattle.std.specs.Ordering.{int_eq}
use Rattle.rationals.proofs.Lowest.{num_zero}
use Rattle.frac128.proofs.FormLemmas.{put_zero, put_nonzero}
use Rattle.std.proofs.lemmas.Bool.Decides.{nat_tests}
use Rattle.rationals.specs.Rational.{ℚ, zero_ℚ}
use Rattle.rationals.specs.Sparse.{Entry, Ascending, Ascending-weaker}
use Rattle.rationals.specs.Forms.{IsForm, EndsBelow, AllNonzero, put, put_unless, is_zero}
use Rattle.tree_build.specs.Values.{put_at, StandsAt}

at_least : (n m : ℕ) (xs : List Entry) (x : Entry) (rest : List Entry) → Ascending n xs → drop m xs ≡ x ∷ rest → n ≤ x.column
at_least n zero [] x rest rises e = cc
at_least n (suc m) [] x rest rises e = cc
at_least n zero (y ∷ xs) x rest rises e = let same : y ≡ x = cc in subst (λ (z : Entry). n ≤ z.column) same rises.0
at_least n (suc m) (y ∷ xs) x rest rises e = let later = at_least (suc y.column) m xs x rest rises.1 e in omega (arith, rises.0, later)

-- the terms up to one before column c stand before it
pub below_take : (n c m : ℕ) (xs : List Entry) (x : Entry) (rest : List Entry) → Ascending n xs → drop m xs ≡ x ∷ rest → x.column < c → EndsBelow c (take (suc m) xs)
below_take n c zero [] x rest rises e low = cc
below_take n c (suc m) [] x rest rises e low = cc
below_take n c zero (y ∷ xs) x rest rises e low = let same : y ≡ x = cc in (subst (λ (z : Entry). z.column < c) (sym same) low, tt)
below_take n c (suc m) (y ∷ xs) x rest rises e low =
    let later = at_least (suc y.column) m xs x rest rises.1 e in
    (omega (arith, later, low), below_take (suc y.column) c m xs x rest rises.1 e low)

less : (a b : ℕ) → a < b → nat_lt a b ≡ true
less a b h = grind (arith, nat_tests)

not_less : (a b : ℕ) → b ≤ a → nat_lt a b ≡ false
not_less a b h = grind (arith, nat_tests)

like : (a b : ℕ) → a ≡ b → nat_eq a b ≡ true
like a b h = grind (arith, nat_tests)

unlike : (a b : ℕ) → (a ≡ b → ⊥) → nat_eq a b ≡ false
unlike a b h = grind (arith, nat_tests)

pub put_apart : (j : ℕ) (v : ℚ) (f : List Entry) → put j v f ≡ put j v [] ++ f
put_apart j v f = go (is_zero v)
  where
    go : (b : Bool) → put_unless b j v f ≡ put_unless b j v [] ++ f
    go true = refl
    go false = refl

-- the terms before the column stay
pub put_behind : (j : ℕ) (v : ℚ) (xs ys : List Entry) → EndsBelow j xs → put_at j v (xs ++ ys) ≡ xs ++ put_at j v ys
put_behind j v [] ys below = refl
put_behind j v (x ∷ xs) ys below =
    ap (λ b. if b then x ∷ put_at j v (xs ++ ys) else (if nat_eq x.column j then put j v (xs ++ ys) else put j v (x ∷ xs ++ ys))) (less x.column j below.0)
    ∙ ap (λ rest. x ∷ rest) (put_behind j v xs ys below.1)

-- none of that column is there
pub put_before : (j : ℕ) (v : ℚ) (ys : List Entry) → Ascending (suc j) ys → put_at j v ys ≡ put j v ys
put_before j v [] rises = refl
put_before j v (y ∷ ys) rises =
    ap (λ b. if b then y ∷ put_at j v ys else (if nat_eq y.column j then put j v ys else put j v (y ∷ ys))) (not_less y.column j (omega (arith, rises.0)))
    ∙ ap (λ b. if b then put j v ys else put j v (y ∷ ys)) (unlike y.column j (λ e. omega (arith, rises.0, e)))

-- one of that column is replaced
pub put_here : (j : ℕ) (v : ℚ) (y : Entry) (ys : List Entry) → y.column ≡ j → put_at j v (y ∷ ys) ≡ put j v ys
put_here j v y ys e =
    ap (λ b. if b then y ∷ put_at j v ys else (if nat_eq y.column j then put j v ys else put j v (y ∷ ys))) (not_less y.column j (omega (arith, e)))
    ∙ ap (λ b. if b then put j v ys else put j v (y ∷ ys)) (like y.column j e)

-- ---- where a term goes

split : {A : Type 0} (xs : List A) (i : ℕ) → take i xs ++ drop i xs ≡ xs
split xs i = take-append-drop i xs

pub set_split : {A : Type 0} (xs : List A) (i : ℕ) (y : A) → i < length xs → set xs i y ≡ take i xs ++ y ∷ drop (suc i) xs
set_split [] i y h = absurd (omega arith)
set_split (x ∷ xs) zero y h = refl
set_split (x ∷ xs) (suc i) y h = ap (λ rest. x ∷ rest) (set_split xs i y (omega arith))

-- the terms before the column, and the rest
apart : (j : ℕ) (v : ℚ) (xs : List Entry) (at : ℕ) → EndsBelow j (take at xs) → put_at j v xs ≡ take at xs ++ put_at j v (drop at xs)
apart j v xs at before = ap (put_at j v) (sym (split xs at)) ∙ put_behind j v (take at xs) (drop at xs) before

at_read : (xs : List Entry) (at j : ℕ) → StandsAt xs at j → drop at xs ≡ get_or xs at (record { column = suc j; value = zero_ℚ }) ∷ drop (suc at) xs
at_read xs at j stands = drop_more xs at (record { column = suc j; value = zero_ℚ }) stands.0 ∙ ap (λ n. get_or xs at (record { column = suc j; value = zero_ℚ }) ∷ drop n xs) (add-one at)

-- where one of the column stands
pub there : (j : ℕ) (v : ℚ) (xs : List Entry) (at : ℕ) → EndsBelow j (take at xs) → StandsAt xs at j → put_at j v xs ≡ take at xs ++ put j v (drop (suc at) xs)
there j v xs at before stands =
    apart j v xs at before
    ∙ ap (λ rest. take at xs ++ rest) (ap (put_at j v) (at_read xs at j stands) ∙ put_here j v (get_or xs at (record { column = suc j; value = zero_ℚ })) (drop (suc at) xs) stands.1)

pub removed : (j : ℕ) (v : ℚ) (xs : List Entry) (at : ℕ) → EndsBelow j (take at xs) → StandsAt xs at j → v ≡ zero_ℚ → take at xs ++ drop (suc at) xs ≡ put_at j v xs
removed j v xs at before stands none =
    sym (there j v xs at before stands ∙ ap (λ rest. take at xs ++ rest) (put_apart j v (drop (suc at) xs) ∙ ap (λ front. front ++ drop (suc at) xs) (put_zero j v none)))

pub replaced : (j : ℕ) (v : ℚ) (xs : List Entry) (at : ℕ) → EndsBelow j (take at xs) → StandsAt xs at j → (v ≡ zero_ℚ → ⊥) → set xs at (record { column = j; value = v }) ≡ put_at j v xs
replaced j v xs at before stands some =
    set_split xs at (record { column = j; value = v }) stands.0
    ∙ sym (there j v xs at before stands ∙ ap (λ rest. take at xs ++ rest) (put_apart j v (drop (suc at) xs) ∙ ap (λ front. front ++ drop (suc at) xs) (put_nonzero j v some)))

-- where none stands
strictly : (j : ℕ) (xs : List Entry) (at : ℕ) → Ascending j (drop at xs) → (StandsAt xs at j → ⊥) → Ascending (suc j) (drop at xs)
strictly j [] zero rises none = tt
strictly j [] (suc at) rises none = tt
strictly j (x ∷ xs) zero rises none = (omega (arith, rises.0, (let apart : x.column ≡ j → ⊥ = λ e. none (omega arith, e) in apart)), rises.1)
strictly j (x ∷ xs) (suc at) rises none = strictly j xs at rises (λ stands. none (omega (arith, stands.0), stands.1))

absent : (j : ℕ) (v : ℚ) (xs : List Entry) (at : ℕ) → EndsBelow j (take at xs) → Ascending j (drop at xs) → (StandsAt xs at j → ⊥) → put_at j v xs ≡ take at xs ++ (put j v [] ++ drop at xs)
absent j v xs at before behind none =
    apart j v xs at before ∙ ap (λ rest. take at xs ++ rest) (put_before j v (drop at xs) (strictly j xs at behind none) ∙ put_apart j v (drop at xs))

pub inserted : (j : ℕ) (v : ℚ) (xs : List Entry) (at : ℕ) → EndsBelow j (take at xs) → Ascending j (drop at xs) → (StandsAt xs at j → ⊥) → (v ≡ zero_ℚ → ⊥) →
    take at xs ++ record { column = j; value = v } ∷ drop at xs ≡ put_at j v xs
inserted j v xs at before behind none some = sym (absent j v xs at before behind none ∙ ap (λ front. take at xs ++ (front ++ drop at xs)) (put_nonzero j v some))

pub left_out : (j : ℕ) (v : ℚ) (xs : List Entry) (at : ℕ) → EndsBelow j (take at xs) → Ascending j (drop at xs) → (StandsAt xs at j → ⊥) → v ≡ zero_ℚ → xs ≡ put_at j v xs
left_out j v xs at before behind none zero_value =
    sym (absent j v xs at before behind none ∙ ap (λ front. take at xs ++ (front ++ drop at xs)) (put_zero j v zero_value) ∙ split xs at)

-- ---- it stays a form

put_rises : (n j : ℕ) (v : ℚ) (f : List Entry) → n ≤ j → Ascending (suc j) f → Ascending n (put j v f)
put_rises n j v f low rises = go (is_zero v)
  where
    go : (b : Bool) → Ascending n (put_unless b j v f)
    go true = Ascending-weaker (suc j) n f (omega arith) rises
    go false = (low, rises)

set_rises : (n j : ℕ) (v : ℚ) (f : List Entry) → n ≤ j → Ascending n f → Ascending n (put_at j v f)
set_rises n j v [] low rises = put_rises n j v [] low tt
set_rises n j v (e ∷ f) low rises = go (nat_lt e.column j) refl (nat_eq e.column j) refl (λ below. set_rises (suc e.column) j v f below rises.1)
  where
    go : (b : Bool) → nat_lt e.column j ≡ b → (a : Bool) → nat_eq e.column j ≡ a → (suc e.column ≤ j → Ascending (suc e.column) (put_at j v f)) →
        Ascending n (if b then e ∷ put_at j v f else (if a then put j v f else put j v (e ∷ f)))
    go true is a other rest = (rises.0, rest (grind (arith, nat_tests, is)))
    go false is true same rest = let e_is : e.column ≡ j = grind (arith, nat_tests, same) in put_rises n j v f low (subst (λ (k : ℕ). Ascending (suc k) f) e_is rises.1)
    go false is false other rest = put_rises n j v (e ∷ f) low (grind (arith, nat_tests, is, other), rises.1)

put_some : (j : ℕ) (v : ℚ) (f : List Entry) → AllNonzero f → AllNonzero (put j v f)
put_some j v f all = go (is_zero v) refl
  where
    go : (b : Bool) → is_zero v ≡ b → AllNonzero (put_unless b j v f)
    go true is = all
    go false is = (λ e. (let clash : true ≡ false = sym (ap (λ (num : ℤ). int_eq num (pos 0)) (num_zero v e)) ∙ is in cc), all)

set_some : (j : ℕ) (v : ℚ) (f : List Entry) → AllNonzero f → AllNonzero (put_at j v f)
set_some j v [] all = put_some j v [] tt
set_some j v (e ∷ f) all = go (nat_lt e.column j) (nat_eq e.column j) (set_some j v f all.1)
  where
    go : (b a : Bool) → AllNonzero (put_at j v f) → AllNonzero (if b then e ∷ put_at j v f else (if a then put j v f else put j v (e ∷ f)))
    go true a rest = (all.0, rest)
    go false true rest = put_some j v f all.1
    go false false rest = put_some j v (e ∷ f) all

pub set_form : (j : ℕ) (v : ℚ) (f : List Entry) → IsForm f → IsForm (put_at j v f)
set_form j v f form = record { rises = set_rises 0 j v f (omega arith) form.rises; nonzero = set_some j v f form.nonzero }
