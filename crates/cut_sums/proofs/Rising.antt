-- Columns rise, so that a form can be made of them one after another.
use Rattle.std.proofs.Common.{◌≡◌, ℕ, zero, suc, ◌≤◌, ◌<◌, ◌+◌, Bool, true, false, ltb, List, [], ◌∷◌, ◌++◌, length, drop, get_or, refl, sym, ap, ◌∙◌, subst, arith, add-one, drop-cons}
use Rattle.std.proofs.lemmas.Bool.{ltb-true, ltb-false}
use Rattle.rationals.specs.Sparse.{Entry, Ascending}
use Rattle.rationals.specs.Rational.{ℚ}
use Rattle.rationals.specs.Forms.{EndsBelow, put, put_unless, is_zero}
use Rattle.std.proofs.Common.{append-nil, Result, Ok}
use Rattle.rationals.specs.Passes.{Operation, then_walk}
use Rattle.scen_defs.specs.Lists.{Each, NumbersRise}
use Rattle.cut_defs.specs.Data.{Datum}
use Rattle.cut_defs.specs.Stored.{Source, StoredUses}
use Rattle.cut_sums.specs.Walks.{union_at, union, columns_in, form_from, earlier_walk}

pub above_weaker : (n m : ℕ) (xs : List ℕ) → m ≤ n → NumbersRise n xs → NumbersRise m xs
above_weaker n m [] h a = tt
above_weaker n m (x ∷ xs) h a = (let k : n ≤ x = a.0 in omega arith, a.1)

above_at : (n x : ℕ) (xs : List ℕ) → ((n : ℕ) (ys : List ℕ) → NumbersRise n xs → NumbersRise n ys → NumbersRise n (union xs ys)) → NumbersRise n (x ∷ xs) → (ys : List ℕ) → NumbersRise n ys → NumbersRise n (union_at x (union xs) ys)
above_at n x xs ih h [] g = (h.0, ih (suc x) [] h.1 tt)
above_at n x xs ih h (y ∷ ys) g = go (ltb x y) refl (ltb y x) refl (λ q. above_at (suc y) x xs ih (let l : y < x = ltb-true y x q in omega arith, h.1) ys g.1)
  where
    go : (s : Bool) → ltb x y ≡ s → (u : Bool) → ltb y x ≡ u → (ltb y x ≡ true → NumbersRise (suc y) (union_at x (union xs) ys)) → NumbersRise n (elim s [ true ↦ x ∷ union xs (y ∷ ys) | false ↦ elim u [ true ↦ y ∷ union_at x (union xs) ys | false ↦ x ∷ union xs ys ] ])
    go true p u q inner = (h.0, ih (suc x) (y ∷ ys) h.1 (let l : x < y = ltb-true x y p in omega arith, g.1))
    go false p true q inner = (g.0, inner q)
    go false p false q inner = (h.0, ih (suc x) ys h.1 (let e : x ≡ y = omega (arith, ltb-false x y p, ltb-false y x q) in subst (λ z. NumbersRise (suc z) ys) (sym e) g.1))

union_rises : (xs : List ℕ) (n : ℕ) (ys : List ℕ) → NumbersRise n xs → NumbersRise n ys → NumbersRise n (union xs ys)
union_rises [] n ys h g = g
union_rises (x ∷ xs) n ys h g = above_at n x xs (union_rises xs) h ys g

form_rises : (n : ℕ) (f : List Entry) → Ascending n f → NumbersRise n (columns_in f)
form_rises n [] a = tt
form_rises n (e ∷ f) a = (a.0, form_rises (suc e.column) f a.1)

pub union_of_form : (xs : List ℕ) (ys : List Entry) → NumbersRise 0 xs → Ascending 0 ys → NumbersRise 0 (union xs (columns_in ys))
union_of_form xs ys a h = union_rises xs 0 (columns_in ys) a (form_rises 0 ys h)

-- ---- what is left rises above what was written
abbrev pub AllEndBelow : List ℕ → List Entry → Type 0
AllEndBelow xs f = Each (λ j. EndsBelow j f) xs

pub above_drop : (n i : ℕ) (xs : List ℕ) → NumbersRise n xs → NumbersRise n (drop i xs)
above_drop n zero xs a = a
above_drop n (suc i) [] a = tt
above_drop n (suc i) (x ∷ xs) a = above_drop n i xs (above_weaker (suc x) n xs (let k : n ≤ x = a.0 in omega arith) a.1)

ends_below_push : (c : ℕ) (f : List Entry) (e : Entry) → EndsBelow c f → e.column < c → EndsBelow c (f ++ e ∷ [])
ends_below_push c [] e h l = (l, tt)
ends_below_push c (d ∷ f) e h l = (h.0, ends_below_push c f e h.1 l)

pub all_above : (n : ℕ) (xs : List ℕ) → NumbersRise n xs → Each (λ x. n ≤ x) xs
all_above n [] a = tt
all_above n (x ∷ xs) a = (a.0, all_above n xs (above_weaker (suc x) n xs (let k : n ≤ x = a.0 in omega arith) a.1))

-- a column is written: what is left ends above it
written : (c : ℕ) (v : ℚ) (f : List Entry) (ys : List ℕ) → Each (λ x. suc c ≤ x) ys → AllEndBelow ys f → AllEndBelow ys (f ++ record { column = c; value = v } ∷ [])
written c v f [] k g = tt
written c v f (y ∷ ys) k g = (ends_below_push y f (record { column = c; value = v }) g.0 k.0, written c v f ys k.1 g.1)

-- the same where a value 0 isn't written
pub put_below : (c : ℕ) (v : ℚ) (f : List Entry) (ys : List ℕ) → Each (λ x. suc c ≤ x) ys → AllEndBelow ys f → AllEndBelow ys (f ++ put c v [])
put_below c v f ys k g = go (is_zero v)
  where
    go : (z : Bool) → AllEndBelow ys (f ++ put_unless z c v [])
    go true = subst (AllEndBelow ys) (sym (append-nil f)) g
    go false = written c v f ys k g

read_drop : (xs : List ℕ) (i d : ℕ) → i < length xs → drop i xs ≡ get_or xs i d ∷ drop (i + 1) xs
read_drop xs i d h = rw (add-one i) (drop-cons xs i d h)

-- the next column is above all that was written, and so are those behind it
pub next_below : (xs : List ℕ) (i d : ℕ) (f : List Entry) → i < length xs → AllEndBelow (drop i xs) f → EndsBelow (get_or xs i d) f × AllEndBelow (drop (i + 1) xs) f
next_below xs i d f h a = subst (λ l. AllEndBelow l f) (read_drop xs i d h) a

-- the next column is written: what is left ends above it
pub next_put : (xs : List ℕ) (i d : ℕ) (v : ℚ) (f all : List Entry) → i < length xs → NumbersRise 0 xs → AllEndBelow (drop i xs) f → all ≡ f ++ put (get_or xs i d) v [] → AllEndBelow (drop (i + 1) xs) all
next_put xs i d v f all h a b e =
    let r : NumbersRise 0 (get_or xs i d ∷ drop (i + 1) xs) = subst (NumbersRise 0) (read_drop xs i d h) (above_drop 0 i xs a) in
    subst (AllEndBelow (drop (i + 1) xs)) (sym e) (put_below (get_or xs i d) v f (drop (i + 1) xs) (all_above (suc (get_or xs i d)) (drop (i + 1) xs) r.1) (next_below xs i d f h b).1)

pub form_next : (d : Datum) (s : Source) (uses : StoredUses) (xs : List ℕ) (i k : ℕ) (v : ℚ) (f all : List Entry) (whole : Result (List Entry) Operation) → i < length xs → all ≡ f ++ put (get_or xs i k) v [] → Ok v ≡ earlier_walk d s uses (get_or xs i k)
    → form_from d s uses f (drop i xs) ≡ whole → form_from d s uses all (drop (i + 1) xs) ≡ whole
form_next d s uses xs i k v f all whole h e w kept =
    ap (λ g. form_from d s uses g (drop (i + 1) xs)) e
    ∙ ap (λ r. then_walk r (λ q. form_from d s uses (f ++ put (get_or xs i k) q []) (drop (i + 1) xs))) w
    ∙ sym (ap (form_from d s uses f) (read_drop xs i k h)) ∙ kept
