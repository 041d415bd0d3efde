-- What the tests of a program's parts say.
use Rattle.std.proofs.Common.{◌≡◌, ℕ, suc, ◌<◌, ◌≤◌, ◌||◌, ◌&&◌, ◌^◌, eqb, length, Bool, true, false, ltb, List, [], ◌∷◌, refl, arith}
use Rattle.std.specs.Prelude.{leb}
use Rattle.std.proofs.lemmas.Bool.{false≢true, ltb-true, ltb-false, lt-ltb, leb-true, leb-false, eqb-true, eq-eqb}
use Rattle.rationals.specs.Rational.{ℚ, not_le_of_lt_ℚ}
use Rattle.rationals.specs.Sparse.{Entry, Ascending}
use Rattle.rationals.specs.Forms.{AllNonzero, EndsBelow}
use Rattle.lp_defs.specs.Tests.{is_zero, is_zero_true, is_zero_false, is_below_zero, is_below_zero_true, is_below_zero_false}
use Rattle.lp_defs.specs.Program.{IsProgram, IsFormBelow, AllFormsBelow, NoneNegative}
use Rattle.simplex_core.specs.Checks.{form_below, forms_below, none_negative, is_program}

-- what the test says of a list from column m on
record Below (n m : ℕ) (f : List Entry) : Type 0 where
  rises : Ascending m f
  nonzero : AllNonzero f
  below : EndsBelow n f

below_of : (n m : ℕ) (f : List Entry) → form_below n m f ≡ true → Below n m f
below_of n m [] e = record { rises = tt; nonzero = tt; below = tt }
below_of n m (t ∷ f) e = go (ltb t.column m) refl (leb n t.column) refl (is_zero t.value) refl e (below_of n (suc t.column) f)
  where
    go : (a : Bool) → ltb t.column m ≡ a → (b : Bool) → leb n t.column ≡ b → (z : Bool) → is_zero t.value ≡ z → ◌≡◌ {A = Bool} (elim (a || (b || z)) [ true ↦ false | false ↦ form_below n (suc t.column) f ]) true
        → (form_below n (suc t.column) f ≡ true → Below n (suc t.column) f) → Below n m (t ∷ f)
    go true p b q z r e ih = absurd (false≢true e)
    go false p true q z r e ih = absurd (false≢true e)
    go false p false q true r e ih = absurd (false≢true e)
    go false p false q false r e ih =
        let h = ih e in record {
          rises = (ltb-false t.column m p, h.rises);
          nonzero = (is_zero_false t.value r, h.nonzero);
          below = (leb-false n t.column q, h.below);
        }

below_to : (n m : ℕ) (f : List Entry) → Ascending m f → AllNonzero f → EndsBelow n f → form_below n m f ≡ true
below_to n m [] a z b = refl
below_to n m (t ∷ f) a z b = go (ltb t.column m) refl (leb n t.column) refl (is_zero t.value) refl (below_to n (suc t.column) f a.1 z.1 b.1)
  where
    go : (x : Bool) → ltb t.column m ≡ x → (y : Bool) → leb n t.column ≡ y → (w : Bool) → is_zero t.value ≡ w → form_below n (suc t.column) f ≡ true → elim (x || (y || w)) [ true ↦ false | false ↦ form_below n (suc t.column) f ] ≡ true
    go true p y q w r e = absurd (let l : t.column < m = ltb-true t.column m p in let k : m ≤ t.column = a.0 in omega arith)
    go false p true q w r e = absurd (let l : n ≤ t.column = leb-true n t.column q in let k : t.column < n = b.0 in omega arith)
    go false p false q true r e = absurd (z.0 (is_zero_true t.value r))
    go false p false q false r e = e

pub form_of : (n : ℕ) (f : List Entry) → form_below n 0 f ≡ true → IsFormBelow n f
form_of n f e = let h = below_of n 0 f e in record { form = record { rises = h.rises; nonzero = h.nonzero }; below = h.below }

pub form_to : (n : ℕ) (f : List Entry) → IsFormBelow n f → form_below n 0 f ≡ true
form_to n f h = below_to n 0 f h.form.rises h.form.nonzero h.below

pub forms_of : (n : ℕ) (rows : List (List Entry)) → forms_below n rows ≡ true → AllFormsBelow n rows
forms_of n [] e = tt
forms_of n (f ∷ rows) e = go (form_below n 0 f) refl e (forms_of n rows)
  where
    go : (b : Bool) → form_below n 0 f ≡ b → ◌≡◌ {A = Bool} (elim b [ true ↦ forms_below n rows | false ↦ false ]) true → (forms_below n rows ≡ true → AllFormsBelow n rows) → AllFormsBelow n (f ∷ rows)
    go true p e ih = (form_of n f p, ih e)
    go false p e ih = absurd (false≢true e)

pub forms_to : (n : ℕ) (rows : List (List Entry)) → AllFormsBelow n rows → forms_below n rows ≡ true
forms_to n [] h = refl
forms_to n (f ∷ rows) h = go (form_below n 0 f) (form_to n f h.0) (forms_to n rows h.1)
  where
    go : (b : Bool) → b ≡ true → forms_below n rows ≡ true → elim b [ true ↦ forms_below n rows | false ↦ false ] ≡ true
    go true p e = e
    go false p e = p

pub rights_of : (right : List ℚ) → none_negative right ≡ true → NoneNegative right
rights_of [] e = tt
rights_of (b ∷ right) e = go (is_below_zero b) refl e (rights_of right)
  where
    go : (t : Bool) → is_below_zero b ≡ t → ◌≡◌ {A = Bool} (elim t [ true ↦ false | false ↦ none_negative right ]) true → (none_negative right ≡ true → NoneNegative right) → NoneNegative (b ∷ right)
    go true p e ih = absurd (false≢true e)
    go false p e ih = (is_below_zero_false b p, ih e)

pub rights_to : (right : List ℚ) → NoneNegative right → none_negative right ≡ true
rights_to [] h = refl
rights_to (b ∷ right) h = go (is_below_zero b) refl (rights_to right h.1)
  where
    go : (t : Bool) → is_below_zero b ≡ t → none_negative right ≡ true → elim t [ true ↦ false | false ↦ none_negative right ] ≡ true
    go true p e = absurd (not_le_of_lt_ℚ (is_below_zero_true b p) h.0)
    go false p e = e

both_true : (a b : Bool) → a && b ≡ true → (a ≡ true) × (b ≡ true)
both_true true b e = (refl, e)
both_true false b e = absurd (false≢true e)

true_both : (a b : Bool) → a ≡ true → b ≡ true → a && b ≡ true
true_both true b p q = q
true_both false b p q = absurd (false≢true p)

pub program_of : (n : ℕ) (rows : List (List Entry)) (right : List ℚ) (cost : List Entry) → is_program n rows right cost ≡ true → IsProgram (record { columns = n; rows = rows; right = right; cost = cost })
program_of n rows right cost e =
    let a = both_true (ltb n (2 ^ 63)) (eqb (length right) (length rows) && (forms_below n rows && (none_negative right && form_below n 0 cost))) e in
    let b = both_true (eqb (length right) (length rows)) (forms_below n rows && (none_negative right && form_below n 0 cost)) a.1 in
    let c = both_true (forms_below n rows) (none_negative right && form_below n 0 cost) b.1 in
    let d = both_true (none_negative right) (form_below n 0 cost) c.1 in
    record {
      limit = ltb-true n (2 ^ 63) a.0;
      rows = forms_of n rows c.0;
      one_each = eqb-true (length right) (length rows) b.0;
      right = rights_of right d.0;
      cost = form_of n cost d.1;
    }

pub program_to : (n : ℕ) (rows : List (List Entry)) (right : List ℚ) (cost : List Entry) → IsProgram (record { columns = n; rows = rows; right = right; cost = cost }) → is_program n rows right cost ≡ true
program_to n rows right cost h =
    true_both (ltb n (2 ^ 63)) (eqb (length right) (length rows) && (forms_below n rows && (none_negative right && form_below n 0 cost))) (lt-ltb n (2 ^ 63) h.limit)
    (true_both (eqb (length right) (length rows)) (forms_below n rows && (none_negative right && form_below n 0 cost)) (eq-eqb (length right) (length rows) h.one_each)
    (true_both (forms_below n rows) (none_negative right && form_below n 0 cost) (forms_to n rows h.rows) (true_both (none_negative right) (form_below n 0 cost) (rights_to right h.right) (form_to n cost h.cost))))
