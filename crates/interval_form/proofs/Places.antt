-- Places found by bisection, and the terms of a form one by one.
use Rattle.std.proofs.Common.{◌≡◌, ℕ, zero, suc, ◌+◌, ◌<◌, ◌≤◌, Bool, true, false, ltb, List, [], ◌∷◌, ◌++◌, Some, None, Ok, Err, length, get_or, refl, sym, ap, ◌∙◌, arith, append_assoc}
use Rattle.std.proofs.lemmas.Bool.{ne_eqb, ltb-true, ltb-false}
use Rattle.rationals.specs.declared.Op.{Op}
use Rattle.rationals.specs.Rational.{ℚ}
use Rattle.rationals.specs.Passes.{Operation, then_walk, step_walk}
use Rattle.rationals.specs.Sparse.{Entry}
use Rattle.rationals.specs.Choices.{pick}
use Rattle.lp_defs.specs.Walks.{Walk}
use Rattle.cut_defs.specs.declared.datum.ColumnBounds.{ColumnBounds}
use Rattle.interval_form.specs.declared.part.Part.{Part}
use Rattle.interval_form.specs.Parts.{bound_at, part_at, spread, spread_form}
use Rattle.interval_form.specs.Own.{place_from, place_of}
use Rattle.cut_defs.specs.Data.{BoundsRise}
use Rattle.interval_form.specs.Rows.{terms_walk}
use Rattle.interval_form.proofs.OwnForms.{place_at}

pub bound_read : (bs : List ColumnBounds) (i : ℕ) (b : ColumnBounds) → i < length bs → b ≡ get_or bs i b → b ≡ bound_at bs i
bound_read [] i b h e = absurd (omega arith)
bound_read (c ∷ bs) zero b h e = e
bound_read (c ∷ bs) (suc i) b h e = bound_read bs i b (omega arith) e

-- columns rise with their places
later : (m : ℕ) (bs : List ColumnBounds) (i j : ℕ) → BoundsRise m bs → i ≤ j → j < length bs → (m ≤ (bound_at bs i).column) × ((bound_at bs i).column ≤ (bound_at bs j).column)
later m [] i j r l h = absurd (omega (arith, h))
later m (b ∷ bs) zero zero r l h = (r.0, omega arith)
later m (b ∷ bs) zero (suc j) r l h = let k = later (suc b.column) bs j j r.1 (omega arith) (omega (arith, h)) in let k0 : suc b.column ≤ (bound_at bs j).column = k.0 in (r.0, omega (arith, k0))
later m (b ∷ bs) (suc i) zero r l h = absurd (omega arith)
later m (b ∷ bs) (suc i) (suc j) r l h =
    let k = later (suc b.column) bs i j r.1 (omega arith) (omega (arith, h)) in
    let f : m ≤ b.column = r.0 in
    let g : suc b.column ≤ (bound_at bs i).column = k.0 in
    (omega (arith, f, g), k.1)

pub column_rises : (bs : List ColumnBounds) (i j : ℕ) → BoundsRise 0 bs → i ≤ j → j < length bs → (bound_at bs i).column ≤ (bound_at bs j).column
column_rises bs i j r l h = (later 0 bs i j r l h).1

-- a column that none of them is has no place
pub place_none : (k : ℕ) (bs : List ColumnBounds) (j : ℕ) → ((d : ℕ) → d < length bs → (bound_at bs d).column ≡ j → ⊥) → place_from k bs j ≡ None
place_none k [] j h = refl
place_none k (b ∷ bs) j h = ap (λ t. pick t (Some k) (place_from (suc k) bs j)) (ne_eqb b.column j (h 0 (omega arith))) ∙ place_none (suc k) bs j (λ d l. h (suc d) (omega (arith, l)))

-- a column at place d, which isn't before `first`, where the one at `first` is above j
pub nowhere : (bs : List ColumnBounds) (d first j : ℕ) → BoundsRise 0 bs → d < length bs → first < length bs → (bound_at bs d).column ≡ j → (d < first → (bound_at bs d).column < j) → j ≤ (bound_at bs first).column → ((bound_at bs first).column ≡ j → ⊥) → ⊥
nowhere bs d first j r l m e before least ne = go (ltb d first) refl
  where
    go : (t : Bool) → ltb d first ≡ t → ⊥
    go true q = let b : (bound_at bs d).column < j = before (ltb-true d first q) in absurd (omega (arith, b, e))
    go false q = let b : (bound_at bs first).column ≤ (bound_at bs d).column = column_rises bs first d r (ltb-false d first q) l in ne (omega (arith, b, e, least))

pub place_here : (bs : List ColumnBounds) (i j : ℕ) → BoundsRise 0 bs → i < length bs → (bound_at bs i).column ≡ j → Some i ≡ place_of bs j
place_here bs i j r h e = sym (ap (place_of bs) (sym e) ∙ place_at 0 0 bs i r h ∙ ap Some (let s : 0 + i ≡ i = omega arith in s))

-- ---- one term more
pub terms_append : (op : Op) (x : ℕ → ℚ) (s : ℚ) (f g : List Entry) → terms_walk op x s (f ++ g) ≡ then_walk (terms_walk op x s f) (λ t. terms_walk op x t g)
terms_append op x s [] g = refl
terms_append op x s (e ∷ f) g = go (step_walk op s e.value (x e.column)) (λ t. terms_append op x t f g)
  where
    go : (w : Walk ℚ) → ((t : ℚ) → terms_walk op x t (f ++ g) ≡ then_walk (terms_walk op x t f) (λ u. terms_walk op x u g)) → then_walk w (λ t. terms_walk op x t (f ++ g)) ≡ then_walk (then_walk w (λ t. terms_walk op x t f)) (λ t. terms_walk op x t g)
    go (Ok t) h = h t
    go (Err p) h = refl

pub spread_append : (ps : List Part) (f g : List Entry) → spread_form ps (f ++ g) ≡ spread_form ps f ++ spread_form ps g
spread_append ps [] g = refl
spread_append ps (e ∷ f) g = ap (λ (h : List Entry). spread (part_at ps e.column) e.value ++ h) (spread_append ps f g) ∙ sym (append_assoc (spread (part_at ps e.column) e.value) (spread_form ps f) (spread_form ps g))

-- where a walk goes on behind one more term, and where it ends in it
module _ (op : Op) (x : ℕ → ℚ) (s : ℚ) (f g : List Entry) where
  pub terms_next : (t : ℚ) (w : Walk ℚ) → terms_walk op x s (f ++ g) ≡ w → terms_walk op x s f ≡ Ok t → terms_walk op x t g ≡ w
  terms_next t w e h = sym (ap (λ (v : Walk ℚ). then_walk v (λ u. terms_walk op x u g)) h) ∙ sym (terms_append op x s f g) ∙ e

  pub terms_end : (p : Operation) (w : Walk ℚ) → terms_walk op x s (f ++ g) ≡ w → terms_walk op x s f ≡ Err p → w ≡ Err p
  terms_end p w e h = sym e ∙ terms_append op x s f g ∙ ap (λ (v : Walk ℚ). then_walk v (λ u. terms_walk op x u g)) h
