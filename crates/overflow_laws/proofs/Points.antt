-- The values of a point that the solve of a node finds fit, and are of own columns; so the point can be kept beside the trial.
use Rattle.std.proofs.Common.{◌≡◌, ◌∙◌, ℕ, suc, Bool, true, false, eqb, List, [], ◌∷◌, ◌++◌, Some, None, Ok, refl, sym, ap, subst}
use Rattle.std.proofs.Common.{append-nil}
use Rattle.std.proofs.lemmas.Bool.{eq-eqb}
use Rattle.rationals.specs.declared.Op.{Op}
use Rattle.rationals.specs.declared.Op.TheVariants.{Add, Sub, Mul}
use Rattle.rationals.specs.Rational.{ℚ, one_ℚ, ◌*ℚ◌, by_ring, terms}
use Rattle.rationals.specs.Forms.{is_zero, put, put_unless, add_scaled_walk}
use Rattle.rationals.specs.Sparse.{Entry}
use Rattle.rationals.specs.Passes.{Operation, answer, too_wide, passes, value_of, walk, mul_walk, IsNarrow}
use Rattle.rationals.proofs.OrderMeaning.{walk_fits}
use Rattle.rationals.specs.Choices.{pick}
use Rattle.scen_defs.specs.Lists.{Each}
use Rattle.scen_defs.proofs.SumLaws.{each-map}
use Rattle.scen_defs.proofs.ValueLaws.{each-push}
use Rattle.cut_defs.specs.declared.datum.ColumnBounds.{ColumnBounds}
use Rattle.lp_defs.specs.Walks.{after_ok}
use Rattle.interval_form.specs.declared.part.Part.{Part}
use Rattle.interval_form.specs.declared.part.Part.TheVariants.{Above, Below, Free}
use Rattle.interval_form.specs.declared.part.Vector.TheVariants.{Point}
use Rattle.interval_form.specs.Parts.{part_at, value_walk}
use Rattle.interval_form.specs.Own.{place_from, place_of}
use Rattle.node_lp.specs.Problem.{IsOther}
use Rattle.node_lp.specs.Walk.{point_from}
use Rattle.claim_laws.proofs.Passing.{EndsIn}
use Rattle.overflow_laws.proofs.Forms.{sum_ends}

-- ---- what a walk gives fits
answer_fits : (b : Bool) (p : Operation) (x v : ℚ) → b ≡ too_wide x → answer b p x ≡ Ok v → IsNarrow v
answer_fits true p x v q e = absurd (cc)
answer_fits false p x v q e = let same : v ≡ x = cc in ap too_wide same ∙ sym q

value_fits : (op : Op) (a b v : ℚ) → walk op a b ≡ Ok v → IsNarrow v
value_fits op a b v e = answer_fits (passes op a b) (record { op = op; a = a; b = b }) (value_of op a b) v refl e

number_fits : (q : Part) (z : ℕ → ℚ) (v : ℚ) → value_walk Point q z ≡ Ok v → IsNarrow v
number_fits (Above l m) z v e = value_fits Add l (z m) v e
number_fits (Below u m) z v e = value_fits Sub u (z m) v e
number_fits (Free m n) z v e = value_fits Sub (z m) (z n) v e

-- ---- a value of an own column that fits
pub record FitsOwn (bs : List ColumnBounds) (e : Entry) : Type 0 where
  pub own : place_of bs e.column ≡ None → ⊥
  pub fits : IsNarrow e.value

-- each own column has a place
behind_first : (t : Bool) (k j : ℕ) (bs : List ColumnBounds) → (place_from (suc k) bs j ≡ None → ⊥)
    → pick t (Some k) (place_from (suc k) bs j) ≡ None → ⊥
behind_first true k j bs h e = absurd (cc)
behind_first false k j bs h e = h e

have_places : (k : ℕ) (bs : List ColumnBounds) → Each (λ (b : ColumnBounds). place_from k bs b.column ≡ None → ⊥) bs
have_places k [] = tt
have_places k (b ∷ bs) = (
  (λ e. first (eqb b.column b.column) (eq-eqb b.column b.column refl) e),
  each-map {Q = λ (c : ColumnBounds). place_from k (b ∷ bs) c.column ≡ None → ⊥}
      (λ c h. behind_first (eqb b.column c.column) k c.column bs h) bs (have_places (suc k) bs),
)
  where
    first : (t : Bool) → t ≡ true → pick t (Some k) (place_from (suc k) bs b.column) ≡ None → ⊥
    first true q e = absurd (cc)
    first false q e = absurd (cc)

module _ (all : List ColumnBounds) where
  put_fits : (t : Bool) (c : ℕ) (v : ℚ) (made : List Entry) → (place_of all c ≡ None → ⊥) → IsNarrow v → Each (FitsOwn all) made
      → Each (FitsOwn all) (made ++ put_unless t c v [])
  put_fits true c v made o f h = subst (Each (FitsOwn all)) (sym (append-nil made)) h
  put_fits false c v made o f h = each-push (FitsOwn all) made (record { column = c; value = v }) h (record { own = o; fits = f })

  point_fits : (z : ℕ → ℚ) (ps : List Part) (made : List Entry) (k : ℕ) (bs : List ColumnBounds) (x : List Entry)
      → Each (λ (b : ColumnBounds). place_of all b.column ≡ None → ⊥) bs → Each (FitsOwn all) made
      → point_from z ps made k bs ≡ Ok x → Each (FitsOwn all) x
  point_fits z ps made k [] x o h e = let same : made ≡ x = cc in subst (Each (FitsOwn all)) same h
  point_fits z ps made k (b ∷ bs) x o h e =
      let first = after_ok (value_walk Point (part_at ps k) z) (λ v. point_from z ps (made ++ put b.column v []) (suc k) bs) x e in
      point_fits z ps (made ++ put b.column first.0 []) (suc k) bs x o.1
      (put_fits (is_zero first.0) b.column first.0 made o.0 (number_fits (part_at ps k) z first.0 first.1) h) first.2

pub all_fit : (z : ℕ → ℚ) (ps : List Part) (bs : List ColumnBounds) (x : List Entry) → point_from z ps [] 0 bs ≡ Ok x
    → Each (FitsOwn bs) x
all_fit z ps bs x e = point_fits bs z ps [] 0 bs x (have_places 0 bs) tt e

-- ---- beside the trial
abbrev pub Never : Operation → Type 0
Never o = ⊥

one_times : (v : ℚ) → IsNarrow v → EndsIn Never (mul_walk one_ℚ v)
one_times v f =
    let same : one_ℚ *ℚ v ≡ v = by_ring (v ∷ []) (search terms depth 40) tt in
    subst (EndsIn Never) (sym (walk_fits Mul one_ℚ v (ap too_wide same ∙ f))) tt

pub joins : (bs : List ColumnBounds) (trial x : List Entry) → Each (IsOther bs) trial → Each (FitsOwn bs) x
    → EndsIn Never (add_scaled_walk trial one_ℚ x)
joins bs trial x other own = sum_ends Never one_ℚ (IsOther bs) (FitsOwn bs) (λ d f. one_times d.value f.fits)
    (λ e d o f same. absurd (f.own (subst (λ (j : ℕ). place_of bs j ≡ None) same o))) trial x other own
