-- What the walks over rows and bounds show.
use Rattle.std.proofs.Common.{◌≡◌, ℕ, Bool, true, false, not, ◌&&◌, List, [], ◌∷◌, Option, Some, None, Ok, Err, map, refl, sym, subst, ◌∙◌}
use Rattle.rationals.specs.Rational.{ℚ, zero_ℚ, ◌<ℚ◌, at_most, at_most_true, at_most_false, not_le_of_lt_ℚ, zero_add_ℚ}
use Rattle.rationals.specs.Passes.{then_walk}
use Rattle.rationals.specs.Sparse.{product}
use Rattle.scen_defs.specs.declared.program.NodeRow.{NodeRow}
use Rattle.scen_defs.specs.Lists.{Each}
use Rattle.rationals.specs.Intervals.{AtLeast, AtMost, Between}
use Rattle.scen_defs.specs.Program.{View, IsTree}
use Rattle.scen_defs.specs.Flat.{along, FeasibleAt, Feasible, zero_end, zero_row, with_zero_ends, IsDirection}
use Rattle.scen_defs.proofs.SumLaws.{each-both, each-map}
use Rattle.scen_model.specs.declared.stop.Stop.TheVariants.{Decided}
use Rattle.rationals.specs.Forms.{product_from}
use Rattle.scen_model.specs.Walks.{stopping, own_end, is_above_low, is_below_high, is_between, test, rows_test, all_rows_test, bounds_test, all_bounds_test, meets_walk, cost_walk, direction_walk}
use Rattle.scen_model.specs.Laws.{FeasibleLaws, DirectionLaws}
use Rattle.rationals.proofs.WalkLaws.{ended, product_from-ends}
use Rattle.scen_model.proofs.WalkEnds.{Decides, decides, stopping-ends, stopping-decided, fold-each, fold-decided}
use Rattle.scen_model.proofs.WalkEnds.Decides.{at_first, at_next}
use Rattle.scen_model.proofs.CostEnds.{cost_is}

-- ---- one number and its interval
low-yes : (low : Option ℚ) (q : ℚ) → is_above_low low q ≡ true → AtLeast low q
low-yes None q e = tt
low-yes (Some l) q e = at_most_true l q e

high-yes : (high : Option ℚ) (q : ℚ) → is_below_high high q ≡ true → AtMost high q
high-yes None q e = tt
high-yes (Some h) q e = at_most_true q h e

low-no : (low : Option ℚ) (q : ℚ) → is_above_low low q ≡ false → AtLeast low q → ⊥
low-no None q e h = cc
low-no (Some l) q e h = not_le_of_lt_ℚ (at_most_false l q e) h

high-no : (high : Option ℚ) (q : ℚ) → is_below_high high q ≡ false → AtMost high q → ⊥
high-no None q e h = cc
high-no (Some l) q e h = not_le_of_lt_ℚ (at_most_false q l e) h

between-yes : (low high : Option ℚ) (q : ℚ) → test (is_between low high q) ≡ Ok tt → Between low high q
between-yes low high q e = go (is_above_low low q) refl (is_below_high high q) refl e
  where
    go : (a : Bool) → is_above_low low q ≡ a → (b : Bool) → is_below_high high q ≡ b → test (a && b) ≡ Ok tt → Between low high q
    go true d true f e = record { above = low-yes low q d; below = high-yes high q f }
    go true d false f e = absurd (cc)
    go false d b f e = absurd (cc)

between-no : (low high : Option ℚ) (q : ℚ) → test (is_between low high q) ≡ Err Decided → Between low high q → ⊥
between-no low high q e h = go (is_above_low low q) refl (is_below_high high q) refl e
  where
    go : (a : Bool) → is_above_low low q ≡ a → (b : Bool) → is_below_high high q ≡ b → test (a && b) ≡ Err Decided → ⊥
    go true d true f e = cc
    go true d false f e = high-no high q f h.below
    go false d b f e = low-no low q d h.above

-- ---- the rows of a node
module _ (ends : Option ℚ → Option ℚ) (x : ℕ → ℚ) where
  abbrev Holds : NodeRow → Type 0
  Holds r = Between (ends r.low) (ends r.high) (product r.entries x)

  sum-is : (r : NodeRow) (q : ℚ) → stopping (product_from x zero_ℚ r.entries) ≡ Ok q → q ≡ product r.entries x
  sum-is r q e = product_from-ends x zero_ℚ r.entries q (stopping-ends (product_from x zero_ℚ r.entries) q e) ∙ zero_add_ℚ _

  rows-yes : (rs : List NodeRow) → rows_test ends x rs ≡ Ok tt → Each Holds rs
  rows-yes [] e = tt
  rows-yes (r ∷ rs) e =
      let one = ended (stopping (product_from x zero_ℚ r.entries)) (λ s. then_walk (test (is_between (ends r.low) (ends r.high) s)) (λ _. rows_test ends x rs)) tt e in
      let two = ended (test (is_between (ends r.low) (ends r.high) one.result)) (λ _. rows_test ends x rs) tt one.next_is in
      (subst (λ (q : ℚ). Between (ends r.low) (ends r.high) q) (sum-is r one.result one.first_is) (between-yes (ends r.low) (ends r.high) one.result two.first_is), rows-yes rs two.next_is)

  rows-no : (rs : List NodeRow) → rows_test ends x rs ≡ Err Decided → Each Holds rs → ⊥
  rows-no [] e g = cc
  rows-no (r ∷ rs) e g = go (decides (stopping (product_from x zero_ℚ r.entries)) (λ s. then_walk (test (is_between (ends r.low) (ends r.high) s)) (λ _. rows_test ends x rs)) e) (λ k. rows-no rs k g.1)
    where
      second : (s : ℚ) → s ≡ product r.entries x → Decides (test (is_between (ends r.low) (ends r.high) s)) (λ _. rows_test ends x rs) → (rows_test ends x rs ≡ Err Decided → ⊥) → ⊥
      second s q (at_first d) rest = between-no (ends r.low) (ends r.high) s d (subst (λ (t : ℚ). Between (ends r.low) (ends r.high) t) (sym q) g.0)
      second s q (at_next _ d k) rest = rest k

      go : Decides (stopping (product_from x zero_ℚ r.entries)) (λ s. then_walk (test (is_between (ends r.low) (ends r.high) s)) (λ _. rows_test ends x rs)) → (rows_test ends x rs ≡ Err Decided → ⊥) → ⊥
      go (at_first d) rest = stopping-decided (product_from x zero_ℚ r.entries) d
      go (at_next s d k) rest = second s (sum-is r s d) (decides (test (is_between (ends r.low) (ends r.high) s)) (λ _. rows_test ends x rs) k) rest

-- ---- all nodes
module _ (ends : Option ℚ → Option ℚ) (v : View) (x : ℕ → ℕ → ℚ) where
  abbrev RowsHold : ℕ → Type 0
  RowsHold n = Each (λ (r : NodeRow). Between (ends r.low) (ends r.high) (product r.entries (along v x n))) (v.rows n)

  abbrev BoundsHold : ℕ → Type 0
  BoundsHold n = Each (λ j. Between (ends (v.lower j)) (ends (v.upper j)) (x n j)) (v.columns (v.stage n))

  bounds-yes : (n : ℕ) → bounds_test ends v x n ≡ Ok tt → BoundsHold n
  bounds-yes n e = fold-each (λ _ j. test (is_between (ends (v.lower j)) (ends (v.upper j)) (x n j))) (λ j. Between (ends (v.lower j)) (ends (v.upper j)) (x n j))
      (λ _ j _ d. between-yes (ends (v.lower j)) (ends (v.upper j)) (x n j) d) tt (v.columns (v.stage n)) tt e

  bounds-no : (n : ℕ) → bounds_test ends v x n ≡ Err Decided → BoundsHold n → ⊥
  bounds-no n e g = fold-decided (λ _ j. test (is_between (ends (v.lower j)) (ends (v.upper j)) (x n j))) (λ j. Between (ends (v.lower j)) (ends (v.upper j)) (x n j))
      (λ _ j d h. between-no (ends (v.lower j)) (ends (v.upper j)) (x n j) d h) tt (v.columns (v.stage n)) e g

  all-bounds : meets_walk ends v x ≡ Ok tt → Each BoundsHold v.live
  all-bounds e = fold-each (λ _ n. bounds_test ends v x n) BoundsHold (λ _ n _ d. bounds-yes n d) tt v.live tt (ended (all_bounds_test ends v x) (λ _. all_rows_test ends v x) tt e).first_is

  all-rows : meets_walk ends v x ≡ Ok tt → Each RowsHold v.live
  all-rows e = fold-each (λ _ n. rows_test ends (along v x n) (v.rows n)) RowsHold (λ _ n _ d. rows-yes ends (along v x n) (v.rows n) d) tt v.live tt (ended (all_bounds_test ends v x) (λ _. all_rows_test ends v x) tt e).next_is

  meets-no : meets_walk ends v x ≡ Err Decided → Each BoundsHold v.live → Each RowsHold v.live → ⊥
  meets-no e b r = go (decides (all_bounds_test ends v x) (λ _. all_rows_test ends v x) e)
    where
      go : Decides (all_bounds_test ends v x) (λ _. all_rows_test ends v x) → ⊥
      go (at_first d) = fold-decided (λ _ n. bounds_test ends v x n) BoundsHold (λ _ n d h. bounds-no n d h) tt v.live d b
      go (at_next _ d k) = fold-decided (λ _ n. rows_test ends (along v x n) (v.rows n)) RowsHold (λ _ n d h. rows-no ends (along v x n) (v.rows n) d h) tt v.live k r

pub feasible_is : FeasibleLaws
feasible_is = record {
  yes = λ v x e. each-both (λ n r b. record { rows = r; bounds = b }) v.live (all-rows own_end v x e) (all-bounds own_end v x e);
  no = λ v x e g. meets-no own_end v x e (each-map (λ n (h : FeasibleAt v x n). h.bounds) v.live g) (each-map (λ n (h : FeasibleAt v x n). h.rows) v.live g);
}

-- ---- directions
each-over : {A B : Type 0} (P : B → Type 0) (f : A → B) (xs : List A) → Each (λ a. P (f a)) xs → Each P (map f xs)
each-over P f [] h = tt
each-over P f (x ∷ xs) h = (h.0, each-over P f xs h.1)

each-under : {A B : Type 0} (P : B → Type 0) (f : A → B) (xs : List A) → Each P (map f xs) → Each (λ a. P (f a)) xs
each-under P f [] h = tt
each-under P f (x ∷ xs) h = (h.0, each-under P f xs h.1)

module _ (v : View) (d : ℕ → ℕ → ℚ) where
  abbrev Row : ℕ → NodeRow → Type 0
  Row n r = Between r.low r.high (product r.entries (along v d n))

  zero-feasible : meets_walk zero_end v d ≡ Ok tt → Feasible (with_zero_ends v) d
  zero-feasible e = each-both (λ n r b. record { rows = each-over (Row n) zero_row (v.rows n) r; bounds = b }) v.live (all-rows zero_end v d e) (all-bounds zero_end v d e)

  zero-refused : meets_walk zero_end v d ≡ Err Decided → Feasible (with_zero_ends v) d → ⊥
  zero-refused e g = meets-no zero_end v d e
      (each-map (λ n (h : FeasibleAt (with_zero_ends v) d n). h.bounds) v.live g)
      (each-map (λ n (h : FeasibleAt (with_zero_ends v) d n). each-under (Row n) zero_row (v.rows n) h.rows) v.live g)

  falls-yes : (c : ℚ) → test (not (at_most zero_ℚ c)) ≡ Ok tt → c <ℚ zero_ℚ
  falls-yes c e = go (at_most zero_ℚ c) refl e
    where
      go : (b : Bool) → at_most zero_ℚ c ≡ b → test (not b) ≡ Ok tt → c <ℚ zero_ℚ
      go true k e = absurd (cc)
      go false k e = at_most_false zero_ℚ c k

  falls-no : (c : ℚ) → test (not (at_most zero_ℚ c)) ≡ Err Decided → c <ℚ zero_ℚ → ⊥
  falls-no c e h = go (at_most zero_ℚ c) refl e
    where
      go : (b : Bool) → at_most zero_ℚ c ≡ b → test (not b) ≡ Err Decided → ⊥
      go true k e = not_le_of_lt_ℚ h (at_most_true zero_ℚ c k)
      go false k e = cc

  direction-yes : IsTree v → direction_walk v d ≡ Ok tt → IsDirection v d
  direction-yes t e =
      let one = ended (meets_walk zero_end v d) (λ _. then_walk (stopping (cost_walk v d)) (λ c. test (not (at_most zero_ℚ c)))) tt e in
      let two = ended (stopping (cost_walk v d)) (λ c. test (not (at_most zero_ℚ c))) tt one.next_is in
      record {
        feasible = zero-feasible one.first_is;
        falls = subst (λ (c : ℚ). c <ℚ zero_ℚ) (cost_is v d two.result t (stopping-ends (cost_walk v d) two.result two.first_is)) (falls-yes two.result two.next_is);
      }

  direction-no : IsTree v → direction_walk v d ≡ Err Decided → IsDirection v d → ⊥
  direction-no t e g = go (decides (meets_walk zero_end v d) (λ _. then_walk (stopping (cost_walk v d)) (λ c. test (not (at_most zero_ℚ c)))) e)
    where
      later : Decides (stopping (cost_walk v d)) (λ c. test (not (at_most zero_ℚ c))) → ⊥
      later (at_first k) = stopping-decided (cost_walk v d) k
      later (at_next c k h) = falls-no c h (subst (λ (q : ℚ). q <ℚ zero_ℚ) (sym (cost_is v d c t (stopping-ends (cost_walk v d) c k))) g.falls)

      go : Decides (meets_walk zero_end v d) (λ _. then_walk (stopping (cost_walk v d)) (λ c. test (not (at_most zero_ℚ c)))) → ⊥
      go (at_first k) = zero-refused k g.feasible
      go (at_next _ k h) = later (decides (stopping (cost_walk v d)) (λ c. test (not (at_most zero_ℚ c))) h)

pub direction_is : DirectionLaws
direction_is = record { yes = direction-yes; no = direction-no }
