-- The cut that is told: what it is made of, that it is made from the datum, and its value at the trial.
use Rattle.std.proofs.Common.{◌≡◌, ℕ, zero, suc, Bool, true, false, ◌||◌, eqb, List, [], ◌∷◌, ◌++◌, map, Option, Some, None, Ok, refl, sym, ap, ap₂, subst, ◌∙◌, eq-eqb}
use Rattle.std.proofs.lemmas.Bool.{eqb-false}
use mathlib.Core.Path.{fun_ext}
use Rattle.rationals.specs.Rational.{ℚ, ◌+ℚ◌, ◌*ℚ◌, zero_mul_ℚ, zero_add_ℚ}
use Rattle.rationals.specs.Sums.{sum_ℚ}
use Rattle.rationals.specs.Sparse.{Entry, coefficient, product}
use Rattle.rationals.specs.Forms.{is_zero}
use Rattle.rationals.specs.Passes.{then_walk}
use Rattle.rationals.specs.Choices.{pick}
use Rattle.lp_defs.specs.Walks.{Walk, after_ok}
use Rattle.scen_defs.specs.Lists.{Each, is_in}
use Rattle.scen_defs.specs.Ends.{worth}
use Rattle.scen_defs.specs.declared.program.NodeRow.{NodeRow}
use Rattle.cut_defs.specs.Data.{Datum}
use Rattle.cut_defs.specs.Stored.{Source, Stored, StoredUses, source_of, uses_of, constant_sum, reduced_of, IsEarlier, IsMadeFrom}
use Rattle.cut_defs.specs.Stored.Stored.{Stored_of}
use Rattle.cut_defs.specs.Stored.StoredUses.{Use_stored}
use Rattle.cut_defs.specs.declared.datum.ColumnBounds.{ColumnBounds}
use Rattle.cut_defs.specs.declared.datum.Share.{Share}
use Rattle.cut_defs.specs.declared.kinds.CutKind.{CutKind}
use Rattle.cut_proof.specs.Conditions.{UsesChildren, MayBeMade}
use Rattle.cut_sums.specs.Walks.{priced_from, form_from, all_columns, constant_walk, cut_if, made}
use Rattle.interval_form.specs.Own.{place_from}
use Rattle.cut_proof.specs.declared.child.ChildCuts.{ChildCuts}
use Rattle.node_lp.specs.Weighed.{Weighed}
use Rattle.node_lp.specs.Problem.{HeldCut, held, PlacedCut, Problem, IsCut, IsOther, is_taken, taken_of, taken, child_at}
use Rattle.node_lp.specs.Records.{weighed_constant, slope, reduced, constant, value_at, IsRecord}
use Rattle.node_lp.specs.Stored.{AreStored, IsStoredIn, stored_uses, AreAbove, IsGoodStored}
use Rattle.node_lp.specs.Places.{OfRows}
use Rattle.node_lp.specs.Told.{stored_of, stored_cuts, record_of}
use Rattle.node_lp.proofs.Pairing.{pairing}
use Rattle.node_lp.proofs.StoredShows.{stored_records_hold, slope_same, reduced_same, test_zero}

-- ---- the program's cuts are those of the task
same_append : (cs cs' : List PlacedCut) (ds ds' : List Stored) → AreStored cs ds → AreStored cs' ds' → AreStored (cs ++ cs') (ds ++ ds')
same_append [] cs' [] ds' a b = b
same_append [] cs' (d ∷ ds) ds' a b = absurd a
same_append (c ∷ cs) cs' [] ds' a b = absurd a
same_append (c ∷ cs) cs' (d ∷ ds) ds' a b = (a.0, same_append cs cs' ds ds' a.1 b)

child_same : (priced : Bool) (k : ℕ) (cs : List Stored) → AreStored (taken_of priced k cs) (stored_of priced cs)
child_same priced k [] = tt
child_same priced k (c ∷ cs) = go (is_taken priced (source_of c).kind) (child_same priced k cs)
  where
    go : (b : Bool) → AreStored (taken_of priced k cs) (stored_of priced cs)
        → AreStored (pick b (record { child = k; cut = held c } ∷ taken_of priced k cs) (taken_of priced k cs)) (pick b (c ∷ stored_of priced cs) (stored_of priced cs))
    go true h = (refl, h)
    go false h = h

pub cuts_same : (priced : Bool) (k : ℕ) (cs : List ChildCuts) → AreStored (taken priced k cs) (stored_cuts priced cs)
cuts_same priced k [] = tt
cuts_same priced k (c ∷ cs) =
    same_append (taken_of priced k c.cuts.items) (taken priced (suc k) cs) (stored_of priced c.cuts.items) (stored_cuts priced cs) (child_same priced k c.cuts.items) (cuts_same priced (suc k) cs)

-- ---- each used cut is about a child
child_in : (ss : List Share) (k n : ℕ) → child_at ss k ≡ Some n → is_in n (map (λ (s : Share). s.child) ss) ≡ true
child_in [] k n e = absurd (cc)
child_in (s ∷ ss) zero n e = let q : s.child ≡ n = cc in ap (λ b. b || is_in n (map (λ (t : Share). t.child) ss)) (eq-eqb s.child n q)
child_in (s ∷ ss) (suc k) n e = or_later (eqb s.child n) (is_in n (map (λ (t : Share). t.child) ss)) (child_in ss k n e)
  where
    or_later : (a b : Bool) → b ≡ true → (a || b) ≡ true
    or_later true b e = refl
    or_later false b e = e

pub uses_children : (d : Datum) (priced : Bool) (ws : List ℚ) (cs : List PlacedCut) (ds : List Stored) → AreStored cs ds → Each (IsCut priced d.shares) cs → AreAbove (stored_uses ws ds) → UsesChildren d (stored_uses ws ds)
uses_children d priced ws [] [] s h a = tt
uses_children d priced ws [] (e ∷ ds) s h a = absurd s
uses_children d priced ws (c ∷ cs) [] s h a = absurd s
uses_children d priced [] (c ∷ cs) (e ∷ ds) s h a = tt
uses_children d priced (w ∷ ws) (c ∷ cs) (e ∷ ds) s h a = go (is_zero w) a (uses_children d priced ws cs ds s.1 h.1)
  where
    about : is_in (source_of e).node (map (λ (t : Share). t.child) d.shares) ≡ true
    about = child_in d.shares c.child (source_of e).node (h.0.about ∙ ap Some (sym (ap (λ (k : HeldCut). k.node) s.0)))

    go : (b : Bool) → AreAbove (pick b (stored_uses ws ds) (Use_stored w e (stored_uses ws ds))) → (AreAbove (stored_uses ws ds) → UsesChildren d (stored_uses ws ds))
        → UsesChildren d (pick b (stored_uses ws ds) (Use_stored w e (stored_uses ws ds)))
    go true k f = f k
    go false k f = (k.0, (about, f k.1))

-- ---- what the walk of a cut gives is of its record
seen : (g : Bool) (cut other : Stored) → ◌≡◌ {A = Walk (Option Stored)} (Ok (cut_if g cut)) (Ok (Some other)) → other ≡ cut
seen true cut other e = let q : other ≡ cut = cc in q
seen false cut other e = absurd (cc)

pub made_parts : (d : Datum) (s : Source) (uses : StoredUses) (cut : Stored) → made d s uses ≡ Ok (Some cut) → (source_of cut ≡ s) × (uses_of cut ≡ uses)
made_parts d s uses cut e =
    let one = after_ok (priced_from d s uses [] d.bounds) (λ priced. then_walk (form_from d s uses [] (all_columns d.rows uses)) (λ form. then_walk (constant_walk d s uses priced) (λ w. Ok (cut_if w.is_good (Stored_of s uses w.sum form))))) (Some cut) e in
    let two = after_ok (form_from d s uses [] (all_columns d.rows uses)) (λ form. then_walk (constant_walk d s uses one.0) (λ w. Ok (cut_if w.is_good (Stored_of s uses w.sum form)))) (Some cut) one.2 in
    let three = after_ok (constant_walk d s uses one.0) (λ w. Ok (cut_if w.is_good (Stored_of s uses w.sum two.0))) (Some cut) two.2 in
    let q : cut ≡ Stored_of s uses three.0.sum two.0 = seen three.0.is_good (Stored_of s uses three.0.sum two.0) cut three.2 in
    (ap source_of q, ap uses_of q)

-- ---- the value at the trial
constants_same : (ws : List ℚ) (cs : List PlacedCut) (ds : List Stored) → AreStored cs ds → constant_sum (stored_uses ws ds) ≡ weighed_constant ws cs
constants_same ws [] [] s = no_cuts ws
  where
    no_cuts : (ws : List ℚ) → constant_sum (stored_uses ws []) ≡ weighed_constant ws []
    no_cuts [] = refl
    no_cuts (w ∷ ws) = refl
constants_same ws [] (d ∷ ds) s = absurd s
constants_same ws (c ∷ cs) [] s = absurd s
constants_same [] (c ∷ cs) (d ∷ ds) s = refl
constants_same (w ∷ ws) (c ∷ cs) (d ∷ ds) s = go (is_zero w) refl (constants_same ws cs ds s.1)
  where
    go : (b : Bool) → is_zero w ≡ b → constant_sum (stored_uses ws ds) ≡ weighed_constant ws cs
        → constant_sum (pick b (stored_uses ws ds) (Use_stored w d (stored_uses ws ds))) ≡ w *ℚ c.cut.constant +ℚ weighed_constant ws cs
    go true z h = h ∙ sym (ap (λ q. q *ℚ c.cut.constant +ℚ weighed_constant ws cs) (test_zero w z) ∙ ap (λ q. q +ℚ weighed_constant ws cs) (zero_mul_ℚ c.cut.constant) ∙ zero_add_ℚ _)
    go false z h = ap₂ (λ q r. w *ℚ q +ℚ r) (ap (λ (k : HeldCut). k.constant) s.0) h

pub none_earlier : (k : ℕ) (bs : List ColumnBounds) (j : ℕ) → place_from k bs j ≡ None → IsEarlier bs j
none_earlier k [] j e = tt
none_earlier k (b ∷ bs) j e = go (eqb b.column j) refl e (λ q. none_earlier (suc k) bs j q)
  where
    go : (t : Bool) → eqb b.column j ≡ t → pick t (Some k) (place_from (suc k) bs j) ≡ None → (place_from (suc k) bs j ≡ None → IsEarlier bs j) → (b.column ≡ j → ⊥) × IsEarlier bs j
    go true q p h = absurd (cc)
    go false q p h = (eqb-false b.column j q, h p)

product_on : (g : List Entry) (x y : ℕ → ℚ) → Each (λ (e : Entry). x e.column ≡ y e.column) g → product g x ≡ product g y
product_on [] x y h = refl
product_on (e ∷ g) x y h = ap₂ (λ p q. e.value *ℚ p +ℚ q) h.0 (product_on g x y h.1)

module _ (d : Datum) (s : Source) (p : Problem) (cuts : List Stored) (ws : List ℚ) (h : IsStoredIn d p cuts) where
  constant_same : (k : CutKind) → s.kind ≡ k → (c : ℚ) (f : List Entry) → IsMadeFrom d s (stored_uses ws cuts) c f → c ≡ constant p k s.multipliers ws
  unfolding constant
  constant_same k e c f m =
      m.constant_is
      ∙ ap₂ (λ a b. a +ℚ b +ℚ constant_sum (stored_uses ws cuts))
      (ap (sum_ℚ (λ (r : NodeRow). worth r.low r.high (coefficient s.multipliers r.row))) h.rows)
      (ap (sum_ℚ (λ (b : ColumnBounds). worth b.lower b.upper (reduced_of d s (stored_uses ws cuts) b.column))) h.bounds
      ∙ ap (λ (g : ColumnBounds → ℚ). sum_ℚ g p.bounds) (fun_ext (λ (b : ColumnBounds). ap (worth b.lower b.upper) (reduced_same d s p cuts ws h k e b.column))))
      ∙ ap (λ q. sum_ℚ (λ (r : NodeRow). worth r.low r.high (coefficient s.multipliers r.row)) p.rows +ℚ sum_ℚ (λ (b : ColumnBounds). worth b.lower b.upper (reduced p k s.multipliers ws b.column)) p.bounds +ℚ q)
      (constants_same ws p.cuts cuts h.same)

  slopes_on : (c : ℚ) (f : List Entry) → IsMadeFrom d s (stored_uses ws cuts) c f → (g : List Entry) → Each (IsOther p.bounds) g → Each (λ (e : Entry). coefficient f e.column ≡ slope p s.multipliers ws e.column) g
  slopes_on c f m [] o = tt
  slopes_on c f m (e ∷ g) o = (
    m.form_is e.column (subst (λ (bs : List ColumnBounds). IsEarlier bs e.column) (sym h.bounds) (none_earlier 0 p.bounds e.column o.0)) ∙ slope_same d s p cuts ws h e.column,
    slopes_on c f m g o.1,
  )

  pub value_is : (k : CutKind) → s.kind ≡ k → (c : ℚ) (f : List Entry) → IsMadeFrom d s (stored_uses ws cuts) c f → Each (IsOther p.bounds) p.trial
      → c +ℚ product f (coefficient p.trial) ≡ value_at p k s.multipliers ws
  value_is k e c f m o =
      ap₂ ◌+ℚ◌ (constant_same k e c f m) (pairing f p.trial ∙ product_on p.trial (coefficient f) (slope p s.multipliers ws) (slopes_on c f m p.trial o))

-- ---- the record may be made
pub may_be_made : (d : Datum) (p : Problem) (cuts : List Stored) (k : CutKind) (m : Weighed) → IsStoredIn d p cuts → Each (IsCut p.priced p.shares) p.cuts → IsRecord p k m.rows m.weights → OfRows p.rows m.rows
    → MayBeMade d (record_of d k m) (stored_uses m.weights cuts)
may_be_made d p cuts k m h c r o =
    let g : IsGoodStored d (record_of d k m) (stored_uses m.weights cuts) = stored_records_hold d (record_of d k m) p k cuts m.weights refl h r in
    record {
      node = refl;
      rows_version = refl;
      costs_version = refl;
      on_rows = subst (λ (rows : List NodeRow). OfRows rows m.rows) (sym h.rows) o;
      weights = g.weights;
      children = uses_children d p.priced m.weights p.cuts cuts h.same (subst (λ (ss : List Share). Each (IsCut p.priced ss) p.cuts) (sym h.shares) c) g.above;
    }
