-- The last solves of nodes go on standing over columns of their stages and of earlier ones.
use Rattle.std.proofs.Common.{◌≡◌, ℕ, zero, suc, ◌≤◌, Bool, true, false, ◌||◌, eqb, eqb-true, leb, List, [], ◌∷◌, Option, Some, None, Result, Ok, Err, IfSome, slice_get, slice_set, replicate, map, refl, sym, ap, subst, ◌∙◌, arith}
use Rattle.std.specs.declared.cmp.Ordering.{Ordering}
use Rattle.std.specs.declared.cmp.Ordering.TheVariants.{Less, Equal, Greater}
use Rattle.std.specs.Ordering.{nat_cmp}
use Rattle.std.proofs.lemmas.Bool.{leb-true, le-leb}
use Rattle.rationals.specs.Rational.{ℚ, one_ℚ}
use Rattle.rationals.specs.Passes.{Operation, mul_walk, add_product_walk, then_walk, then_value}
use Rattle.rationals.specs.Sparse.{Entry}
use Rattle.rationals.specs.Forms.{is_zero, put_unless, put, scaled_walk, by_order, merge_at, add_scaled_walk}
use Rattle.scen_defs.specs.Lists.{Each, places, passes_at}
use Rattle.scen_defs.specs.Program.{Node, Program, View, is_live, node_at, or_root}
use Rattle.scen_defs.specs.Valid.{IsProgram, Lives, HasParent}
use Rattle.scen_defs.specs.declared.program.Column.{Column}
use Rattle.scen_defs.specs.declared.report.Kind.{Kind}
use Rattle.scen_defs.specs.declared.report.Kind.TheVariants as run_kind
use Rattle.scen_defs.proofs.Valid.{each-place}
use Rattle.cut_defs.specs.Data.{Datum, bounds_of, is_own}
use Rattle.cut_pool.specs.declared.offer.Offer.{Offer}
use Rattle.cut_pool.specs.declared.offer.Offer.TheVariants as offer
use Rattle.edit_defs.specs.Data.{view_in}
use Rattle.node_lp.specs.declared.task.Task.{Task}
use Rattle.node_lp.specs.declared.solved.Solved.{Solved}
use Rattle.node_lp.specs.declared.solved.Solved.TheVariants as solved
use Rattle.node_lp.specs.Answers.{IsAnswer}
use Rattle.node_data.specs.declared.versions.Version.{Version}
use Rattle.node_data.specs.Frames.{frame_of, parent_of, parent_in}
use Rattle.found_ends.specs.declared.last.Lasts.{Lasts}
use Rattle.found_ends.specs.declared.last.Last.{Last}
use Rattle.found_ends.specs.Lasts.{last_at, along_of, trial_of, with_last, kept}
use Rattle.pass_core.specs.declared.state.State.{State}
use Rattle.pass_core.specs.Counting.{after_answer}
use Rattle.pass_core.specs.Explained.{point_found}
use Rattle.pass_core.specs.Left.{places_in}
use Rattle.pass_core.specs.Reasons.{PassesInJoin}
use Rattle.pass_core.specs.Turns.{AreUpTo, PointsStand, KeepsPoints, datum_in, AreReady}

-- ---- the columns of a sum
-- P holds of each column
abbrev Columns : (ℕ → Type 0) → List Entry → Type 0
Columns P f = Each (λ (e : Entry). P e.column) f

then_ok : {A B : Type 0} (w : Result A Operation) (k : A → Result B Operation) (r : B) → then_walk w k ≡ Ok r → (x : A) × (k x ≡ Ok r)
then_ok (Ok x) k r e = (x, e)
then_ok (Err o) k r e = absurd (cc)

value_ok : {A B : Type 0} (f : A → B) (w : Result A Operation) (r : B) → then_value f w ≡ Ok r → (x : A) × ((w ≡ Ok x) × (f x ≡ r))
value_ok f (Ok x) r e = (x, (refl, cc))
value_ok f (Err o) r e = absurd (cc)

put_each : (P : ℕ → Type 0) (c : ℕ) (v : ℚ) (f : List Entry) → P c → Columns P f → Columns P (put c v f)
put_each P c v f p h = go (is_zero v)
  where
    go : (b : Bool) → Columns P (put_unless b c v f)
    go true = h
    go false = (p, h)

scaled_each : (P : ℕ → Type 0) (w : ℚ) (g r : List Entry) → scaled_walk w g ≡ Ok r → Columns P g → Columns P r
scaled_each P w [] r e h = let q : [] ≡ r = cc in subst (Columns P) q tt
scaled_each P w (d ∷ g) r e h =
    let a = then_ok (mul_walk w d.value) (λ v. then_value (put d.column v) (scaled_walk w g)) r e in
    let b = value_ok (put d.column a.0) (scaled_walk w g) r a.1 in
    subst (Columns P) b.1.1 (put_each P d.column a.0 b.0 h.0 (scaled_each P w g b.0 b.1.0 h.1))

merged_each : (P : ℕ → Type 0) (w : ℚ) (e : Entry) (rest : List Entry → Result (List Entry) Operation) (g r : List Entry) → P e.column
    → ((h r : List Entry) → rest h ≡ Ok r → Columns P h → Columns P r) → merge_at w e rest g ≡ Ok r → Columns P g → Columns P r
merged_each P w e rest [] r p k q h =
    let a = value_ok (λ (r : List Entry). e ∷ r) (rest []) r q in
    let t : Columns P (e ∷ a.0) = (p, k [] a.0 a.1.0 tt) in
    subst (Columns P) a.1.1 t
merged_each P w e rest (d ∷ g) r p k q h = go (nat_cmp e.column d.column) q (λ s t. merged_each P w e rest g s p k t h.1)
  where
    go : (o : Ordering) → by_order o (then_value (λ (r : List Entry). e ∷ r) (rest (d ∷ g)))
        (then_walk (add_product_walk e.value w d.value) (λ v. then_value (put e.column v) (rest g)))
        (then_walk (mul_walk w d.value) (λ v. then_value (put d.column v) (merge_at w e rest g))) ≡ Ok r
        → ((s : List Entry) → merge_at w e rest g ≡ Ok s → Columns P s) → Columns P r
    go Less q ih =
        let a = value_ok (λ (r : List Entry). e ∷ r) (rest (d ∷ g)) r q in
        let t : Columns P (e ∷ a.0) = (p, k (d ∷ g) a.0 a.1.0 h) in
        subst (Columns P) a.1.1 t
    go Equal q ih =
        let a = then_ok (add_product_walk e.value w d.value) (λ v. then_value (put e.column v) (rest g)) r q in
        let b = value_ok (put e.column a.0) (rest g) r a.1 in
        subst (Columns P) b.1.1 (put_each P e.column a.0 b.0 p (k g b.0 b.1.0 h.1))
    go Greater q ih =
        let a = then_ok (mul_walk w d.value) (λ v. then_value (put d.column v) (merge_at w e rest g)) r q in
        let b = value_ok (put d.column a.0) (merge_at w e rest g) r a.1 in
        subst (Columns P) b.1.1 (put_each P d.column a.0 b.0 h.0 (ih b.0 b.1.0))

added_each : (P : ℕ → Type 0) (f : List Entry) (w : ℚ) (g r : List Entry) → add_scaled_walk f w g ≡ Ok r → Columns P f → Columns P g → Columns P r
added_each P [] w g r q hf hg = scaled_each P w g r q hg
added_each P (e ∷ f) w g r q hf hg = merged_each P w e (add_scaled_walk f w) g r hf.0 (λ h s t k. added_each P f w h s t hf.1 k) q hg

-- ---- the last solves
put_stands : (Q : ℕ → Last → Type 0) (lasts : List (Option Last)) (n : ℕ) (last : Option Last) → IfSome last (Q n)
    → ((k : ℕ) → IfSome (last_at lasts k) (Q k)) → (k : ℕ) → IfSome (last_at (slice_set lasts n last) k) (Q k)
put_stands Q [] n last h all k = all k
put_stands Q (x ∷ xs) zero last h all zero = h
put_stands Q (x ∷ xs) zero last h all (suc k) = all (suc k)
put_stands Q (x ∷ xs) (suc n) last h all zero = all zero
put_stands Q (x ∷ xs) (suc n) last h all (suc k) = put_stands (λ j. Q (suc j)) xs n last h (λ j. all (suc j)) k

pub no_last : (n k : ℕ) → last_at (replicate n None) k ≡ None
no_last zero k = refl
no_last (suc n) zero = refl
no_last (suc n) (suc k) = no_last n k

module _ (p : Program) where
  -- no node has a last solve
  pub none_stand : (n : ℕ) (lasts : List (Option Last)) → lasts ≡ replicate n None → PointsStand p lasts
  none_stand n lasts e k = subst (λ (o : Option Last). IfSome o (λ last. AreUpTo p (node_at p.nodes k).stage last.along))
      (sym (ap (λ (ls : List (Option Last)). last_at ls k) e ∙ no_last n k)) tt

  pub empty_stand : (lasts : List (Option Last)) → lasts ≡ [] → PointsStand p lasts
  empty_stand lasts e = none_stand 0 lasts e

  pub forgotten_stand : (lasts new : List (Option Last)) (n : ℕ) → new ≡ with_last lasts n None → PointsStand p lasts → PointsStand p new
  forgotten_stand lasts new n e h = subst (PointsStand p) (sym e) (put_stands (λ k last. AreUpTo p (node_at p.nodes k).stage last.along) lasts n None tt h)

  -- a point is kept along with the values above it
  pub kept_stand : (lasts new : List (Option Last)) (n : ℕ) (trial point : List Entry) → kept lasts n trial point ≡ Ok new
      → AreUpTo p (node_at p.nodes n).stage trial → AreUpTo p (node_at p.nodes n).stage point → PointsStand p lasts → PointsStand p new
  kept_stand lasts new n trial point e t x h =
      let a = value_ok (λ (along : List Entry). with_last lasts n (Some (record { point = point; along = along }))) (add_scaled_walk trial one_ℚ point) new e in
      subst (PointsStand p) a.1.1
      (put_stands (λ k last. AreUpTo p (node_at p.nodes k).stage last.along) lasts n (Some (record { point = point; along = a.0 }))
      (added_each (λ j. passes_at (λ (c : Column). leb c.stage (node_at p.nodes n).stage) j p.columns ≡ true) trial one_ℚ point a.0 a.1.0 t x) h)

  -- ---- the trial of a node
  later_leb : (a s : ℕ) → leb a s ≡ true → leb a (suc s) ≡ true
  later_leb a s e = le-leb a (suc s) (let l : a ≤ s = leb-true a s e in omega (arith, l))

  later_passes : (s j : ℕ) (cs : List Column) → passes_at (λ (c : Column). leb c.stage s) j cs ≡ true → passes_at (λ (c : Column). leb c.stage (suc s)) j cs ≡ true
  later_passes s j [] e = e
  later_passes s zero (c ∷ cs) e = later_leb c.stage s e
  later_passes s (suc j) (c ∷ cs) e = later_passes s j cs e

  later : (s : ℕ) (f : List Entry) → AreUpTo p s f → AreUpTo p (suc s) f
  later s [] h = tt
  later s (e ∷ f) h = (later_passes s e.column p.columns h.0, later s f h.1)

  parent_read : (nodes : List (Option Node)) (k : ℕ) → passes_at is_live k nodes ≡ true → slice_get (map parent_of nodes) k ≡ Some (or_root (node_at nodes k).parent)
  parent_read [] k e = absurd (let no : false ≡ true = e in cc)
  parent_read (None ∷ nodes) zero e = absurd (let no : false ≡ true = e in cc)
  parent_read (Some node ∷ nodes) zero e = refl
  parent_read (None ∷ nodes) (suc k) e = parent_read nodes k e
  parent_read (Some node ∷ nodes) (suc k) e = parent_read nodes k e

  -- where it has a parent, the node is one stage behind it
  pub trial_above : (n m : ℕ) → IsProgram p → Lives p n → parent_in (frame_of p) n ≡ Some m → suc (node_at p.nodes m).stage ≡ (node_at p.nodes n).stage
  trial_above zero m i l e = absurd (let no : None ≡ Some m = e in cc)
  trial_above (suc n) m i l e = go (node_at p.nodes (suc n)).parent ((i.nodes (suc n) l).parent) (sym (parent_read p.nodes (suc n) l) ∙ e)
    where
      go : (o : Option ℕ) → HasParent p (suc n) (node_at p.nodes (suc n)).stage o → Some (or_root o) ≡ Some m → suc (node_at p.nodes m).stage ≡ (node_at p.nodes (suc n)).stage
      go None h q = absurd (let no : suc n ≡ 0 = h.0 in omega (arith, no))
      go (Some k) h q = let same : k ≡ m = cc in ap (λ (j : ℕ). suc (node_at p.nodes j).stage) (sym same) ∙ sym h.earlier

  along_stands : (s : ℕ) (o : Option Last) → IfSome o (λ last. AreUpTo p s last.along) → AreUpTo p s (along_of o)
  along_stands s None h = tt
  along_stands s (Some last) h = h

  -- the values above a node are of columns of its parent's stage and of earlier ones; the root has none
  pub above_stands : (m : ℕ) (lasts : List (Option Last)) → PointsStand p lasts → AreUpTo p (node_at p.nodes m).stage (trial_of lasts (Some m))
  above_stands m lasts h = along_stands (node_at p.nodes m).stage (last_at lasts m) (h m)

  pub trial_stands : (n : ℕ) (lasts : List (Option Last)) → IsProgram p → Lives p n → PointsStand p lasts
      → AreUpTo p (node_at p.nodes n).stage (trial_of lasts (parent_in (frame_of p) n))
  trial_stands n lasts i l h = go (parent_in (frame_of p) n) refl
    where
      go : (o : Option ℕ) → parent_in (frame_of p) n ≡ o → AreUpTo p (node_at p.nodes n).stage (trial_of lasts o)
      go None e = tt
      go (Some m) e = subst (λ (s : ℕ). AreUpTo p s (trial_of lasts (Some m))) (trial_above n m i l e)
          (later (node_at p.nodes m).stage (trial_of lasts (Some m)) (above_stands m lasts h))

  -- ---- changes of a state
  pub same_points : (old new : State) → new.lasts ≡ old.lasts → KeepsPoints p old new
  same_points old new e h = subst (λ (l : Lasts). PointsStand p l.nodes.items) (sym e) h

  pub then_points : (a b c : State) → KeepsPoints p a b → KeepsPoints p b c → KeepsPoints p a c
  then_points a b c x y h = y (x h)

  -- a point is kept
  pub point_stands : (old new : State) (n : ℕ) (trial point : List Entry) → kept old.lasts.nodes.items n trial point ≡ Ok new.lasts.nodes.items
      → AreUpTo p (node_at p.nodes n).stage trial → AreUpTo p (node_at p.nodes n).stage point → KeepsPoints p old new
  point_stands old new n trial point e t x h = kept_stand old.lasts.nodes.items new.lasts.nodes.items n trial point e t x h

  -- ---- the point of a solve
  at_most_stage : (s j : ℕ) (cs : List Column) → passes_at (λ (c : Column). eqb c.stage s) j cs ≡ true → passes_at (λ (c : Column). leb c.stage s) j cs ≡ true
  at_most_stage s j [] e = e
  at_most_stage s zero (c ∷ cs) e = le-leb c.stage s (let q : c.stage ≡ s = eqb-true c.stage s e in omega (arith, q))
  at_most_stage s (suc j) (c ∷ cs) e = at_most_stage s j cs e

  own_up_to : (v : View) (s j : ℕ) (ms : List ℕ) → Each (λ (m : ℕ). passes_at (λ (c : Column). leb c.stage s) m p.columns ≡ true) ms
      → is_own (map (bounds_of v) ms) j ≡ true → passes_at (λ (c : Column). leb c.stage s) j p.columns ≡ true
  own_up_to v s j [] h e = absurd (let no : false ≡ true = e in cc)
  own_up_to v s j (m ∷ ms) h e = go (eqb m j) refl e (own_up_to v s j ms h.1)
    where
      go : (b : Bool) → eqb m j ≡ b → (b || is_own (map (bounds_of v) ms) j) ≡ true
          → (is_own (map (bounds_of v) ms) j ≡ true → passes_at (λ (c : Column). leb c.stage s) j p.columns ≡ true)
          → passes_at (λ (c : Column). leb c.stage s) j p.columns ≡ true
      go true q f ih = subst (λ (k : ℕ). passes_at (λ (c : Column). leb c.stage s) k p.columns ≡ true) (eqb-true m j q) h.0
      go false q f ih = ih f

  all_up_to : (v : View) (s : ℕ) (ms : List ℕ) (f : List Entry) → Each (λ (m : ℕ). passes_at (λ (c : Column). leb c.stage s) m p.columns ≡ true) ms
      → Each (λ (e : Entry). is_own (map (bounds_of v) ms) e.column ≡ true) f → AreUpTo p s f
  all_up_to v s ms [] h o = tt
  all_up_to v s ms (e ∷ f) h o = (own_up_to v s e.column ms h o.0, all_up_to v s ms f h o.1)

  own_columns : (s : ℕ) → Each (λ (m : ℕ). passes_at (λ (c : Column). leb c.stage s) m p.columns ≡ true) (places (λ (c : Column). eqb c.stage s) 0 p.columns)
  own_columns s = each-place (λ (m : ℕ). passes_at (λ (c : Column). leb c.stage s) m p.columns ≡ true) (λ (c : Column). eqb c.stage s) p.columns
      (λ m q. at_most_stage s m p.columns q)

  own_stand : (kind : Kind) (n : ℕ) (version : Version) (f : List Entry) → Each (λ (e : Entry). is_own (datum_in kind p n version).bounds e.column ≡ true) f
      → AreUpTo p (node_at p.nodes n).stage f
  own_stand run_kind.Feasible n version f h = all_up_to (view_in run_kind.Feasible p) (node_at p.nodes n).stage _ f (own_columns (node_at p.nodes n).stage) h
  own_stand run_kind.Recession n version f h = all_up_to (view_in run_kind.Recession p) (node_at p.nodes n).stage _ f (own_columns (node_at p.nodes n).stage) h
  own_stand run_kind.Cost n version f h = all_up_to (view_in run_kind.Cost p) (node_at p.nodes n).stage _ f (own_columns (node_at p.nodes n).stage) h

  -- the point that a solve finds is of the own columns of its node
  pub found_stands : (kind : Kind) (n : ℕ) (version : Version) (t : Task) (all : Solved) → t.datum ≡ datum_in kind p n version → IsAnswer t all
      → IfSome (point_found all) (AreUpTo p (node_at p.nodes n).stage)
  found_stands kind n version t (solved.Point x v cut) e a =
      own_stand kind n version x (subst (λ (d : Datum). Each (λ (y : Entry). is_own d.bounds y.column ≡ true) x) e a.columns.own)
  found_stands kind n version t (solved.NoPoint cut) e a = tt
  found_stands kind n version t solved.Loose e a = tt
  found_stands kind n version t solved.PivotsEnded e a = tt
  found_stands kind n version t (solved.Passed in_cut o) e a = tt
  found_stands kind n version t solved.NotGood e a = tt

-- a pool's answer leaves the last solves
pub answer_lasts : (o : Offer) (s : State) → (after_answer o s).lasts ≡ s.lasts
answer_lasts offer.Added s = refl
answer_lasts (offer.NotNeeded value) s = refl
answer_lasts (offer.Stale node part seen known) s = refl
answer_lasts (offer.Passed o) s = refl

-- there are places for last solves
clash : {A : Type 0} (b : Bool) → b ≡ true → b ≡ false → A
clash b x y = let no : true ≡ false = sym x ∙ y in absurd (cc)

pub ready_before : (old : State) (lasts : Lasts) → old.is_begun ≡ true → lasts ≡ old.lasts → AreReady old lasts
ready_before old lasts z e = record { same = λ y. e; none = λ y. clash old.is_begun z y }

pub ready_first : (old : State) (lasts : Lasts) (n : ℕ) → old.is_begun ≡ false → lasts.nodes.items ≡ replicate n None → n ≡ places_in old.frame
    → AreReady old lasts
ready_first old lasts n z e q = record {
  same = λ y. let no : false ≡ true = sym z ∙ y in absurd (cc);
  none = λ y. e ∙ ap (λ (k : ℕ). replicate k None) q;
}

-- where a point can't be kept an operation passes
pub join_passes : (lasts : List (Option Last)) (n : ℕ) (trial point : List Entry) → ((o : Operation) × (kept lasts n trial point ≡ Err o)) → PassesInJoin trial point
join_passes lasts n trial point h = go (add_scaled_walk trial one_ℚ point) refl h.1
  where
    go : (w : Result (List Entry) Operation) → add_scaled_walk trial one_ℚ point ≡ w
        → then_value (λ (along : List Entry). with_last lasts n (Some (record { point = point; along = along }))) w ≡ Err h.0 → PassesInJoin trial point
    go (Ok along) e q = absurd (cc (q))
    go (Err o) e q = (o, e)
