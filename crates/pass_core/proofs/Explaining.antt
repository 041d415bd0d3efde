-- What keeps reasons explained, and what explains the first ones.
use Rattle.std.proofs.Common.{◌≡◌, ℕ, zero, suc, Bool, true, false, ◌&&◌, eqb, eqb-true, List, [], ◌∷◌, Option, Some, None, Result, Ok, Err, IfSome, OnOk, replicate, slice_set, refl, sym, ap, subst, ◌∙◌, inl, inr}
use Rattle.std.specs.Option.{option_map}
use Rattle.rationals.specs.Rational.{ℚ, one_ℚ}
use Rattle.rationals.specs.Forms.{add_scaled_walk}
use Rattle.rationals.specs.Passes.{Operation, then_value}
use Rattle.rationals.specs.Sparse.{Entry}
use Rattle.rationals.specs.Choices.{pick}
use Rattle.frac128.specs.declared.fault.ArithmeticFault.{ArithmeticFault}
use Rattle.frac128.specs.declared.fault.ArithmeticFault.TheVariants as form_fault
use Rattle.frac128.specs.Faults.{FaultOf}
use Rattle.scen_defs.specs.Program.{Program}
use Rattle.scen_defs.specs.declared.report.Kind.{Kind}
use Rattle.scen_defs.specs.declared.report.Kind.TheVariants.{Feasible, Recession}
use Rattle.scen_defs.specs.declared.report.Kind.TheVariants as run_kind
use Rattle.scen_defs.specs.declared.report.Place.TheVariants.{Solve, Cut}
use Rattle.scen_tree.specs.Trees.{Tree}
use Rattle.cut_defs.specs.Stored.{Stored, source_of}
use Rattle.cut_proof.specs.Faults.{fault_of}
use Rattle.cut_pool.specs.Held.{Held}
use Rattle.cut_pool.specs.Pool.{offer_of}
use Rattle.cut_pool.specs.declared.offer.Offer.{Offer}
use Rattle.cut_pool.specs.declared.offer.Offer.TheVariants as offer
use Rattle.cut_banks.specs.Pools.{may_change, may_take, pool_if}
use Rattle.dual_assemble.specs.Values.{assembled}
use Rattle.node_lp.specs.declared.task.Task.{Task}
use Rattle.node_lp.specs.declared.solved.Solved.TheVariants as solved
use Rattle.node_lp.specs.Tested.{IsToldOf}
use Rattle.proved_report.specs.declared.open.Open.{Open}
use Rattle.proved_report.specs.declared.open.Open.TheVariants as reason
use Rattle.node_data.specs.Frames.{Frame}
use Rattle.pass_core.specs.declared.budget.Budget.{Budget}
use Rattle.found_ends.specs.declared.ends.Priced.{Priced}
use Rattle.found_ends.specs.declared.ends.Bounded.{Bounded}
use Rattle.found_ends.specs.declared.ends.Ends.{Ends}
use Rattle.found_ends.specs.declared.last.Last.{Last}
use Rattle.found_ends.specs.declared.last.Lasts.{Lasts}
use Rattle.pass_core.specs.declared.state.State.{State}
use Rattle.pass_core.specs.Counting.{first_stop, first_or, after_answer}
use Rattle.found_ends.specs.Ends.{raises, greater_end, after_root, after_policy}
use Rattle.found_ends.specs.Lasts.{with_last, kept}
use Rattle.pass_core.specs.Explained.{IsTask, ComesOfSolve, GivesCut, FindsPoint, PointsAreFound, IsCutOfSolve, AreOfSolves}
use Rattle.pass_core.specs.Explained.{PassesInOffer, FailsToOpen, PassesInRun}
use Rattle.pass_core.specs.Explained.{IsExplained, AreExplained, IsUnstopped, KeepsExplained}

-- ---- the first of two reasons
first_holds : (Q : Open → Type 0) (first : Option Open) (why : Open) → IfSome first Q → Q why → IfSome (first_stop first why) Q
first_holds Q None why h q = q
first_holds Q (Some first) why h q = h

or_holds : (Q : Open → Type 0) (first other : Option Open) → IfSome first Q → IfSome other Q → IfSome (first_or first other) Q
or_holds Q None other h k = k
or_holds Q (Some first) other h k = h

-- ---- changes of a state
module _ (p : Program) (tree : Tree) where
  -- what is explained of a state by a frame and a budget
  abbrev pub Hold : Frame → Budget → State → Type 0
  Hold f b s = IfSome s.stop (IsExplained p f tree b) × IfSome s.lasting (IsExplained p f tree b) × AreOfSolves p f tree b.pivots s.ends
      × PointsAreFound p f tree b.pivots s.lasts.nodes.items

  -- by the frame and the budget of the state before
  pub all_kept : (old new : State) → new.frame ≡ old.frame → new.budget ≡ old.budget → new.versions ≡ old.versions
      → (AreExplained p tree old → Hold old.frame old.budget new) → KeepsExplained p tree old new
  all_kept old new f b v h = (
    f,
    b,
    v,
    λ e. subst (λ (c : Budget). Hold new.frame c new) (sym b) (subst (λ (g : Frame). Hold g old.budget new) (sym f) (h e)),
  )

  -- nothing changes that reasons speak of
  pub same_reasons : (old new : State) → new.frame ≡ old.frame → new.budget ≡ old.budget → new.versions ≡ old.versions → new.stop ≡ old.stop → new.lasting ≡ old.lasting
      → new.ends ≡ old.ends → new.lasts ≡ old.lasts → KeepsExplained p tree old new
  same_reasons old new f b v s l e x = all_kept old new f b v (λ h. (
    subst (λ (o : Option Open). IfSome o (IsExplained p old.frame tree old.budget)) (sym s) h.0,
    subst (λ (o : Option Open). IfSome o (IsExplained p old.frame tree old.budget)) (sym l) h.1,
    subst (AreOfSolves p old.frame tree old.budget.pivots) (sym e) h.2,
    subst (λ (y : Lasts). PointsAreFound p old.frame tree old.budget.pivots y.nodes.items) (sym x) h.3,
  ))

  -- the ends alone change
  pub ends_kept : (old new : State) → new ≡ record old { ends = new.ends }
      → (AreOfSolves p old.frame tree old.budget.pivots old.ends → AreOfSolves p old.frame tree old.budget.pivots new.ends) → KeepsExplained p tree old new
  ends_kept old new e k = subst (KeepsExplained p tree old) (sym e)
      (all_kept old (record old { ends = new.ends }) refl refl refl (λ h. (h.0, h.1, k h.2, h.3)))

  -- one change behind another
  pub then_kept : (a b c : State) → KeepsExplained p tree a b → KeepsExplained p tree b c → KeepsExplained p tree a c
  then_kept a b c x y = (y.0 ∙ x.0, y.1 ∙ x.1, y.2 ∙ x.2, λ h. y.3 (x.3 h))

  -- a reason that is explained stops the method, and the table may change
  pub stopped_kept : (old new : State) (why : Open) → new ≡ record old { stop = first_stop old.stop why; table = new.table }
      → (AreExplained p tree old → IsExplained p old.frame tree old.budget why) → KeepsExplained p tree old new
  stopped_kept old new why e x = subst (KeepsExplained p tree old) (sym e)
      (all_kept old (record old { stop = first_stop old.stop why; table = new.table }) refl refl refl
      (λ h. (first_holds (IsExplained p old.frame tree old.budget) old.stop why h.0 (x h), h.1, h.2, h.3)))

  -- the same where the table stays
  pub stop_kept : (old new : State) (why : Open) → new ≡ record old { stop = first_stop old.stop why }
      → (AreExplained p tree old → IsExplained p old.frame tree old.budget why) → KeepsExplained p tree old new
  stop_kept old new why e x = subst (KeepsExplained p tree old) (sym e)
      (all_kept old (record old { stop = first_stop old.stop why }) refl refl refl
      (λ h. (first_holds (IsExplained p old.frame tree old.budget) old.stop why h.0 (x h), h.1, h.2, h.3)))

  -- where the method is stuck, as many solves are told as are allowed
  pub stuck_kept : (old new : State) → new ≡ record old { stop = first_stop old.stop (reason.Solves old.budget.solves) } → KeepsExplained p tree old new
  stuck_kept old new e = stop_kept old new (reason.Solves old.budget.solves) e (λ h. refl)

  -- a solve that leaves no last solve
  pub left_kept : (old new : State) (why : Open) → new ≡ record old { stop = first_stop old.stop why; table = new.table } → IsExplained p old.frame tree old.budget why
      → KeepsExplained p tree old new
  left_kept old new why e x = stopped_kept old new why e (λ h. x)

  -- or the run
  pub run_stop_kept : (old new : State) (why : Open)
      → new ≡ record old { stop = first_or old.stop (first_stop old.lasting why); lasting = first_stop old.lasting why }
      → (AreExplained p tree old → IsExplained p old.frame tree old.budget why) → KeepsExplained p tree old new
  run_stop_kept old new why e x = subst (KeepsExplained p tree old) (sym e)
      (all_kept old (record old { stop = first_or old.stop (first_stop old.lasting why); lasting = first_stop old.lasting why }) refl refl refl
      (λ h.
      let k : IfSome (first_stop old.lasting why) (IsExplained p old.frame tree old.budget) =
      first_holds (IsExplained p old.frame tree old.budget) old.lasting why h.1 (x h) in (
        or_holds (IsExplained p old.frame tree old.budget) old.stop (first_stop old.lasting why) h.0 k,
        k,
        h.2,
        h.3,
      )))

  -- the table alone changes
  pub table_kept : (old new : State) → new ≡ record old { table = new.table } → KeepsExplained p tree old new
  table_kept old new e = subst (KeepsExplained p tree old) (sym e)
      (all_kept old (record old { table = new.table }) refl refl refl (λ h. h))

  -- a cut that is given by the frame and the budget of one state is so by those of the other
  pub still_given : (old new : State) (trial : List Entry) (cut : Option Stored) → KeepsExplained p tree old new
      → IfSome cut (GivesCut p old.frame tree old.budget.pivots trial) → IfSome cut (GivesCut p new.frame tree new.budget.pivots trial)
  still_given old new trial cut k h =
      subst (λ (b : Budget). IfSome cut (GivesCut p new.frame tree b.pivots trial)) (sym k.1)
      (subst (λ (f : Frame). IfSome cut (GivesCut p f tree old.budget.pivots trial)) (sym k.0) h)

  -- where nothing stops the method nothing is to be explained
  unstopped : (f : Frame) (b : Budget) (o : Option Open) → IfSome o (λ why. why ≡ reason.Solves b.solves) → IfSome o (IsExplained p f tree b)
  unstopped f b None h = tt
  unstopped f b (Some why) h = subst (IsExplained p f tree b) (sym h) refl

  pub unstopped_is_explained : (s : State) → IsUnstopped s → AreExplained p tree s
  unstopped_is_explained s h = (
    unstopped s.frame s.budget s.stop h.stop,
    subst (λ (o : Option Open). IfSome o (IsExplained p s.frame tree s.budget)) (sym h.lasting) tt,
    subst (AreOfSolves p s.frame tree s.budget.pivots) (sym h.ends) (record { root = tt; lower = tt; nowhere = tt }),
    subst (PointsAreFound p s.frame tree s.budget.pivots) (sym h.points) tt,
  )

  -- ---- the ends
  raised_lower : (f : Frame) (pivots : ℕ) (best : Option Bounded) (found : Bounded) → IfSome best (λ b. IsCutOfSolve p f tree pivots b.cut)
      → IsCutOfSolve p f tree pivots found.cut → IfSome (greater_end best found) (λ b. IsCutOfSolve p f tree pivots b.cut)
  raised_lower f pivots best found h k = go (raises best found.value)
    where
      go : (raise : Bool) → IfSome (pick raise (Some found) best) (λ b. IsCutOfSolve p f tree pivots b.cut)
      go true = k
      go false = h

  root_given : (f : Frame) (pivots : ℕ) (kind : Kind) (e : Ends) (value : ℚ) (cut : Stored) → IsCutOfSolve p f tree pivots cut → AreOfSolves p f tree pivots e
      → AreOfSolves p f tree pivots (after_root kind e value cut)
  root_given f pivots Feasible e value cut k h = record { root = k; lower = h.lower; nowhere = h.nowhere }
  root_given f pivots Recession e value cut k h = record { root = k; lower = h.lower; nowhere = h.nowhere }
  root_given f pivots run_kind.Cost e value cut k h = record {
    root = k;
    lower = raised_lower f pivots e.lower (record { value = value; cut = cut }) h.lower k;
    nowhere = h.nowhere;
  }

  -- the cut of the root
  pub root_kept : (old new : State) (trial : List Entry) (value : ℚ) (cut : Stored) → GivesCut p old.frame tree old.budget.pivots trial cut
      → new ≡ record old { ends = after_root old.kind old.ends value cut } → KeepsExplained p tree old new
  root_kept old new trial value cut g e = subst (KeepsExplained p tree old) (sym e)
      (ends_kept old (record old { ends = after_root old.kind old.ends value cut }) refl
      (root_given old.frame old.budget.pivots old.kind old.ends value cut (trial, g)))

  -- a cut that shows that there is no point
  pub nowhere_kept : (old : State) (trial : List Entry) (cut : Stored) → GivesCut p old.frame tree old.budget.pivots trial cut
      → KeepsExplained p tree old (record old { ends = record old.ends { nowhere = Some cut } })
  nowhere_kept old trial cut g = ends_kept old (record old { ends = record old.ends { nowhere = Some cut } }) refl
      (λ h. record { root = h.root; lower = h.lower; nowhere = (trial, g) })

  -- a joined policy is the direction or the upper end
  policy_given : (f : Frame) (pivots : ℕ) (kind : Kind) (e : Ends) (found : Priced) → AreOfSolves p f tree pivots e → AreOfSolves p f tree pivots (after_policy kind e found)
  policy_given f pivots Feasible e found h = record { root = h.root; lower = h.lower; nowhere = h.nowhere }
  policy_given f pivots Recession e found h = record { root = h.root; lower = h.lower; nowhere = h.nowhere }
  policy_given f pivots run_kind.Cost e found h = record { root = h.root; lower = h.lower; nowhere = h.nowhere }

  pub policy_kept : (old new : State) (found : Priced) → new ≡ record old { ends = after_policy old.kind old.ends found } → KeepsExplained p tree old new
  policy_kept old new found e = subst (KeepsExplained p tree old) (sym e)
      (ends_kept old (record old { ends = after_policy old.kind old.ends found }) refl (policy_given old.frame old.budget.pivots old.kind old.ends found))

  -- or there is none from now on
  pub direction_kept : (old new : State) → new ≡ record old { ends = record old.ends { direction = new.ends.direction } } → KeepsExplained p tree old new
  direction_kept old new e = subst (KeepsExplained p tree old) (sym e)
      (ends_kept old (record old { ends = record old.ends { direction = new.ends.direction } }) refl
      (λ h. record { root = h.root; lower = h.lower; nowhere = h.nowhere }))

  -- ---- the points
  put_point : (f : Frame) (pivots : ℕ) (lasts : List (Option Last)) (n : ℕ) (last : Option Last) → IfSome last (λ l. FindsPoint p f tree pivots l.point)
      → PointsAreFound p f tree pivots lasts → PointsAreFound p f tree pivots (slice_set lasts n last)
  put_point f pivots [] n last k h = tt
  put_point f pivots (place ∷ lasts) zero last k h = (k, h.1)
  put_point f pivots (place ∷ lasts) (suc n) last k h = (h.0, put_point f pivots lasts n last k h.1)

  kept_point : (f : Frame) (pivots : ℕ) (lasts new : List (Option Last)) (n : ℕ) (point : List Entry) (walk : Result (List Entry) Operation)
      → then_value (λ along. with_last lasts n (Some (record { point = point; along = along }))) walk ≡ Ok new
      → FindsPoint p f tree pivots point → PointsAreFound p f tree pivots lasts → PointsAreFound p f tree pivots new
  kept_point f pivots lasts new n point (Ok along) e k h =
      let same : with_last lasts n (Some (record { point = point; along = along })) ≡ new = cc in
      subst (PointsAreFound p f tree pivots) same (put_point f pivots lasts n (Some (record { point = point; along = along })) k h)
  kept_point f pivots lasts new n point (Err o) e k h = absurd (cc)

  -- no point of so many nodes
  pub none_found : (f : Frame) (pivots n : ℕ) → PointsAreFound p f tree pivots (replicate n None)
  none_found f pivots zero = tt
  none_found f pivots (suc n) = (tt, none_found f pivots n)

  -- there are places for last solves
  pub ready_kept : (old : State) (lasts : Lasts) (n : ℕ) → lasts.nodes.items ≡ replicate n None
      → KeepsExplained p tree old (record old { lasts = lasts; is_begun = true })
  ready_kept old lasts n e = all_kept old (record old { lasts = lasts; is_begun = true }) refl refl refl (λ h. (
    h.0,
    h.1,
    h.2,
    subst (PointsAreFound p old.frame tree old.budget.pivots) (sym e) (none_found old.frame old.budget.pivots n),
  ))

  -- a point is kept
  pub point_kept : (old new : State) (n : ℕ) (trial point : List Entry) → kept old.lasts.nodes.items n trial point ≡ Ok new.lasts.nodes.items
      → new ≡ record old { lasts = new.lasts } → FindsPoint p old.frame tree old.budget.pivots point → KeepsExplained p tree old new
  point_kept old new n trial point w e k = subst (KeepsExplained p tree old) (sym e)
      (all_kept old (record old { lasts = new.lasts }) refl refl refl (λ h. (
        h.0,
        h.1,
        h.2,
        kept_point old.frame old.budget.pivots old.lasts.nodes.items new.lasts.nodes.items n point (add_scaled_walk trial one_ℚ point) w k h.3,
      )))

  -- a node has no point
  pub forgotten_kept : (old : State) (lasts : Lasts) (n : ℕ) → lasts.nodes.items ≡ with_last old.lasts.nodes.items n None
      → KeepsExplained p tree old (record old { lasts = lasts })
  forgotten_kept old lasts n e = all_kept old (record old { lasts = lasts }) refl refl refl (λ h. (
    h.0,
    h.1,
    h.2,
    subst (PointsAreFound p old.frame tree old.budget.pivots) (sym e) (put_point old.frame old.budget.pivots old.lasts.nodes.items n None tt h.3),
  ))

  -- what a pool answers
  pub offer_kept : (s : State) (answer : Offer) → ((o : Operation) → answer ≡ offer.Passed o → PassesInOffer p s.frame tree s.budget.pivots o)
      → KeepsExplained p tree s (after_answer answer s)
  offer_kept s offer.Added h = table_kept s s refl
  offer_kept s (offer.NotNeeded value) h = table_kept s s refl
  offer_kept s (offer.Stale node part seen known) h = stuck_kept s (after_answer (offer.Stale node part seen known) s) refl
  offer_kept s (offer.Passed o) h = run_stop_kept s (after_answer (offer.Passed o) s) (reason.Passed (Cut s.counts.all) o) refl (λ _. inr (h o refl))

-- ---- what a solve gives
pub point_gives : (p : Program) (frame : Frame) (tree : Tree) (pivots : ℕ) (t : Task) (x : List Entry) (value : ℚ) (cut : Option Stored)
    → IsTask p frame tree pivots t → IsToldOf t (solved.Point x value cut) → IfSome cut (GivesCut p frame tree pivots t.trial)
point_gives p frame tree pivots t x value None k e = tt
point_gives p frame tree pivots t x value (Some cut) k e = record { task = t; is_task = k; at_trial = refl; all = solved.Point x value (Some cut); comes = e; given = refl }

pub point_finds : (p : Program) (frame : Frame) (tree : Tree) (pivots : ℕ) (t : Task) (x : List Entry) (value : ℚ) (cut : Option Stored)
    → IsTask p frame tree pivots t → IsToldOf t (solved.Point x value cut) → FindsPoint p frame tree pivots x
point_finds p frame tree pivots t x value cut k e = record { task = t; is_task = k; all = solved.Point x value cut; comes = e; found = refl }

-- ---- an operation of a solve
pub at_place : (p : Program) (frame : Frame) (tree : Tree) (pivots k : ℕ) (in_cut : Bool) (o : Operation) → ComesOfSolve p frame tree pivots (solved.Passed in_cut o)
    → PassesInRun p frame tree pivots (pick in_cut (Cut k) (Solve k)) o
at_place p frame tree pivots k true o h = inl h
at_place p frame tree pivots k false o h = h

-- ---- an operation of an offer
and_left : (a b : Bool) → (a && b) ≡ true → a ≡ true
and_left true b h = refl
and_left false b h = h

-- a pool that takes a cut is about its node
taken_about : (cut : Stored) (pool : Held) → may_take cut pool ≡ true → pool.node ≡ (source_of cut).node
taken_about cut pool h = eqb-true pool.node (source_of cut).node (and_left (eqb pool.node (source_of cut).node) (may_change pool) h)

found_pool : (test : Held → Bool) (n : ℕ) (pools : List Held) (pool : Held) → pool_if test n pools ≡ Some pool → test pool ≡ true
found_pool test n [] pool h = absurd (cc)
found_pool test zero (q ∷ pools) pool h = go (test q) refl h
  where
    go : (b : Bool) → test q ≡ b → pick b (Some q) None ≡ Some pool → test pool ≡ true
    go true t e = ap test (let same : pool ≡ q = cc in same) ∙ t
    go false t e = absurd (cc)
found_pool test (suc n) (q ∷ pools) pool h = found_pool test n pools pool h

pub offer_passes : (p : Program) (frame : Frame) (tree : Tree) (pivots : ℕ) (trial : List Entry) (cut : Stored) (n : ℕ) (pools : List Held) (answer : Offer)
    → GivesCut p frame tree pivots trial cut → Some answer ≡ option_map (λ pool. offer_of pool cut trial) (pool_if (may_take cut) n pools)
    → (o : Operation) → answer ≡ offer.Passed o → PassesInOffer p frame tree pivots o
offer_passes p frame tree pivots trial cut n pools answer g e o is = go (pool_if (may_take cut) n pools) refl e
  where
    go : (found : Option Held) → pool_if (may_take cut) n pools ≡ found → Some answer ≡ option_map (λ pool. offer_of pool cut trial) found → PassesInOffer p frame tree pivots o
    go None q f = absurd (cc)
    go (Some pool) q f = record {
      trial = trial;
      cut = cut;
      gives = g;
      pool = pool;
      about = taken_about cut pool (found_pool (may_take cut) n pools pool q);
      passes = let same : offer_of pool cut trial ≡ answer = cc in same ∙ is;
    }

-- ---- an operation before a run opens
pub assembly_fails : (p : Program) (frame : Frame) (tree : Tree) (pivots : ℕ) (cut : Stored) (f : ArithmeticFault) → IsCutOfSolve p frame tree pivots cut
    → FaultOf (assembled cut) f → FailsToOpen p frame tree pivots (fault_of f)
assembly_fails p frame tree pivots cut (form_fault.Passed o) g h = inl (record { cut = cut; given = g; passes = h })
assembly_fails p frame tree pivots cut form_fault.Memory g h = tt

pub on_ok : {X E : Type 0} (r : Result X E) (A B : Type 0) → (A → B) → OnOk r A → OnOk r B
on_ok (Ok x) A B f a = f a
on_ok (Err e) A B f a = tt

pub both_ok : {X E : Type 0} (r : Result X E) (A B C : Type 0) → (A → B → C) → OnOk r A → OnOk r B → OnOk r C
both_ok (Ok x) A B C f a b = f a b
both_ok (Err e) A B C f a b = tt
