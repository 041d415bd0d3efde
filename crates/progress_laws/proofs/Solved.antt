-- A solve behind which nothing stops the method leaves a run that stands.
use Rattle.std.proofs.Common.{◌≡◌, ℕ, zero, suc, ◌<◌, ◌⊎◌, inl, inr, Bool, true, false, List, [], Option, Some, None, Ok, IfSome, get_or, length, refl, sym, ap, subst, ◌∙◌, arith}
use Rattle.std.proofs.lemmas.Bool.{cases_eq}
use Rattle.rationals.specs.Rational.{ℚ, zero_ℚ, ◌+ℚ◌, ◌≤ℚ◌, ◌<ℚ◌, add_zero_ℚ, mul_zero_ℚ}
use Rattle.rationals.specs.Sums.{sum-zero}
use Rattle.rationals.specs.Sparse.{Entry}
use Rattle.scen_defs.specs.Program.{Program, View, is_live, view_of}
use Rattle.scen_defs.specs.Flat.{FeasibleAt, Feasible, cost, without_costs}
use Rattle.scen_defs.proofs.SumLaws.{each-map, sum-ext}
use Rattle.scen_defs.specs.Values.{at}
use Rattle.scen_defs.specs.Valid.{IsProgram, Lives}
use Rattle.scen_defs.specs.declared.report.Kind.{Kind}
use Rattle.scen_defs.specs.declared.report.Kind.TheVariants as run_kind
use Rattle.scen_tree.specs.Trees.{Tree, tree_walk}
use Rattle.cut_defs.specs.Stored.{Source, Stored, source_of, constant_of, form_of}
use Rattle.cut_defs.specs.Data.{Datum}
use Rattle.cut_defs.specs.declared.kinds.CutKind.TheVariants.{Bound}
use Rattle.cut_banks.specs.Banks.{pools_of}
use Rattle.cut_banks.specs.Pools.{numbers_of}
use Rattle.edit_defs.specs.Data.{view_in}
use Rattle.edit_defs.proofs.Lists.{passes-within}
use Rattle.node_lp.specs.declared.task.Task.{Task}
use Rattle.node_lp.specs.declared.solved.Solved.{Solved}
use Rattle.node_lp.specs.declared.solved.Solved.TheVariants as solved
use Rattle.node_lp.specs.Problem.{IsProblem, problem_of, is_priced}
use Rattle.node_lp.specs.Answers.{value_at_trial, HasCut, PointAnswer, RayAnswer, IsAnswer}
use Rattle.pass_table.specs.Machine.{Machine, begun, IsLive, HasPoint, IsGood, IsComplete}
use Rattle.crew_turns.specs.Turn.{AreChildren, first_flight, read_by_each, read_each}
use Rattle.crew_turns.proofs.Beside.{fit_besides}
use Rattle.node_data.specs.Frames.{Frame, frame_of, parent_in, children_in}
use Rattle.found_ends.specs.declared.last.Last.{Last}
use Rattle.found_ends.specs.declared.last.Lasts.{Lasts}
use Rattle.found_ends.specs.declared.ends.Priced.{Priced}
use Rattle.found_ends.specs.declared.ends.Bounded.{Bounded}
use Rattle.found_ends.specs.declared.ends.Ends.{Ends}
use Rattle.found_ends.specs.Lasts.{last_at, trial_of, joined_points}
use Rattle.found_ends.specs.Ends.{after_policy}
use Rattle.pass_core.specs.declared.state.State.{State}
use Rattle.pass_core.specs.Left.{OffersCut, ends_behind, ends_without, TakesComplete, LeavesPoint, LeavesNone, LeavesBy}
use Rattle.pass_core.specs.Tabled.{committed_by}
use Rattle.pass_core.specs.Desks.{IsDesk}
use Rattle.pass_core.specs.Turns.{IsTaskOf, EndsBy, SolvesAtDesk}
use Rattle.pass_core.proofs.Parentage.{children_are}
use Rattle.joined_laws.specs.Points.{AllMeet}
use Rattle.joined_laws.proofs.Policies.{policies_join}
use Rattle.joined_laws.proofs.Costs.{joined_points_cost}
use Rattle.progress_laws.proofs.Standing.{Known, known_of, HasFirstCuts, HasMember, IsAtLeast, IsAbove, ShowsNone, HasLast, HasNone, EndsHold, HasCost, StandsBy}
use Rattle.progress_laws.proofs.Turned.{IsTurned, turned}
use Rattle.pass_core.proofs.Apart.{last_other, trial_same, IsKept, kept_is, reads_same}
use Rattle.progress_laws.proofs.Places.{last_set, last_long, PoolsGo, member_goes}
use Rattle.progress_laws.proofs.Moved.{known, RootGoes, NowhereGoes, root_stays, turns_leave, turns_leave_none}
use Rattle.progress_laws.proofs.Ends.{cheaper_most, cheaper_holds, greater_most, greater_holds}
use Rattle.progress_laws.proofs.Offered.{pools_go, bound_held, ray_held}
use Rattle.progress_laws.proofs.Policies.{all_meet}

-- ---- the ends behind a root value
ends_at : (kind : Kind) (n : ℕ) (value : ℚ) (cut : Option Stored) (e : Ends) (p : Program) → EndsHold p e
    → (n ≡ 0 → (c : Stored) → cut ≡ Some c → (value ≡ constant_of c) × ((source_of c).kind ≡ Bound)) → EndsHold p (ends_behind kind n value cut e)
ends_at kind zero value None e p h c = h
ends_at run_kind.Feasible zero value (Some cut) e p h c = record { upper = h.upper; lower = h.lower }
ends_at run_kind.Recession zero value (Some cut) e p h c = record { upper = h.upper; lower = h.lower }
ends_at run_kind.Cost zero value (Some cut) e p h c = record {
  upper = h.upper;
  lower = greater_holds (λ (l : Bounded). (l.value ≡ constant_of l.cut) × ((source_of l.cut).kind ≡ Bound)) e.lower (record { value = value; cut = cut }) h.lower (c refl cut refl);
}
ends_at kind (suc n) value cut e p h c = h

-- the lower end behind the root's value in a Cost run
root_lower : (kind : Kind) (n : ℕ) (value : ℚ) (cut : Option Stored) (e : Ends) → kind ≡ run_kind.Cost → n ≡ 0 → (c : Stored) → cut ≡ Some c
    → (b : Bounded) × (((ends_behind kind n value cut e).lower ≡ Some b) × (value ≤ℚ b.value))
root_lower run_kind.Feasible n value cut e k z c q = absurd (cc)
root_lower run_kind.Recession n value cut e k z c q = absurd (cc)
root_lower run_kind.Cost zero value None e k z c q = absurd (cc)
root_lower run_kind.Cost zero value (Some cut) e k z c q = greater_most e.lower (record { value = value; cut = cut })
root_lower run_kind.Cost (suc n) value cut e k z c q = absurd (omega (arith, z))

-- the lower end never falls
lower_behind : (kind : Kind) (n : ℕ) (value : ℚ) (cut : Option Stored) (e : Ends) → (n ≡ 0 → ⊥) → (ends_behind kind n value cut e) ≡ e
lower_behind kind zero value cut e ne = absurd (ne refl)
lower_behind kind (suc n) value cut e ne = refl

nowhere_behind : (kind : Kind) (n : ℕ) (value : ℚ) (cut : Option Stored) (e : Ends) → (ends_behind kind n value cut e).nowhere ≡ e.nowhere
nowhere_behind kind zero value None e = refl
nowhere_behind run_kind.Feasible zero value (Some cut) e = refl
nowhere_behind run_kind.Recession zero value (Some cut) e = refl
nowhere_behind run_kind.Cost zero value (Some cut) e = refl
nowhere_behind kind (suc n) value cut e = refl

upper_behind : (kind : Kind) (n : ℕ) (value : ℚ) (cut : Option Stored) (e : Ends) → (ends_behind kind n value cut e).upper ≡ e.upper
upper_behind kind zero value None e = refl
upper_behind run_kind.Feasible zero value (Some cut) e = refl
upper_behind run_kind.Recession zero value (Some cut) e = refl
upper_behind run_kind.Cost zero value (Some cut) e = refl
upper_behind kind (suc n) value cut e = refl

-- ---- behind a policy
policy_lower : (kind : Kind) (e : Ends) (found : Priced) → (after_policy kind e found).lower ≡ e.lower
policy_lower run_kind.Feasible e found = refl
policy_lower run_kind.Recession e found = refl
policy_lower run_kind.Cost e found = refl

policy_root : (kind : Kind) (e : Ends) (found : Priced) → (after_policy kind e found).root ≡ e.root
policy_root run_kind.Feasible e found = refl
policy_root run_kind.Recession e found = refl
policy_root run_kind.Cost e found = refl

policy_direction : (kind : Kind) (e : Ends) (found : Priced) → kind ≡ run_kind.Recession → (after_policy kind e found).direction ≡ Some found
policy_direction run_kind.Feasible e found k = absurd (cc)
policy_direction run_kind.Recession e found k = refl
policy_direction run_kind.Cost e found k = absurd (cc)

policy_nowhere : (kind : Kind) (e : Ends) (found : Priced) → (after_policy kind e found).nowhere ≡ e.nowhere
policy_nowhere run_kind.Feasible e found = refl
policy_nowhere run_kind.Recession e found = refl
policy_nowhere run_kind.Cost e found = refl

policy_stays : (kind : Kind) (e : Ends) (found u : Priced) → e.upper ≡ Some u → (v : Priced) × ((after_policy kind e found).upper ≡ Some v)
policy_stays run_kind.Feasible e found u h = let c = cheaper_most e.upper found in (c.0, c.1.0)
policy_stays run_kind.Recession e found u h = (u, h)
policy_stays run_kind.Cost e found u h = let c = cheaper_most e.upper found in (c.0, c.1.0)

policy_upper : (kind : Kind) (e : Ends) (found : Priced) → (kind ≡ run_kind.Recession → ⊥)
    → (u : Priced) × (((after_policy kind e found).upper ≡ Some u) × (u.cost ≤ℚ found.cost))
policy_upper run_kind.Feasible e found ne = cheaper_most e.upper found
policy_upper run_kind.Recession e found ne = absurd (ne refl)
policy_upper run_kind.Cost e found ne = cheaper_most e.upper found

costless_feasible : (v : View) (x : ℕ → ℕ → ℚ) → Feasible (without_costs v) x → Feasible v x
costless_feasible v x h = each-map {Q = FeasibleAt v x} (λ n f. record { rows = f.rows; bounds = f.bounds }) v.live h

policy_holds : (p : Program) (kind : Kind) (e : Ends) (found : Priced) → EndsHold p e
    → (Feasible (view_in kind p) (at found.policy) × (cost (view_of p) (at found.policy) ≡ found.cost)) → EndsHold p (after_policy kind e found)
policy_holds p run_kind.Feasible e found h f = record {
  upper = cheaper_holds (λ (u : Priced). Feasible (view_of p) (at u.policy) × (cost (view_of p) (at u.policy) ≡ u.cost)) e.upper found h.upper
      (costless_feasible (view_of p) (at found.policy) f.0, f.1);
  lower = h.lower;
}
policy_holds p run_kind.Recession e found h f = record { upper = h.upper; lower = h.lower }
policy_holds p run_kind.Cost e found h f = record {
  upper = cheaper_holds (λ (u : Priced). Feasible (view_of p) (at u.policy) × (cost (view_of p) (at u.policy) ≡ u.cost)) e.upper found h.upper f;
  lower = h.lower;
}

-- ---- at the root there is no trial
pub plain_value : (c : Stored) → value_at_trial c [] ≡ constant_of c
plain_value c = ap (λ z. constant_of c +ℚ z) (sum-ext _ (λ (e : Entry). zero_ℚ) (λ (e : Entry). mul_zero_ℚ e.value) (form_of c) ∙ sum-zero (form_of c))
    ∙ add_zero_ℚ (constant_of c)

pub no_trial : (lasts : List (Option Last)) (frame : Frame) (n : ℕ) → n ≡ 0 → trial_of lasts (parent_in frame n) ≡ []
no_trial lasts frame zero e = refl
no_trial lasts frame (suc n) e = absurd (omega (arith, e))

-- ---- the step
-- the state before the solve, with places for last solves
abbrev with_lasts : State → Lasts → State
with_lasts s lasts = record s { lasts = lasts }

-- behind the step the run stands, and there are places for the last solves of all nodes
pub record StandsBehind (p : Program) (tree : Tree) (s : State) : Type 0 where
  pub machine : Machine
  pub tabled : IsDesk p s machine
  pub stands : StandsBy p tree (known_of s) machine
  pub long : length s.lasts.nodes.items ≡ length p.nodes
  pub frame : s.frame ≡ frame_of p

module _ (p : Program) (tree : Tree) (i : IsProgram p) (t : tree_walk p ≡ Ok tree) (old new : State) (m k : Machine) (n : ℕ)
    (frame : old.frame ≡ frame_of p) (table : IsDesk p old m) (behind : IsDesk p new k) (long : length old.lasts.nodes.items ≡ length p.nodes)
    (stands : StandsBy p tree (known_of old) m) (live : Lives p n)
    (kind_same : new.kind ≡ old.kind) (frame_same : new.frame ≡ old.frame) (versions_same : new.versions ≡ old.versions) where
  la : List (Option Last)
  la = old.lasts.nodes.items

  lb : List (Option Last)
  lb = new.lasts.nodes.items

  same_known : known_of new ≡ known old.kind old.frame old.versions new.lasts.nodes.items new.banks new.ends
  same_known = subst (λ (z : Kind). known_of new ≡ known z old.frame old.versions new.lasts.nodes.items new.banks new.ends) kind_same
      (subst (λ (z : Frame). known_of new ≡ known new.kind z old.versions new.lasts.nodes.items new.banks new.ends) frame_same
      (ap (λ z. known new.kind new.frame z new.lasts.nodes.items new.banks new.ends) versions_same))

  within : n < length old.lasts.nodes.items
  within = omega (arith, long, passes-within is_live n p.nodes live)

  number_behind : (j : ℕ) → k.number j ≡ get_or (numbers_of (pools_of old.kind new.banks)) j 0
  number_behind j = behind.machine.number j ∙ ap (λ (z : Kind). get_or (numbers_of (pools_of z new.banks)) j 0) kind_same

  children : (j : ℕ) → IsLive m j → AreChildren m j (children_in old.frame j)
  children j l = subst (λ (f : Frame). AreChildren m j (children_in f j)) (sym frame)
      (children_are p m i table.machine.live (λ q. ap (λ (g : ℕ → ℕ). g q) table.machine.parent ∙ ap (λ (f : Frame). get_or f.parents q 0) frame)
      j (sym (table.machine.live j) ∙ l))

  -- the node's parent is another node
  not_own : 0 < n → get_or old.frame.parents n 0 ≡ n → ⊥
  not_own low e = omega (arith, table.valid.lower n low (table.machine.live n ∙ live), ap (λ (g : ℕ → ℕ). g n) table.machine.parent ∙ e)

  -- the first cuts stay in the pools
  still_first : HasFirstCuts p tree (known_of old) → PoolsGo (pools_of old.kind old.banks) (pools_of old.kind new.banks) n
      → HasFirstCuts p tree (known old.kind old.frame old.versions new.lasts.nodes.items new.banks new.ends)
  still_first h go = record {
    dual = h.dual;
    cuts = h.cuts;
    are = h.are;
    placed = λ j cut e low. member_goes (pools_of old.kind old.banks) (pools_of old.kind new.banks) n go j (λ c. c ≡ cut) (h.placed j cut e low);
  }

  -- ---- with a point
  module _ (task : Task) (is_task : IsTaskOf p old n task) (fits : IsProblem (problem_of task)) (x : List Entry) (value : ℚ) (cut : Option Stored)
      (answer : PointAnswer task x value cut) (left : LeavesPoint p tree n task.trial x value cut old new) (turn : IsTurned m k n true) where
    keeps : IsKept old.lasts.nodes.items new.lasts.nodes.items n task.trial x
    keeps = kept_is old.lasts.nodes.items new.lasts.nodes.items n task.trial x left.lasts

    others : (j : ℕ) → (j ≡ n → ⊥) → last_at new.lasts.nodes.items j ≡ last_at old.lasts.nodes.items j
    others j ne = ap (λ ls. last_at ls j) (sym keeps.is) ∙ last_other old.lasts.nodes.items n _ j ne

    about : (o : Option Stored) → HasCut task value answer.m o → IfSome o (λ c. (source_of c).node ≡ n)
    about None h = tt
    about (Some c) h = ap (λ (s : Source). s.node) h.cut_of.source ∙ ap (λ (d : Datum). d.node) is_task.datum

    pools : PoolsGo (pools_of old.kind old.banks) (pools_of old.kind new.banks) n
    pools = pools_go old.kind n cut task.trial old.banks new.banks (about cut answer.has_cut) left.banks

    middle : Ends
    middle = ends_behind old.kind n value cut old.ends

    lower_same : (b : Bool) → TakesComplete b p tree old.kind new.lasts.nodes.items (ends_behind old.kind n value cut old.ends) new.ends
        → new.ends.lower ≡ (ends_behind old.kind n value cut old.ends).lower
    lower_same true h = ap (λ (e : Ends). e.lower) h.ends ∙ policy_lower old.kind (ends_behind old.kind n value cut old.ends) _
    lower_same false h = ap (λ (e : Ends). e.lower) h

    root_same : (b : Bool) → TakesComplete b p tree old.kind new.lasts.nodes.items (ends_behind old.kind n value cut old.ends) new.ends
        → new.ends.root ≡ (ends_behind old.kind n value cut old.ends).root
    root_same true h = ap (λ (e : Ends). e.root) h.ends ∙ policy_root old.kind (ends_behind old.kind n value cut old.ends) _
    root_same false h = ap (λ (e : Ends). e.root) h

    nowhere_same : (b : Bool) → TakesComplete b p tree old.kind new.lasts.nodes.items (ends_behind old.kind n value cut old.ends) new.ends
        → new.ends.nowhere ≡ old.ends.nowhere
    nowhere_same true h = ap (λ (e : Ends). e.nowhere) h.ends ∙ policy_nowhere old.kind (ends_behind old.kind n value cut old.ends) _
        ∙ nowhere_behind old.kind n value cut old.ends
    nowhere_same false h = ap (λ (e : Ends). e.nowhere) h ∙ nowhere_behind old.kind n value cut old.ends

    goes : (j : ℕ) → (j ≡ n → ⊥) → j ≡ 0 → RootGoes old.kind old.ends new.ends
    goes j ne z = root_stays old.kind old.ends new.ends
        (root_same new.table.complete left.ends ∙ ap (λ (e : Ends). e.root) (lower_behind old.kind n value cut old.ends (λ q. ne (z ∙ sym q))))
        (lower_same new.table.complete left.ends ∙ ap (λ (e : Ends). e.lower) (lower_behind old.kind n value cut old.ends (λ q. ne (z ∙ sym q))))

    own_offered : (o : Option Stored) → HasCut task value answer.m o → OffersCut old.kind n o task.trial old.banks new.banks → 0 < n → (c : Stored) → o ≡ Some c
        → HasMember (pools_of old.kind new.banks) n (IsAtLeast task.trial value)
    own_offered None h f low c e = absurd (cc)
    own_offered (Some d) h f low c e = go n f low (ap (λ (s : Source). s.node) h.cut_of.source ∙ ap (λ (q : Datum). q.node) is_task.datum)
      where
        go : (j : ℕ) → OffersCut old.kind j (Some d) task.trial old.banks new.banks → 0 < j → (source_of d).node ≡ j
            → HasMember (pools_of old.kind new.banks) j (IsAtLeast task.trial value)
        go zero f low at = absurd (omega (arith, low))
        go (suc j) f low at = bound_held old.kind d task.trial value old.banks new.banks (suc j) at
            (ap (λ (s : Source). s.kind) h.cut_of.source) h.value_is f

    -- the root's value in a Cost run has a cut
    has_cut : (o : Option Stored) → HasCut task value answer.m o → old.kind ≡ run_kind.Cost → (c : Stored) × (o ≡ Some c)
    has_cut None h e = let q : false ≡ true = sym h ∙ ap is_priced (is_task.kind ∙ e) in absurd (cc)
    has_cut (Some c) h e = (c, refl)

    -- the root's value is the constant of its cut
    root_worth : (o : Option Stored) → HasCut task value answer.m o → n ≡ 0 → (c : Stored) → o ≡ Some c
        → (value ≡ constant_of c) × ((source_of c).kind ≡ Bound)
    root_worth None h z c e = absurd (cc)
    root_worth (Some d) h z c e =
        let same : d ≡ c = cc in
        let trial : task.trial ≡ [] = is_task.trial ∙ no_trial old.lasts.nodes.items old.frame n z in (
          sym h.value_is ∙ ap (value_at_trial d) trial ∙ plain_value d ∙ ap constant_of same,
          subst (λ (x : Stored). (source_of x).kind ≡ Bound) same (ap (λ (s : Source). s.kind) h.cut_of.source),
        )

    -- of a Recession run it is kept
    own_root : old.kind ≡ run_kind.Recession → n ≡ 0
        → (c : Stored) × ((new.ends.root ≡ Some c) × (value ≡ constant_of c) × ((source_of c).kind ≡ Bound))
    own_root k z = go cut refl answer.has_cut
      where
        kept_root : (kind : Kind) (j : ℕ) (c : Stored) → kind ≡ run_kind.Recession → j ≡ 0 → (ends_behind kind j value (Some c) old.ends).root ≡ Some c
        kept_root run_kind.Feasible j c k z = absurd (cc)
        kept_root run_kind.Recession zero c k z = refl
        kept_root run_kind.Recession (suc j) c k z = absurd (omega (arith, z))
        kept_root run_kind.Cost j c k z = absurd (cc)

        go : (o : Option Stored) → cut ≡ o → HasCut task value answer.m o
            → (c : Stored) × ((new.ends.root ≡ Some c) × (value ≡ constant_of c) × ((source_of c).kind ≡ Bound))
        go None e h = let q : false ≡ true = sym h ∙ ap is_priced (is_task.kind ∙ k) in absurd (cc)
        go (Some c) e h =
            let w = root_worth (Some c) h z c refl in (
              c,
              (
                root_same new.table.complete left.ends ∙ ap (λ (o : Option Stored). (ends_behind old.kind n value o old.ends).root) e
                    ∙ kept_root old.kind n c k z,
                w.0,
                w.1,
              ),
            )

    own_lower : old.kind ≡ run_kind.Cost → n ≡ 0 → (b : Bounded) × ((new.ends.lower ≡ Some b) × (value ≤ℚ b.value))
    own_lower e z = let c = has_cut cut answer.has_cut e in let b = root_lower old.kind n value cut old.ends e z c.0 c.1 in
        (b.0, (lower_same new.table.complete left.ends ∙ b.1.0, b.1.1))

    own : HasLast p (known old.kind old.frame old.versions new.lasts.nodes.items new.banks new.ends) k n
    own = record {
      last = record { point = x; along = keeps.along };
      there = ap (λ ls. last_at ls n) (sym keeps.is) ∙ last_set old.lasts.nodes.items n _ within;
      task = task;
      value = value;
      cut = cut;
      answer = answer;
      fits = fits;
      kind = is_task.kind;
      datum = is_task.datum;
      along = keeps.sum;
      trial = λ made. is_task.trial ∙ sym (trial_same old.lasts.nodes.items new.lasts.nodes.items old.frame n n others not_own);
      cuts = λ read. is_task.cuts ∙ sym (reads_same (pools_of old.kind old.banks) (pools_of old.kind new.banks) (children_in old.frame n)
          (λ c at. pools.others c (λ e. let child = (children n (table.machine.live n ∙ live) c).1 at in not_own (subst (λ (z : ℕ). 0 < z) e child.lower) (ap (λ (g : ℕ → ℕ). g n) (sym table.machine.parent) ∙ subst (λ (z : ℕ). m.parent z ≡ n) e child.parent))));
      offered = λ low c e. own_offered cut answer.has_cut left.banks low c e;
      lower = own_lower;
      root = own_root;
    }

    lasts_behind : (j : ℕ) → IsLive k j → 0 < (k.last j).commit → HasPoint k j
        → HasLast p (known old.kind old.frame old.versions new.lasts.nodes.items new.banks new.ends) k j
    lasts_behind j l c h = go (cases_eq j n)
      where
        go : (j ≡ n) ⊎ (j ≡ n → ⊥) → HasLast p (known old.kind old.frame old.versions new.lasts.nodes.items new.banks new.ends) k j
        go (inl e) = subst (HasLast p (known old.kind old.frame old.versions new.lasts.nodes.items new.banks new.ends) k) (sym e) own
        go (inr ne) = turns_leave p old.kind old.frame old.versions old.lasts.nodes.items new.lasts.nodes.items old.banks new.banks old.ends new.ends
            m k n true table.valid turn table.machine.parent table.machine.number number_behind children others pools goes
            (λ c e z. (c, (nowhere_same new.table.complete left.ends ∙ e, z))) j (ap (λ (f : ℕ → Bool). f j) (sym turn.live) ∙ l) ne
            (stands.lasts j (ap (λ (f : ℕ → Bool). f j) (sym turn.live) ∙ l) (subst (λ z. 0 < z.commit) (turn.others j ne) c)
            (ap (λ z. z.point) (sym (turn.others j ne)) ∙ h))

    nones_behind : (j : ℕ) → IsLive k j → 0 < (k.last j).commit → ((k.last j).point ≡ false)
        → HasNone p (known old.kind old.frame old.versions new.lasts.nodes.items new.banks new.ends) k j
    nones_behind j l c h = go (cases_eq j n)
      where
        go : (j ≡ n) ⊎ (j ≡ n → ⊥) → HasNone p (known old.kind old.frame old.versions new.lasts.nodes.items new.banks new.ends) k j
        go (inl e) = let q : true ≡ false = sym turn.has_point ∙ ap (λ z. (k.last z).point) (sym e) ∙ h in absurd (cc)
        go (inr ne) = turns_leave_none p old.kind old.frame old.versions old.lasts.nodes.items new.lasts.nodes.items old.banks new.banks old.ends
            new.ends m k n true table.valid turn table.machine.parent table.machine.number number_behind children others pools goes
            (λ c e z. (c, (nowhere_same new.table.complete left.ends ∙ e, z))) j ne
            (stands.nones j (ap (λ (f : ℕ → Bool). f j) (sym turn.live) ∙ l) (subst (λ z. 0 < z.commit) (turn.others j ne) c)
            (ap (λ z. z.point) (sym (turn.others j ne)) ∙ h))

    meets : IsComplete k → AllMeet old.kind p new.lasts.nodes.items
    meets c = all_meet p i (known old.kind old.frame old.versions new.lasts.nodes.items new.banks new.ends) k frame behind.machine.live lasts_behind c

    middle_holds : EndsHold p (ends_behind old.kind n value cut old.ends)
    middle_holds = ends_at old.kind n value cut old.ends p stands.ends (λ z c e. root_worth cut answer.has_cut z c e)

    ends_hold : (b : Bool) → new.table.complete ≡ b
        → TakesComplete b p tree old.kind new.lasts.nodes.items (ends_behind old.kind n value cut old.ends) new.ends → EndsHold p new.ends
    ends_hold true e h =
        let c : IsComplete k = (fit_besides.complete new.table k behind.fits).0 e in
        subst (EndsHold p) (sym h.ends) (policy_holds p old.kind (ends_behind old.kind n value cut old.ends)
        (record { cost = h.cost; policy = joined_points new.lasts.nodes.items }) middle_holds (
          policies_join old.kind p new.lasts.nodes.items i (meets c),
          sym (joined_points_cost old.kind p new.lasts.nodes.items tree h.cost i (meets c) t h.costs),
        ))
    ends_hold false e h = subst (EndsHold p) (sym h) middle_holds

    has_cost : (b : Bool) → new.table.complete ≡ b → IsComplete k
        → TakesComplete b p tree old.kind new.lasts.nodes.items (ends_behind old.kind n value cut old.ends) new.ends
        → HasCost p tree (known old.kind old.frame old.versions new.lasts.nodes.items new.banks new.ends)
    has_cost true e c h = record {
      cost = h.cost;
      costs = h.costs;
      upper = λ ne. let u = policy_upper old.kind (ends_behind old.kind n value cut old.ends)
          (record { cost = h.cost; policy = joined_points new.lasts.nodes.items }) ne in
          (u.0, (ap (λ (e : Ends). e.upper) h.ends ∙ u.1.0, u.1.1));
      direction = λ k. (
        record { cost = h.cost; policy = joined_points new.lasts.nodes.items },
        (ap (λ (e : Ends). e.direction) h.ends ∙ policy_direction old.kind (ends_behind old.kind n value cut old.ends) _ k, refl),
      );
    }
    has_cost false e c h = let q : false ≡ true = sym e ∙ (fit_besides.complete new.table k behind.fits).1 c in absurd (cc)

    has_policy : (b : Bool) → TakesComplete b p tree old.kind new.lasts.nodes.items (ends_behind old.kind n value cut old.ends) new.ends
        → (u : Priced) × (old.ends.upper ≡ Some u) → (u : Priced) × (new.ends.upper ≡ Some u)
    has_policy true h u =
        let v = policy_stays old.kind (ends_behind old.kind n value cut old.ends)
        (record { cost = h.cost; policy = joined_points new.lasts.nodes.items }) u.0 (upper_behind old.kind n value cut old.ends ∙ u.1) in
        (v.0, ap (λ (e : Ends). e.upper) h.ends ∙ v.1)
    has_policy false h u = (u.0, ap (λ (e : Ends). e.upper) h ∙ upper_behind old.kind n value cut old.ends ∙ u.1)

    point_stands : StandsBy p tree (known_of new) k
    point_stands = subst (λ (w : Known). StandsBy p tree w k) (sym same_known) (record {
      lasts = lasts_behind;
      nones = nones_behind;
      ends = ends_hold new.table.complete refl left.ends;
      complete = λ c. has_cost new.table.complete refl c left.ends;
      policy = λ ne. has_policy new.table.complete left.ends (stands.policy ne);
      grounds = λ ne. still_first (stands.grounds ne) pools;
    })

    point_long : length new.lasts.nodes.items ≡ length p.nodes
    point_long = ap length (sym keeps.is) ∙ last_long old.lasts.nodes.items n _ ∙ long

  -- ---- without a point
  module _ (task : Task) (is_task : IsTaskOf p old n task) (cut : Stored) (answer : RayAnswer task cut)
      (left : LeavesNone n task.trial cut old new) (turn : IsTurned m k n false) where
    no_others : (j : ℕ) → (j ≡ n → ⊥) → last_at new.lasts.nodes.items j ≡ last_at old.lasts.nodes.items j
    no_others j ne = ap (λ ls. last_at ls j) left.lasts ∙ last_other old.lasts.nodes.items n None j ne

    cut_node : (source_of cut).node ≡ n
    cut_node = ap (λ (s : Source). s.node) answer.cut_of.source ∙ ap (λ (d : Datum). d.node) is_task.datum

    no_pools : PoolsGo (pools_of old.kind old.banks) (pools_of old.kind new.banks) n
    no_pools = pools_go old.kind n (Some cut) task.trial old.banks new.banks cut_node left.banks

    without_upper : (j : ℕ) → (ends_without j cut old.ends).upper ≡ old.ends.upper
    without_upper zero = refl
    without_upper (suc j) = refl

    without_lower : (j : ℕ) → (ends_without j cut old.ends).lower ≡ old.ends.lower
    without_lower zero = refl
    without_lower (suc j) = refl

    shows_none : n ≡ 0 → ShowsNone cut
    shows_none z = (
      ap (λ (s : Source). s.kind) answer.cut_of.source,
      subst (λ q. zero_ℚ <ℚ q) (ap (value_at_trial cut) (is_task.trial ∙ no_trial old.lasts.nodes.items old.frame n z) ∙ plain_value cut) answer.above,
    )

    without_nowhere : (j : ℕ) → n ≡ j → (c : Stored) → old.ends.nowhere ≡ Some c → ShowsNone c
        → (d : Stored) × (((ends_without j cut old.ends).nowhere ≡ Some d) × ShowsNone d)
    without_nowhere zero q c e z = (cut, (refl, shows_none q))
    without_nowhere (suc j) q c e z = (c, (e, z))

    nowhere_goes : NowhereGoes old.ends new.ends
    nowhere_goes c e z = let d = without_nowhere n refl c e z in (d.0, (ap (λ (e : Ends). e.nowhere) left.ends ∙ d.1.0, d.1.1))

    without_root : (j : ℕ) → (ends_without j cut old.ends).root ≡ old.ends.root
    without_root zero = refl
    without_root (suc j) = refl

    no_goes : (j : ℕ) → (j ≡ n → ⊥) → j ≡ 0 → RootGoes old.kind old.ends new.ends
    no_goes j ne z = root_stays old.kind old.ends new.ends (ap (λ (e : Ends). e.root) left.ends ∙ without_root n) (ap (λ (e : Ends). e.lower) left.ends ∙ without_lower n)

    own_none : HasNone p (known old.kind old.frame old.versions new.lasts.nodes.items new.banks new.ends) k n
    own_none = record {
      trial = task.trial;
      made = λ made. is_task.trial ∙ sym (trial_same old.lasts.nodes.items new.lasts.nodes.items old.frame n n no_others not_own);
      offered = λ low. go n left.banks low cut_node;
      root = λ z. (cut, (ap (λ (e : Ends). e.nowhere) left.ends ∙ ap (λ j. (ends_without j cut old.ends).nowhere) z, shows_none z));
    }
      where
        go : (j : ℕ) → OffersCut old.kind j (Some cut) task.trial old.banks new.banks → 0 < j → (source_of cut).node ≡ j
            → HasMember (pools_of old.kind new.banks) j (IsAbove task.trial)
        go zero f low at = absurd (omega (arith, low))
        go (suc j) f low at = ray_held old.kind cut task.trial old.banks new.banks (suc j) at
            (ap (λ (s : Source). s.kind) answer.cut_of.source) answer.above f

    no_lasts : (j : ℕ) → IsLive k j → 0 < (k.last j).commit → HasPoint k j
        → HasLast p (known old.kind old.frame old.versions new.lasts.nodes.items new.banks new.ends) k j
    no_lasts j l c h = go (cases_eq j n)
      where
        go : (j ≡ n) ⊎ (j ≡ n → ⊥) → HasLast p (known old.kind old.frame old.versions new.lasts.nodes.items new.banks new.ends) k j
        go (inl e) = let q : false ≡ true = sym turn.has_point ∙ ap (λ z. (k.last z).point) (sym e) ∙ h in absurd (cc)
        go (inr ne) = turns_leave p old.kind old.frame old.versions old.lasts.nodes.items new.lasts.nodes.items old.banks new.banks old.ends new.ends
            m k n false table.valid turn table.machine.parent table.machine.number number_behind children no_others no_pools no_goes nowhere_goes
            j (ap (λ (f : ℕ → Bool). f j) (sym turn.live) ∙ l) ne
            (stands.lasts j (ap (λ (f : ℕ → Bool). f j) (sym turn.live) ∙ l) (subst (λ z. 0 < z.commit) (turn.others j ne) c)
            (ap (λ z. z.point) (sym (turn.others j ne)) ∙ h))

    no_nones : (j : ℕ) → IsLive k j → 0 < (k.last j).commit → ((k.last j).point ≡ false)
        → HasNone p (known old.kind old.frame old.versions new.lasts.nodes.items new.banks new.ends) k j
    no_nones j l c h = go (cases_eq j n)
      where
        go : (j ≡ n) ⊎ (j ≡ n → ⊥) → HasNone p (known old.kind old.frame old.versions new.lasts.nodes.items new.banks new.ends) k j
        go (inl e) = subst (HasNone p (known old.kind old.frame old.versions new.lasts.nodes.items new.banks new.ends) k) (sym e) own_none
        go (inr ne) = turns_leave_none p old.kind old.frame old.versions old.lasts.nodes.items new.lasts.nodes.items old.banks new.banks old.ends
            new.ends m k n false table.valid turn table.machine.parent table.machine.number number_behind children no_others no_pools no_goes
            nowhere_goes j ne
            (stands.nones j (ap (λ (f : ℕ → Bool). f j) (sym turn.live) ∙ l) (subst (λ z. 0 < z.commit) (turn.others j ne) c)
            (ap (λ z. z.point) (sym (turn.others j ne)) ∙ h))

    none_stands : StandsBy p tree (known_of new) k
    none_stands = subst (λ (w : Known). StandsBy p tree w k) (sym same_known) (record {
      lasts = no_lasts;
      nones = no_nones;
      ends = subst (EndsHold p) (sym left.ends) (record {
        upper = subst (λ o. IfSome o (λ (u : Priced). Feasible (view_of p) (at u.policy) × (cost (view_of p) (at u.policy) ≡ u.cost)))
            (sym (without_upper n)) stands.ends.upper;
        lower = subst (λ o. IfSome o (λ (l : Bounded). (l.value ≡ constant_of l.cut) × ((source_of l.cut).kind ≡ Bound))) (sym (without_lower n)) stands.ends.lower;
      });
      policy = λ ne. let u = stands.policy ne in (u.0, ap (λ (e : Ends). e.upper) left.ends ∙ without_upper n ∙ u.1);
      grounds = λ ne. still_first (stands.grounds ne) no_pools;
      complete = λ c. let g : IsGood k n = c n (behind.machine.live n ∙ live) in
          let q : false ≡ true = sym turn.has_point ∙ g.1 in absurd (cc);
    })

    none_long : length new.lasts.nodes.items ≡ length p.nodes
    none_long = ap length left.lasts ∙ last_long old.lasts.nodes.items n None ∙ long

-- the solve of a node
pub solve_stands : (p : Program) (tree : Tree) → IsProgram p → tree_walk p ≡ Ok tree → (old new : State) (m : Machine) (n : ℕ)
    → old.frame ≡ frame_of p → IsDesk p old m → length old.lasts.nodes.items ≡ length p.nodes → StandsBy p tree (known_of old) m
    → SolvesAtDesk p old m n new → new.stop ≡ None → StandsBehind p tree new
solve_stands p tree i t old new m n frame table long stands solves none =
    go solves.all solves.answer (solves.leaves tree t none) solves.ends.way
  where
    live : Lives p n
    live = subst (Lives p) solves.ends.node (sym (table.machine.live solves.ends.turn.node) ∙ solves.ends.turn.may.live)

    behind : (point : Bool) → solves.ends.machine ≡ committed_by 0
        (read_each (begun m 0 solves.ends.turn.node) (first_flight m solves.ends.turn.node) solves.ends.turn.children)
        (read_by_each m.number (first_flight m solves.ends.turn.node) solves.ends.turn.children) point solves.ends.turn.added
        → IsTurned m solves.ends.machine n point
    behind point e = subst (λ (j : ℕ). IsTurned m solves.ends.machine j point) solves.ends.node
        (turned m solves.ends.machine solves.ends.turn.node solves.ends.turn.children point solves.ends.turn.added table.valid table.idle
        solves.ends.turn.may e)

    go : (all : Solved) → IsAnswer solves.task all → LeavesBy p tree n solves.task.trial all old new
        → EndsBy 0 solves.task.trial all
        (read_each (begun m 0 solves.ends.turn.node) (first_flight m solves.ends.turn.node) solves.ends.turn.children)
        (read_by_each m.number (first_flight m solves.ends.turn.node) solves.ends.turn.children)
        solves.ends.turn.added solves.ends.machine → StandsBehind p tree new
    go (solved.Point x value cut) a l (inl e) = record {
      machine = solves.ends.machine;
      tabled = solves.ends.tabled;
      stands = point_stands p tree i t old new m solves.ends.machine n frame table solves.ends.tabled long stands live solves.stays.kind solves.stays.frame
          solves.stays.versions solves.task solves.is_task solves.fits x value cut a l (behind true e);
      long = point_long p tree i t old new m solves.ends.machine n frame table solves.ends.tabled long stands live solves.stays.kind solves.stays.frame
          solves.stays.versions solves.task solves.is_task solves.fits x value cut a l (behind true e);
      frame = solves.stays.frame ∙ frame;
    }
    go (solved.Point x value cut) a l (inr (passes, e)) =
        let kept = kept_is old.lasts.nodes.items new.lasts.nodes.items n solves.task.trial x l.lasts in
        let q = sym passes.1 ∙ kept.sum in absurd (cc)
    go (solved.NoPoint cut) a l e = record {
      machine = solves.ends.machine;
      tabled = solves.ends.tabled;
      stands = none_stands p tree i t old new m solves.ends.machine n frame table solves.ends.tabled long stands live solves.stays.kind solves.stays.frame
          solves.stays.versions solves.task solves.is_task cut a l (behind false e);
      long = none_long p tree i t old new m solves.ends.machine n frame table solves.ends.tabled long stands live solves.stays.kind solves.stays.frame
          solves.stays.versions solves.task solves.is_task cut a l (behind false e);
      frame = solves.stays.frame ∙ frame;
    }
    go solved.Loose a l e = absurd l
    go solved.PivotsEnded a l e = absurd l
    go (solved.Passed in_cut o) a l e = absurd l
    go solved.NotGood a l e = absurd l
