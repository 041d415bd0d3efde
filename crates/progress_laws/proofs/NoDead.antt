-- Where no node may be begun, and the run isn't settled, it is closed.
use Rattle.std.proofs.Common.{◌≡◌, ℕ, zero, suc, ◌<◌, ◌≤◌, inl, inr, Bool, true, false, List, [], ◌∷◌, Option, Some, None, Ok, IfSome, get_or, slice_get, length, is_some, refl, sym, ap, subst, ◌∙◌, arith}
use Rattle.std.proofs.lemmas.List.{length-map}
use Rattle.std.specs.List.{Contains}
use Rattle.rationals.specs.Rational.{ℚ, zero_ℚ, one_ℚ, neg_ℚ, ◌≤ℚ◌, le_refl_ℚ, le_of_same_ℚ, le_trans_ℚ, lt_by, mul_zero_ℚ, lt_le_ℚ, zero_lt_one_ℚ, by_linear, terms}
use Rattle.rationals.specs.Ring.Given.{nothing as no_more, fact}
use Rattle.rationals.specs.Sums.{sum-zero}
use Rattle.rationals.specs.Sparse.{Entry, product}
use Rattle.scen_defs.specs.Lists.{Each}
use Rattle.rationals.specs.Intervals.{AtLeast, AtMost, Between}
use Rattle.scen_defs.specs.Program.{Program, View, is_live, view_of}
use Rattle.scen_defs.specs.Flat.{FeasibleAt, Feasible, cost, IsGood, value, without_costs, recession, zero_end, zero_row}
use Rattle.scen_defs.specs.Values.{at}
use Rattle.scen_defs.specs.Valid.{IsProgram, Lives}
use Rattle.scen_defs.specs.declared.program.NodeRow.{NodeRow}
use Rattle.scen_defs.specs.declared.report.Kind.{Kind}
use Rattle.scen_defs.specs.declared.report.Kind.TheVariants as run_kind
use Rattle.scen_defs.proofs.SumLaws.{sum-ext}
use Rattle.scen_defs.proofs.Duality.{infeasibility_shown}
use Rattle.cut_defs.proofs.Present.{each_mapped}
use Rattle.scen_tree.specs.Trees.{Tree, tree_walk}
use Rattle.cut_defs.specs.Cuts.{priced}
use Rattle.cut_defs.specs.Stored.{Stored, constant_of}
use Rattle.cut_defs.specs.declared.kinds.CutKind.{CutKind}
use Rattle.cut_banks.specs.Banks.{pools_of}
use Rattle.edit_defs.specs.Data.{view_in, book}
use Rattle.edit_defs.proofs.Lists.{passes-within}
use Rattle.pass_table.specs.Machine.{next, Machine, IsLive, IsChild, IsFresh, IsOpen, IsClosed, MayBegin, IsTop}
use Rattle.pass_table.specs.Marks.{nothing}
use Rattle.pass_table.proofs.Agree.{all_below, fresh_told, open_told}
use Rattle.node_data.specs.Frames.{Frame, parent_of, parent_in, children_in}
use Rattle.found_ends.specs.declared.ends.Priced.{Priced}
use Rattle.found_ends.specs.declared.settled.Settled.TheVariants.{Infeasible, Optimal}
use Rattle.found_ends.specs.Lasts.{trial_of}
use Rattle.found_ends.specs.Settled.{settled, ended, or_case, where_so}
use Rattle.pass_core.specs.declared.state.State.{State}
use Rattle.pass_core.specs.Made.{run_book, script_books, IsMadeAbout, CutsAreMade}
use Rattle.pass_core.specs.Desks.{IsDesk}
use Rattle.pass_core.proofs.Desks.{desk_at}
use Rattle.pass_core.proofs.Parentage.{children_are}
use Rattle.pass_core.proofs.Assembling.{root_is_worth}
use Rattle.joined_laws.proofs.Places.{tree_in}
use Rattle.nested_method.specs.Stands.{settled_in}
use Rattle.progress_laws.proofs.Standing.{known_of, ShowsNone, HasLast, HasNone, StandsBy}
use Rattle.progress_laws.specs.Laws.{IsFollowed, RunsGoOn, EndsAreSettled}
use Rattle.pass_core.specs.Turns.{IsAtRest}
use Rattle.progress_laws.proofs.Kept.{IsStanding, unstopped, run_stands, run_held}
use Rattle.progress_laws.proofs.Meeting.{closed_runs_meet}
use Rattle.progress_laws.proofs.Policies.{UpToDate, no_ray_above}

-- ---- the point that is 0 everywhere meets the form of a Recession run
pub no_point : ℕ → ℕ → ℚ
no_point n j = zero_ℚ

-- what stands at a place of a list
there : (xs : List ℕ) (j : ℕ) → j < length xs → slice_get xs j ≡ Some (get_or xs j 0)
there [] j less = absurd (omega (arith, less))
there (x ∷ xs) zero less = refl
there (x ∷ xs) (suc j) less = there xs j (omega (arith, less))

each_of : {A : Type 0} (P : A → Type 0) → ((x : A) → P x) → (xs : List A) → Each P xs
each_of P f [] = tt
each_of P f (x ∷ xs) = (f x, each_of P f xs)

at_least_zero : (low : Option ℚ) (q : ℚ) → q ≡ zero_ℚ → AtLeast (zero_end low) q
at_least_zero None q e = tt
at_least_zero (Some l) q e = le_of_same_ℚ (sym e)

at_most_zero : (high : Option ℚ) (q : ℚ) → q ≡ zero_ℚ → AtMost (zero_end high) q
at_most_zero None q e = tt
at_most_zero (Some h) q e = le_of_same_ℚ e

neg_below : (x : ℚ) → zero_ℚ ≤ℚ x → neg_ℚ x ≤ℚ zero_ℚ
neg_below x h = by_linear (x ∷ []) (fact h no_more) (search terms depth 40) tt

lower_zero : (o : Option ℚ) → AtLeast (Some (elim o [ None ↦ neg_ℚ one_ℚ | Some e ↦ zero_ℚ ])) zero_ℚ
lower_zero None = neg_below one_ℚ (lt_le_ℚ zero_lt_one_ℚ)
lower_zero (Some e) = le_refl_ℚ zero_ℚ

upper_zero : (o : Option ℚ) → AtMost (Some (elim o [ None ↦ one_ℚ | Some e ↦ zero_ℚ ])) zero_ℚ
upper_zero None = lt_le_ℚ zero_lt_one_ℚ
upper_zero (Some e) = le_refl_ℚ zero_ℚ

nothing_costs : (f : List Entry) → product f (λ j. zero_ℚ) ≡ zero_ℚ
nothing_costs f = sum-ext _ (λ (e : Entry). zero_ℚ) (λ (e : Entry). mul_zero_ℚ e.value) f ∙ sum-zero f

pub no_point_feasible : (v : View) → Feasible (recession v) no_point
unfolding no_point
no_point_feasible v = each_of (FeasibleAt (recession v) no_point) (λ n. record {
  rows = each_mapped (λ (r : NodeRow). Between r.low r.high (product r.entries (λ j. zero_ℚ))) zero_row (v.rows n)
      (each_of (λ (r : NodeRow). Between (zero_end r.low) (zero_end r.high) (product r.entries (λ j. zero_ℚ)))
      (λ r. record { above = at_least_zero r.low _ (nothing_costs r.entries); below = at_most_zero r.high _ (nothing_costs r.entries) }) (v.rows n));
  bounds = each_of (λ j. Between ((recession v).lower j) ((recession v).upper j) zero_ℚ)
      (λ j. record { above = lower_zero (v.lower j); below = upper_zero (v.upper j) }) (v.columns (v.stage n));
}) v.live

-- ---- a cut of the root that shows that there is no point contradicts one
pub none_contradicts : (kind : Kind) (p : Program) (i : IsProgram p) (cut : Stored) → IsMadeAbout (book kind p []) 0 cut → ShowsNone cut
    → (x : ℕ → ℕ → ℚ) → Feasible (view_in kind p) x → ⊥
none_contradicts kind p i cut made shows x f =
    let y = root_is_worth kind p cut i made in
    let g : IsGood (without_costs (view_in kind p)) y.0 × (constant_of cut ≤ℚ value (without_costs (view_in kind p)) y.0)
    = subst (λ (k : CutKind). IsGood (priced (view_in kind p) k) y.0 × (constant_of cut ≤ℚ value (priced (view_in kind p) k) y.0)) shows.0 y.1 in
    infeasibility_shown (view_in kind p) y.0 (tree_in kind p i)
    (record { good = g.0; above = lt_by shows.1 (λ k. le_trans_ℚ g.1 k) }) x f

module _ (p : Program) (tree : Tree) (i : IsProgram p) (few : length p.nodes < nothing) (t : tree_walk p ≡ Ok tree) (s : State) (m : Machine)
    (standing : IsStanding p tree s) (made : CutsAreMade (script_books p []) s) (table : IsDesk p s m) (open_yet : settled_in s ≡ None)
    (fails : (n : ℕ) → MayBegin m n → ⊥) where
  stands : StandsBy p tree (known_of s) m
  stands = standing.stands m table

  enough : (k : Kind) → length p.nodes ≤ length (pools_of k s.banks)
  enough k =
      let q : length s.frame.parents ≡ length p.nodes = ap (λ (f : Frame). length f.parents) standing.frame ∙ length-map p.nodes parent_of in
      by k q
    where
      by : (k : Kind) → length s.frame.parents ≡ length p.nodes → length p.nodes ≤ length (pools_of k s.banks)
      by run_kind.Feasible q = omega (arith, table.pools.plain, q)
      by run_kind.Recession q = omega (arith, table.pools.cone, q)
      by run_kind.Cost q = omega (arith, table.pools.plain, q)

  -- behind a Feasible run there is a policy
  behind : (s.kind ≡ run_kind.Feasible → ⊥) → HasNone p (known_of s) m 0 → ⊥
  behind ne h =
      let c = h.root refl in
      let u = stands.policy ne in
      let f : Feasible (view_of p) (at u.0.policy)
      = (subst (λ o. IfSome o (λ (u : Priced). Feasible (view_of p) (at u.policy) × (cost (view_of p) (at u.policy) ≡ u.cost))) u.1 stands.ends.upper).0 in
      let q = subst (λ o. IfSome o (λ (cut : Stored). (k : Kind) × IsMadeAbout (run_book k (script_books p [])) 0 cut)) c.1.0 made.1.nowhere in
      by c.0 q.0 q.1 (at u.0.policy) f c.1.1
    where
      by : (cut : Stored) (k : Kind) → IsMadeAbout (run_book k (script_books p [])) 0 cut → (x : ℕ → ℕ → ℚ) → Feasible (view_of p) x → ShowsNone cut → ⊥
      by cut run_kind.Feasible h x f z = none_contradicts run_kind.Cost p i cut h z x f
      by cut run_kind.Recession h x f z = none_contradicts run_kind.Recession p i cut h z no_point (no_point_feasible (view_of p))
      by cut run_kind.Cost h x f z = none_contradicts run_kind.Cost p i cut h z x f

  -- the root has a point, or the run is settled
  root_has : (k : Kind) → s.kind ≡ k → HasNone p (known_of s) m 0 → ⊥
  root_has run_kind.Feasible e h =
      let c = h.root refl in
      let q : settled run_kind.Feasible s.table.closed s.ends s.stop s.counts.since_report s.budget.solves ≡ None
      = subst (λ (k : Kind). settled k s.table.closed s.ends s.stop s.counts.since_report s.budget.solves ≡ None) e open_yet in
      let z : or_case (where_so (is_some (Some c.0)) Infeasible) (ended s.stop s.counts.since_report s.budget.solves) ≡ None
      = subst (λ (o : Option Stored). or_case (where_so (is_some o) Infeasible) (ended s.stop s.counts.since_report s.budget.solves) ≡ None) c.1.0 q in
      absurd (cc)
  root_has run_kind.Recession e h = behind (λ k. let z : run_kind.Recession ≡ run_kind.Feasible = sym e ∙ k in absurd (cc)) h
  root_has run_kind.Cost e h = behind (λ k. let z : run_kind.Cost ≡ run_kind.Feasible = sym e ∙ k in absurd (cc)) h

  -- a node below open ones has one
  node_has : (n a : ℕ) → m.parent n ≡ a → 0 < n → IsLive m n → IsLive m a → IsOpen m a → IsFresh m n → HasNone p (known_of s) m n → ⊥
  node_has n a up low live above open_above fresh h =
      let la : Lives p a = sym (table.machine.live a) ∙ above in
      let own : HasLast p (known_of s) m a = stands.lasts a above open_above.0.made.solved open_above.1 in
      let u : UpToDate p i (known_of s) m standing.frame table.machine.live stands.lasts (enough s.kind) a
      = record { last = own; open_is = open_above } in
      let child : IsChild m a n = record { live = live; lower = low; parent = up } in
      let at : Contains (children_in s.frame a) n
      = subst (λ (f : Frame). Contains (children_in f a) n) (sym standing.frame)
      ((children_are p m i table.machine.live (λ q. ap (λ (g : ℕ → ℕ). g q) table.machine.parent ∙ ap (λ (f : Frame). get_or f.parents q 0) standing.frame)
      a la n).0 child) in
      no_ray_above p i (known_of s) m standing.frame table.machine.live stands.lasts (enough s.kind) a n la u at h.trial
      (sym (h.made fresh.made ∙ ap (trial_of s.lasts.nodes.items) (parent_is n refl low))) (h.offered low)
    where
      within : n < length s.frame.parents
      within = let q = passes-within is_live n p.nodes (sym (table.machine.live n) ∙ live) in
          omega (arith, q, ap (λ (f : Frame). length f.parents) standing.frame, length-map p.nodes parent_of)

      parent_is : (j : ℕ) → n ≡ j → 0 < j → parent_in s.frame j ≡ Some a
      parent_is zero e low = absurd (omega (arith, low))
      parent_is (suc j) e low = there s.frame.parents (suc j) (omega (arith, e, within))
          ∙ ap Some (ap (λ (k : ℕ). get_or s.frame.parents k 0) (sym e) ∙ ap (λ (g : ℕ → ℕ). g n) (sym table.machine.parent) ∙ up)

  top : (n : ℕ) → IsTop m (IsOpen m) n → ⊥
  top n h = go (m.last n).point refl
    where
      fresh : IsFresh m n
      fresh = fresh_told m n (λ not_fresh. fails n (record {
        live = h.live;
        stale = not_fresh;
        idle = λ flies. let q : None ≡ Some flies.1.0 = sym (table.idle flies.0) ∙ flies.1.1.flight in absurd (cc);
        above = λ a up. let o : IsOpen m a = h.above a up in (o.0.made, o.1);
      }))

      by : (k : ℕ) → n ≡ k → HasNone p (known_of s) m n → ⊥
      by zero e own = root_has s.kind refl (subst (HasNone p (known_of s) m) e own)
      by (suc k) e own =
          let low : 0 < n = omega (arith, e) in
          node_has n (m.parent n) refl low h.live (table.valid.rooted n low h.live) (h.above (m.parent n) (next n low refl)) fresh own

      go : (b : Bool) → (m.last n).point ≡ b → ⊥
      go true e = h.fails (fresh, e)
      go false e = by n refl (stands.nones n h.live fresh.made.solved e)

  pub is_closed : IsClosed m
  is_closed n live = all_below m table.valid (IsOpen m) (open_told m) top (suc n) n (omega arith) live

pub runs_go_on : RunsGoOn
runs_go_on p s m r table open_yet fails =
    let stop : s.stop ≡ None = unstopped s open_yet in
    let closed : IsClosed m = is_closed p r.tree r.program r.few r.walk s m
    (run_stands p s r stop)
    (run_held p s r).made table open_yet fails in
    record {
      closed = closed;
      earlier = λ costly. let q : None ≡ Some Optimal = sym open_yet ∙ closed_runs_meet p s m r table closed costly stop in absurd (cc);
    }

pub ends_are_settled : EndsAreSettled
ends_are_settled p s m r table room (inl settled) open_yet = settled open_yet
ends_are_settled p s m r table room (inr rests) open_yet =
    let rest : IsAtRest s m = rests m table room in
    let f : IsFollowed s m = runs_go_on p s m r (desk_at p s m table) open_yet rest.idle in
    f.earlier (rest.last f.closed)
