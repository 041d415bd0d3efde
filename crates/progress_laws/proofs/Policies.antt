-- In a complete run the points of all nodes are a policy; in a closed one its cost is at most the root's value.
use Rattle.std.proofs.Common.{◌≡◌, ℕ, zero, suc, ◌+◌, ◌<◌, ◌≤◌, ◌⊎◌, inl, inr, Bool, true, false, List, [], ◌∷◌, Option, Some, None, Ok, length, map, slice_get, refl, sym, ap, subst, ◌∙◌, arith}
use Rattle.std.specs.List.{Contains}
use Rattle.rationals.specs.Rational.{ℚ, zero_ℚ, one_ℚ, ◌+ℚ◌, ◌*ℚ◌, ◌≤ℚ◌, le_trans_ℚ, not_le_of_lt_ℚ, by_linear_eq, terms}
use Rattle.rationals.specs.Ring.Given.{nothing, equal}
use Rattle.rationals.specs.Sums.{sum_ℚ}
use Rattle.rationals.specs.Sparse.{Entry, coefficient, product}
use Rattle.rationals.specs.Forms.{add_scaled_walk}
use Rattle.rationals.proofs.WalkLaws.{sum_coefficient}
use Rattle.scen_defs.specs.Lists.{Each, passes_at}
use Rattle.rationals.specs.Intervals.{Between}
use Rattle.scen_defs.specs.Values.{at}
use Rattle.scen_defs.specs.Program.{Program, View, view_of, is_live, IsLive as IsLiveIn}
use Rattle.scen_defs.specs.Flat.{cost, is_child, children, share}
use Rattle.scen_defs.proofs.Subtrees.{ChildIs, child-is}
use Rattle.scen_tree.specs.Trees.{position_of, children_of}
use Rattle.cut_defs.proofs.CutLaws.{each-child}
use Rattle.std.proofs.lemmas.List.{length-map}
use Rattle.scen_defs.specs.Valid.{IsProgram, Lives}
use Rattle.scen_defs.specs.declared.program.NodeRow.{NodeRow}
use Rattle.scen_defs.specs.declared.report.Kind.{Kind}
use Rattle.scen_defs.specs.declared.report.Kind.TheVariants as run_kind
use Rattle.scen_defs.proofs.SumLaws.{each-map, each-both, sum-ext}
use Rattle.cut_defs.specs.Stored.{Stored, source_of}
use Rattle.cut_defs.specs.declared.kinds.CutKind.TheVariants.{Bound, Ray}
use Rattle.cut_pool.specs.Held.{Held}
use Rattle.cut_banks.specs.Pools.{cuts_read}
use Rattle.edit_defs.specs.Data.{view_in}
use Rattle.edit_defs.proofs.Lists.{passes-within}
use Rattle.node_lp.specs.Problem.{is_priced}
use Rattle.node_lp.specs.Answers.{value_at_trial, HasCut}
use Rattle.pass_table.specs.Machine.{Machine, IsLive, IsMade, IsOpen, IsGood, HasPoint, IsClosed, IsComplete}
use Rattle.node_data.specs.Counts.{version_of}
use Rattle.node_data.specs.Frames.{frame_of, parent_in, children_in}
use Rattle.node_data.specs.declared.versions.Version.{Version}
use Rattle.node_data.proofs.TreeReads.{children_at, children_are}
use Rattle.found_ends.specs.declared.last.Last.{Last}
use Rattle.found_ends.specs.Lasts.{last_point, along_of, trial_of, joined_points}
use Rattle.dual_assemble.specs.Values.{point_entries}
use Rattle.pass_core.specs.Turns.{datum_in}
use Rattle.pass_core.proofs.Making.{children_after}
use Rattle.joined_laws.specs.Points.{MeetsAt, AllMeet, CoversAt}
use Rattle.joined_laws.proofs.Places.{IsFramed, framed_in, tree_in}
use Rattle.joined_laws.proofs.Policies.{values_cover}
use Rattle.answer_laws.specs.Points.{IsDatumIn, PointMeets}
use Rattle.answer_laws.specs.Costs.{AddsUp, BoundsBelow, RaysBelow, CostsOver}
use Rattle.answer_laws.proofs.Points.{points_meet}
use Rattle.answer_laws.proofs.PoolCosts.{values_cover_pools}
use Rattle.progress_laws.proofs.Standing.{Known, pools_in, HasMember, IsAtLeast, IsAbove as IsRayAbove, HasLast}

-- ---- sums
once_one : (a b c : ℚ) → a ≡ b +ℚ one_ℚ *ℚ c → a ≡ b +ℚ c
once_one a b c e = by_linear_eq (a ∷ b ∷ c ∷ []) (equal e nothing) (search terms depth 40) tt

swap : (a b c : ℚ) → a ≡ b +ℚ c → c +ℚ b ≡ a
swap a b c e = by_linear_eq (a ∷ b ∷ c ∷ []) (equal e nothing) (search terms depth 40) tt

-- the values along are those of the trial and of the point
pub adds_up : (trial point along : List Entry) → add_scaled_walk trial one_ℚ point ≡ Ok along → AddsUp trial point along
adds_up trial point along e j = once_one (coefficient along j) (coefficient trial j) (coefficient point j) (sum_coefficient trial one_ℚ point along j e)

-- ---- the data
pub datum_is : (kind : Kind) (p : Program) (n : ℕ) (version : Version) → IsDatumIn (view_in kind p) n (datum_in kind p n version)
datum_is kind p n version = record { cost = refl; rows = refl; bounds = refl; shares = refl }

pub own_children : (p : Program) → IsProgram p → (n : ℕ) → Lives p n → children_in (frame_of p) n ≡ children (view_of p) n
own_children p i n l = let step : 0 + n ≡ n = omega arith in
    children_at (map position_of p.nodes) 0 n (map position_of p.nodes) (omega (arith, length-map p.nodes position_of, passes-within is_live n p.nodes l))
    ∙ ap (children_of (map position_of p.nodes)) step ∙ children_are p i n

pub children_same : (kind : Kind) (p : Program) (n : ℕ) → children (view_in kind p) n ≡ children (view_of p) n
children_same run_kind.Feasible p n = refl
children_same run_kind.Recession p n = refl
children_same run_kind.Cost p n = refl

pub each_found : {A : Type 0} (P : A → Type 0) (xs : List A) (x : A) → Each P xs → Contains xs x → P x
each_found P [] x h c = absurd (omega (arith, c.1))
each_found {A} P (y ∷ ys) x h (zero, less, e) = subst P e h.0
each_found {A} P (y ∷ ys) x h (suc i, less, e) = each_found P ys x h.1 (i, omega (arith, less), e)

module _ (p : Program) (i : IsProgram p) (w : Known) (m : Machine) (frame : w.frame ≡ frame_of p)
    (live : (n : ℕ) → m.live n ≡ passes_at is_live n p.nodes)
    (lasts : (n : ℕ) → IsLive m n → 0 < (m.last n).commit → HasPoint m n → HasLast p w m n) where
  v : View
  v = view_in w.kind p

  datum : (n : ℕ) → (h : HasLast p w m n) → IsDatumIn (view_in w.kind p) n h.task.datum
  datum n h = subst (IsDatumIn (view_in w.kind p) n) (sym h.datum) (datum_is w.kind p n (version_of w.versions n))

  -- a node's point meets the program at the values above it as they are
  meets_at : (n : ℕ) → IsMade m n → (h : HasLast p w m n) → MeetsAt w.kind p w.lasts n
  meets_at n made h =
      let a : PointMeets (view_in w.kind p) n h.task.trial h.last.point
      = points_meet (view_in w.kind p) n h.task h.last.point h.value h.cut (tree_in w.kind p i) (datum n h) h.answer in
      let adds : AddsUp h.task.trial h.last.point h.last.along = adds_up h.task.trial h.last.point h.last.along h.along in
      record {
        last = h.last;
        there = h.there;
        form = a.form;
        own = a.columns;
        along = λ j. adds j ∙ ap (λ (t : List Entry). coefficient t j +ℚ coefficient h.last.point j)
            (h.trial made ∙ ap (λ f. trial_of w.lasts (parent_in f n)) frame);
        rows = each-map {Q = λ (r : NodeRow). Between r.low r.high (product r.entries (coefficient h.last.along))}
            (λ r b. subst (Between r.low r.high) (sum-ext _ _ (λ (e : Entry). ap (λ z. e.value *ℚ z)
            (swap (coefficient h.last.along e.column) (coefficient h.task.trial e.column) (coefficient h.last.point e.column) (adds e.column)))
            r.entries) b) ((view_in w.kind p).rows n) a.rows;
        bounds = a.bounds;
      }

  pub all_meet : IsComplete m → AllMeet w.kind p w.lasts
  all_meet c n l =
      let g : IsGood m n = c n (live n ∙ l) in
      meets_at n g.0 (lasts n (live n ∙ l) g.0.solved g.1)

  -- ---- nodes that are up to date
  module _ (pools : length p.nodes ≤ length (pools_in w)) where
    -- a live node's last solve, which is up to date
    pub record UpToDate (n : ℕ) : Type 0 where
      pub last : HasLast p w m n
      pub open_is : IsOpen m n

    own_same : (n : ℕ) → Lives p n → children_in w.frame n ≡ children (view_in w.kind p) n
    own_same n l = ap (λ f. children_in f n) frame ∙ own_children p i n l ∙ sym (children_same w.kind p n)

    -- its value is that of its point, and of its children costs that the cuts of their pools don't exceed
    pub costs : (n : ℕ) → Lives p n → (u : UpToDate n) → CostsOver (view_in w.kind p) n (pools_in w) u.last.task.kind u.last.last.point u.last.last.along u.last.value
    costs n l u =
        let h : HasLast p w m n = u.last in
        let same : children_in w.frame n ≡ children (view_in w.kind p) n = own_same n l in
        let below : Each (λ c. c < length (pools_in w)) (children (view_in w.kind p) n)
        = subst (Each (λ c. c < length (pools_in w))) (ap (λ f. children_in f n) (sym frame) ∙ same)
        (each-map {Q = λ c. c < length (pools_in w)} (λ c h. let q = passes-within is_live c p.nodes h.0 in omega (arith, q, pools)) (children_in (frame_of p) n) (children_after p i n l)) in
        values_cover_pools (view_in w.kind p) n (pools_in w) h.task h.last.point h.last.along h.value h.cut (datum n h) h.fits
        (h.cuts (u.open_is.0.below) ∙ ap (cuts_read (pools_in w)) same) below h.answer (adds_up h.task.trial h.last.point h.last.along h.along)

    -- no Ray cut about a child is above 0 at its point
    pub no_ray_above : (a n : ℕ) → Lives p a → UpToDate a → Contains (children_in w.frame a) n → (trial : List Entry)
        → trial_of w.lasts (Some a) ≡ trial → HasMember (pools_in w) n (IsRayAbove trial) → ⊥
    no_ray_above a n l u at trial e h =
        let c = costs a l u in
        let b : RaysBelow u.last.last.along h.pool.cuts
        = each_found (λ (k : ℕ). (q : Held) → slice_get (pools_in w) k ≡ Some q → RaysBelow u.last.last.along q.cuts) (children (view_in w.kind p) a) n c.rays
        (subst (λ (cs : List ℕ). Contains cs n) (own_same a l) at) h.pool h.there in
        let r : value_at_trial h.cut u.last.last.along ≤ℚ zero_ℚ
        = each_found (λ (cut : Stored). (source_of cut).kind ≡ Ray → value_at_trial cut u.last.last.along ≤ℚ zero_ℚ) h.pool.cuts h.cut b h.member h.holds.0 in
        not_le_of_lt_ℚ h.holds.1 (subst (λ (t : List Entry). value_at_trial h.cut t ≤ℚ zero_ℚ) (sym (ap along_of u.last.there) ∙ e) r)

  -- ---- in a closed run
  module _ (closed : IsClosed m) (is_costly : is_priced w.kind ≡ true) (pools : length p.nodes ≤ length (pools_in w)) where
    found : (n : ℕ) → Lives p n → UpToDate pools n
    found n l = let o : IsOpen m n = closed n (live n ∙ l) in record { last = lasts n (live n ∙ l) o.0.made.solved o.1; open_is = o }

    -- of each number: that of a live node, or not
    told : (n : ℕ) → (Lives p n → ⊥) ⊎ UpToDate pools n
    told n = go (passes_at is_live n p.nodes) refl
      where
        go : (b : Bool) → passes_at is_live n p.nodes ≡ b → (Lives p n → ⊥) ⊎ UpToDate pools n
        go true e = inr (found n e)
        go false e = inl (λ l. let q : true ≡ false = sym l ∙ e in absurd (cc))

    value_in : (n : ℕ) → (Lives p n → ⊥) ⊎ UpToDate pools n → ℚ
    value_in n (inl gone) = zero_ℚ
    value_in n (inr u) = u.last.value

    -- the value of a node's last solve
    pub value_of : ℕ → ℚ
    value_of n = value_in n (told n)

    -- its cut was offered
    offered : (n : ℕ) → 0 < n → (u : UpToDate pools n) → HasMember (pools_in w) n (IsAtLeast u.last.task.trial u.last.value)
    offered n low u = go u.last.cut refl u.last.answer.has_cut
      where
        go : (cut : Option Stored) → u.last.cut ≡ cut → HasCut u.last.task u.last.value u.last.answer.m cut → HasMember (pools_in w) n (IsAtLeast u.last.task.trial u.last.value)
        go None e a = let q : false ≡ true = sym a ∙ ap is_priced u.last.kind ∙ is_costly in absurd (cc)
        go (Some cut) e a = u.last.offered low cut e

    -- a child's trial is what its parent's point is along
    child_trial : (n c : ℕ) → Lives p n → (u : UpToDate pools n) → (k : UpToDate pools c) → parent_in (frame_of p) c ≡ Some n → k.last.task.trial ≡ u.last.last.along
    child_trial n c l u k e = k.last.trial k.open_is.0.made ∙ ap (λ f. trial_of w.lasts (parent_in f c)) frame ∙ ap (trial_of w.lasts) e ∙ ap along_of u.last.there

    -- so its value is at most what the parent's solve takes for its cost
    below_cost : (n c : ℕ) (l : Lives p n) (u : UpToDate pools n) → parent_in (frame_of p) c ≡ Some n → 0 < c → (k : UpToDate pools c)
        → (cost : ℚ) → ((pool : Held) → slice_get (pools_in w) c ≡ Some pool → BoundsBelow u.last.last.along cost pool.cuts) → k.last.value ≤ℚ cost
    below_cost n c l u e low k cost bounds =
        let o : HasMember (pools_in w) c (IsAtLeast k.last.task.trial k.last.value) = offered c low k in
        let b : value_at_trial o.cut u.last.last.along ≤ℚ cost
        = each_found (λ (cut : Stored). (source_of cut).kind ≡ Bound → value_at_trial cut u.last.last.along ≤ℚ cost) o.pool.cuts o.cut (bounds o.pool o.there) o.member o.holds.0 in
        le_trans_ℚ o.holds.1 (subst (λ (t : List Entry). value_at_trial o.cut t ≤ℚ cost) (sym (child_trial n c l u k e)) b)

    cover_at : (n : ℕ) → Lives p n → (t : (Lives p n → ⊥) ⊎ UpToDate pools n) → told n ≡ t → CoversAt w.kind p w.lasts value_of n
    unfolding value_in value_of told
    cover_at n l (inl gone) e = absurd (gone l)
    cover_at n l (inr u) e = record {
      child_cost = k.child_cost;
      value_is = ap (value_in n) e ∙ k.value_is ∙ ap (λ (f : List Entry). product ((view_in w.kind p).cost n) (coefficient f)
          +ℚ sum_ℚ (λ c. share (view_in w.kind p) c *ℚ k.child_cost c) (children (view_in w.kind p) n))
          (sym (ap (λ (o : Option Last). point_entries (last_point o)) u.last.there));
      below = each-both {R = λ c. value_of c ≤ℚ k.child_cost c} (λ c f b. f b) (children (view_in w.kind p) n)
          (each-child (view_in w.kind p) (tree_in w.kind p i) n
          (λ c. ((pool : Held) → slice_get (pools_in w) c ≡ Some pool → BoundsBelow u.last.last.along (k.child_cost c) pool.cuts)
          → value_of c ≤ℚ k.child_cost c) child)
          (k.bounds (ap is_priced u.last.kind ∙ is_costly));
    }
      where
        k : CostsOver (view_in w.kind p) n (pools_in w) u.last.task.kind u.last.last.point u.last.last.along u.last.value
        k = costs pools n l u

        framed : IsFramed p (view_in w.kind p)
        framed = framed_in w.kind p i

        behind : (c : ℕ) → parent_in (frame_of p) c ≡ Some n → 0 < c
        behind zero q = absurd (cc)
        behind (suc c) q = omega arith

        at_most : (c : ℕ) → Lives p c → parent_in (frame_of p) c ≡ Some n → (s : (Lives p c → ⊥) ⊎ UpToDate pools c) → told c ≡ s
            → ((pool : Held) → slice_get (pools_in w) c ≡ Some pool → BoundsBelow u.last.last.along (k.child_cost c) pool.cuts)
            → value_of c ≤ℚ k.child_cost c
        at_most c lc q (inl gone) z b = absurd (gone lc)
        at_most c lc q (inr own) z b =
            subst (λ x. x ≤ℚ k.child_cost c) (sym (ap (value_in c) z)) (below_cost n c l u q (behind c q) own (k.child_cost c) b)

        child : (c : ℕ) → IsLiveIn (view_in w.kind p) c → is_child (view_in w.kind p) n c ≡ true
            → ((pool : Held) → slice_get (pools_in w) c ≡ Some pool → BoundsBelow u.last.last.along (k.child_cost c) pool.cuts)
            → value_of c ≤ℚ k.child_cost c
        child c lc q =
            let is : ChildIs (view_in w.kind p) n c = child-is (view_in w.kind p) n c q in
            let up : parent_in (frame_of p) c ≡ Some n
            = framed.later c ((view_in w.kind p).stage n) (framed.alive c lc) is.stage ∙ ap Some is.parent in
            at_most c (framed.alive c lc) up (told c) refl

    pub complete : IsComplete m
    complete n l = let o : IsOpen m n = closed n l in (o.0.made, o.1)

    -- the policy costs at most the value of the root's last solve
    pub cost_below : cost (view_in w.kind p) (at (joined_points w.lasts)) ≤ℚ value_of 0
    cost_below = values_cover w.kind p w.lasts value_of i (all_meet complete) (λ n l. cover_at n l (told n) refl)

    -- which is at most what the values of all last solves of the root are at most
    pub root_value : (z : ℚ) → ((h : HasLast p w m 0) → h.value ≤ℚ z) → Lives p 0 → value_of 0 ≤ℚ z
    unfolding value_in value_of told
    root_value z most l = go (told 0) refl
      where
        go : (t : (Lives p 0 → ⊥) ⊎ UpToDate pools 0) → told 0 ≡ t → value_of 0 ≤ℚ z
        go (inl gone) e = absurd (gone l)
        go (inr own) e = subst (λ x. x ≤ℚ z) (sym (ap (value_in 0) e)) (most own.last)
