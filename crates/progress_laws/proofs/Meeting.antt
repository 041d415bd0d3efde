-- In a closed Cost run the ends meet.
use Rattle.std.proofs.Common.{◌≡◌, ◌<◌, ◌≤◌, Bool, true, [], Some, Ok, IfSome, length, refl, sym, ap, subst, ◌∙◌, arith}
use Rattle.std.proofs.lemmas.List.{length-map}
use Rattle.std.specs.declared.cmp.Ordering.{Ordering}
use Rattle.std.specs.declared.cmp.Ordering.TheVariants.{Less, Equal, Greater}
use Rattle.std.specs.Ordering.{is_eq, MatchOrdering}
use Rattle.rationals.specs.Rational.{ℚ, ◌≤ℚ◌, ◌<ℚ◌, le_trans_ℚ, le_of_same_ℚ, not_le_of_lt_ℚ}
use Rattle.rationals.specs.Order.{compare, same}
use Rattle.rationals.proofs.OrderMeaning.{compare_means}
use Rattle.scen_defs.specs.Program.{Program, view_of}
use Rattle.scen_defs.specs.Flat.{Feasible, cost, IsGood, value}
use Rattle.scen_defs.specs.Values.{at}
use Rattle.scen_defs.specs.Valid.{IsProgram}
use Rattle.scen_defs.specs.declared.report.Kind.{Kind}
use Rattle.scen_defs.specs.declared.report.Kind.TheVariants as run_kind
use Rattle.scen_defs.proofs.Duality.{weak_duality}
use Rattle.scen_tree.specs.Trees.{Tree, tree_walk}
use Rattle.cut_defs.specs.Cuts.{priced}
use Rattle.cut_defs.specs.Stored.{source_of, constant_of}
use Rattle.cut_defs.specs.declared.kinds.CutKind.{CutKind}
use Rattle.cut_defs.specs.declared.kinds.CutKind.TheVariants.{Bound}
use Rattle.cut_banks.specs.Banks.{pools_of}
use Rattle.edit_defs.specs.Data.{view_in, book}
use Rattle.node_lp.specs.Problem.{is_priced}
use Rattle.pass_table.specs.Machine.{Machine, IsOpen, IsClosed, IsComplete}
use Rattle.pass_table.specs.Marks.{nothing}
use Rattle.node_data.specs.Frames.{Frame, parent_of}
use Rattle.found_ends.specs.declared.ends.Priced.{Priced}
use Rattle.found_ends.specs.declared.ends.Bounded.{Bounded}
use Rattle.found_ends.specs.declared.settled.Settled.TheVariants.{Optimal}
use Rattle.found_ends.specs.Ends.{meet}
use Rattle.found_ends.specs.Lasts.{joined_points}
use Rattle.found_ends.specs.Settled.{settled, ended, or_case, where_so}
use Rattle.pass_core.specs.declared.state.State.{State}
use Rattle.pass_core.specs.Made.{script_books, IsMadeAbout, CutsAreMade}
use Rattle.pass_core.specs.Desks.{IsDesk}
use Rattle.pass_core.proofs.Parentage.{root_lives}
use Rattle.pass_core.proofs.Assembling.{root_is_worth}
use Rattle.joined_laws.proofs.Places.{tree_in}
use Rattle.joined_laws.proofs.Costs.{joined_points_cost}
use Rattle.nested_method.specs.Stands.{settled_in}
use Rattle.progress_laws.specs.Laws.{ClosedRunsMeet}
use Rattle.progress_laws.proofs.Standing.{Known, known_of, HasLast, HasCost, StandsBy}
use Rattle.progress_laws.proofs.Kept.{IsStanding, run_stands, run_held}
use Rattle.progress_laws.proofs.Policies.{all_meet, complete, cost_below, root_value}

-- numbers of which each is at most the other compare as the same
both_same : (a b : ℚ) → a ≤ℚ b → b ≤ℚ a → same a b ≡ true
both_same a b x y = go (compare a b) (compare_means a b)
  where
    go : (o : Ordering) → MatchOrdering o (a <ℚ b) (a ≡ b) (b <ℚ a) → is_eq o ≡ true
    go Less h = absurd (not_le_of_lt_ℚ h y)
    go Equal h = refl
    go Greater h = absurd (not_le_of_lt_ℚ h x)

pub some_is : {A : Type 0} (a b : A) → Some a ≡ Some b → a ≡ b
some_is a b e = cc

module _ (p : Program) (tree : Tree) (i : IsProgram p) (few : length p.nodes < nothing) (t : tree_walk p ≡ Ok tree) (s : State) (m : Machine)
    (standing : IsStanding p tree s) (made : CutsAreMade (script_books p []) s) (table : IsDesk p s m) (closed : IsClosed m) (costly : s.kind ≡ run_kind.Cost) where
  w : Known
  w = known_of s

  stands : StandsBy p tree (known_of s) m
  stands = standing.stands m table

  is_costly : is_priced s.kind ≡ true
  is_costly = ap is_priced costly

  -- there is a pool for each node
  enough : length p.nodes ≤ length (pools_of s.kind s.banks)
  enough = subst (λ (k : Kind). length p.nodes ≤ length (pools_of k s.banks)) (sym costly)
      (let q : length s.frame.parents ≡ length p.nodes = ap (λ (f : Frame). length f.parents) standing.frame ∙ length-map p.nodes parent_of in
      omega (arith, table.pools.plain, q))

  all_open : IsComplete m
  all_open = complete p i (known_of s) m standing.frame table.machine.live stands.lasts closed is_costly enough

  known_cost : HasCost p tree (known_of s)
  known_cost = stands.complete all_open

  not_recession : s.kind ≡ run_kind.Recession → ⊥
  not_recession e = let q : run_kind.Cost ≡ run_kind.Recession = sym costly ∙ e in absurd (cc)

  best : Priced
  best = (known_cost.upper not_recession).0

  upper_is : s.ends.upper ≡ Some best
  unfolding best known_cost
  upper_is = (known_cost.upper not_recession).1.0

  -- the root's last solve, by which there is a lower end
  root_open : IsOpen m 0
  root_open = closed 0 (table.machine.live 0 ∙ root_lives p i)

  root_last : HasLast p (known_of s) m 0
  root_last = stands.lasts 0 (table.machine.live 0 ∙ root_lives p i) root_open.0.made.solved root_open.1

  least : Bounded
  least = (root_last.lower costly refl).0

  lower_is : s.ends.lower ≡ Some least
  unfolding least root_last
  lower_is = (root_last.lower costly refl).1.0

  -- the policy costs at most the lower end
  cost_same : known_cost.cost ≡ cost (view_of p) (at (joined_points s.lasts.nodes.items))
  cost_same = joined_points_cost s.kind p s.lasts.nodes.items tree known_cost.cost i
      (all_meet p i (known_of s) m standing.frame table.machine.live stands.lasts all_open) t known_cost.costs

  root_most : (h : HasLast p (known_of s) m 0) → h.value ≤ℚ least.value
  root_most h =
      let b = h.lower costly refl in
      let e : b.0 ≡ least = some_is b.0 least (sym b.1.0 ∙ lower_is) in
      subst (λ (x : Bounded). h.value ≤ℚ x.value) e b.1.1

  in_cost : (k : Kind) → k ≡ run_kind.Cost → cost (view_in k p) (at (joined_points s.lasts.nodes.items)) ≡ cost (view_of p) (at (joined_points s.lasts.nodes.items))
  in_cost k e = ap (λ (k : Kind). cost (view_in k p) (at (joined_points s.lasts.nodes.items))) e

  upper_below : best.cost ≤ℚ least.value
  unfolding best known_cost
  upper_below = le_trans_ℚ (known_cost.upper not_recession).1.1
      (subst (λ z. z ≤ℚ least.value) (in_cost s.kind costly ∙ sym cost_same)
      (le_trans_ℚ (cost_below p i (known_of s) m standing.frame table.machine.live stands.lasts closed is_costly enough)
      (root_value p i (known_of s) m standing.frame table.machine.live stands.lasts closed is_costly enough least.value root_most (root_lives p i))))

  -- the lower end is at most what any feasible policy costs
  lower_facts : (least.value ≡ constant_of least.cut) × ((source_of least.cut).kind ≡ Bound)
  lower_facts = subst (λ o. IfSome o (λ (l : Bounded). (l.value ≡ constant_of l.cut) × ((source_of l.cut).kind ≡ Bound))) lower_is stands.ends.lower

  lower_made : IsMadeAbout (book run_kind.Cost p []) 0 least.cut
  lower_made = subst (λ o. IfSome o (λ (l : Bounded). IsMadeAbout (book run_kind.Cost p []) 0 l.cut)) lower_is made.1.lower

  upper_facts : Feasible (view_of p) (at best.policy) × (cost (view_of p) (at best.policy) ≡ best.cost)
  upper_facts = subst (λ o. IfSome o (λ (u : Priced). Feasible (view_of p) (at u.policy) × (cost (view_of p) (at u.policy) ≡ u.cost))) upper_is stands.ends.upper

  lower_below : least.value ≤ℚ best.cost
  lower_below =
      let y = root_is_worth run_kind.Cost p least.cut i lower_made in
      let g : IsGood (view_of p) y.0 × (constant_of least.cut ≤ℚ value (view_of p) y.0)
      = subst (λ (k : CutKind). IsGood (priced (view_of p) k) y.0 × (constant_of least.cut ≤ℚ value (priced (view_of p) k) y.0)) lower_facts.1 y.1 in
      le_trans_ℚ (le_of_same_ℚ lower_facts.0) (le_trans_ℚ g.1
      (subst (λ z. value (view_of p) y.0 ≤ℚ z) upper_facts.1 (weak_duality (view_of p) (at best.policy) y.0 (tree_in run_kind.Cost p i) upper_facts.0 g.0)))

  ends_meet : meet s.ends.lower s.ends.upper ≡ true
  ends_meet = ap (λ o. meet o s.ends.upper) lower_is ∙ ap (meet (Some least)) upper_is ∙ both_same least.value best.cost lower_below upper_below

  pub is_optimal : settled_in s ≡ Some Optimal
  is_optimal = ap (λ (k : Kind). settled k s.table.closed s.ends s.stop s.counts.since_report s.budget.solves) costly
      ∙ ap (λ (b : Bool). or_case (where_so b Optimal) (ended s.stop s.counts.since_report s.budget.solves)) ends_meet

pub closed_runs_meet : ClosedRunsMeet
closed_runs_meet p s m r table closed costly stop =
    is_optimal p r.tree r.program r.few r.walk s m (run_stands p s r stop)
    (run_held p s r).made table closed costly
