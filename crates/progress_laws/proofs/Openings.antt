-- The method is never stuck before a run opens: behind a closed run that isn't settled, the next one has a dual that is good.
use Rattle.std.proofs.Common.{◌≡◌, ℕ, zero, suc, ◌+◌, ◌<◌, ◌≤◌, ◌^◌, inl, inr, Bool, true, false, ◌&&◌, List, [], ◌∷◌, map, length, Option, Some, None, Result, Ok, Err, IfSome, refl, sym, ap, subst, ◌∙◌, arith}
use Rattle.std.proofs.lemmas.List.{length-map}
use Rattle.std.specs.declared.cmp.Ordering.{Ordering}
use Rattle.std.specs.declared.cmp.Ordering.TheVariants.{Less, Equal, Greater}
use Rattle.std.specs.Ordering.{is_lt, MatchOrdering}
use Rattle.rationals.specs.Rational.{ℚ, zero_ℚ, one_ℚ, ◌≤ℚ◌, ◌<ℚ◌, le_trans_ℚ, le_of_same_ℚ, lt_le_ℚ}
use Rattle.rationals.specs.Order.{compare}
use Rattle.rationals.proofs.OrderMeaning.{compare_means}
use Rattle.rationals.specs.Passes.{Operation, then_value}
use Rattle.rationals.specs.Sparse.{Entry, Ascending}
use Rattle.scen_defs.specs.Lists.{Each, passes_at}
use Rattle.rationals.specs.Intervals.{InOrder}
use Rattle.scen_defs.specs.Ends.{IsGoodAt}
use Rattle.scen_defs.specs.Program.{Program, view_of, IsNode}
use Rattle.scen_defs.specs.Flat.{cost, IsGood, GoodAt, value, reduced, recession, zero_row}
use Rattle.scen_defs.specs.Valid.{IsProgram, Lives}
use Rattle.scen_defs.specs.Values.{At, at}
use Rattle.scen_defs.specs.declared.program.NodeRow.{NodeRow}
use Rattle.scen_defs.specs.declared.report.Kind.{Kind}
use Rattle.scen_defs.specs.declared.report.Kind.TheVariants as run_kind
use Rattle.scen_defs.proofs.SumLaws.{each-map, each-once}
use Rattle.scen_defs.proofs.EndLaws.{good-zero, good-if}
use Rattle.scen_defs.proofs.Runs.{recession_makes_good}
use Rattle.scen_tree.specs.Trees.{Tree, tree_walk}
use Rattle.cut_defs.specs.Cuts.{priced}
use Rattle.cut_defs.specs.Data.{RowsRise}
use Rattle.cut_defs.specs.declared.kinds.CutKind.{CutKind}
use Rattle.cut_defs.specs.declared.kinds.CutKind.TheVariants.{Bound}
use Rattle.cut_defs.specs.Stored.{Stored, source_of, constant_of}
use Rattle.cut_defs.proofs.Present.{each_unmap, each_mapped}
use Rattle.cut_banks.specs.declared.banks.Banks.{Banks}
use Rattle.cut_banks.specs.Banks.{pools_of}
use Rattle.cut_banks.specs.Pools.{may_put}
use Rattle.dual_assemble.specs.Values.{assembled, numbers_by_node}
use Rattle.dual_assemble.specs.Walks.{flat_from}
use Rattle.dual_assemble.specs.Laws.{flat_of}
use Rattle.edit_defs.specs.Data.{view_in, book}
use Rattle.edit_defs.proofs.Lists.{each-all}
use Rattle.node_lp.specs.Problem.{is_priced}
use Rattle.pass_table.specs.Machine.{Machine, IsOpen, IsClosed, IsComplete}
use Rattle.pass_table.specs.Marks.{nothing}
use Rattle.node_data.specs.Counts.{version_of}
use Rattle.node_data.specs.Frames.{Frame, parent_of}
use Rattle.node_data.specs.declared.versions.Version.{Version}
use Rattle.found_ends.specs.declared.ends.Priced.{Priced}
use Rattle.found_ends.specs.declared.settled.Settled.TheVariants.{Unbounded}
use Rattle.found_ends.specs.Ends.{below, falls}
use Rattle.found_ends.specs.Lasts.{joined_points}
use Rattle.found_ends.specs.Settled.{settled, ended, or_case, where_so}
use Rattle.pass_core.specs.declared.state.State.{State}
use Rattle.pass_core.specs.Assembled.{AssemblesWell}
use Rattle.pass_core.specs.Grounds.{OpeningDual, put_cut, CanPutInPool, CanPutCuts, IsNotPut, OneIsNotPut}
use Rattle.pass_core.specs.Left.{next_kind}
use Rattle.pass_core.specs.Made.{run_book, script_books, IsMadeAbout, CutsAreMade}
use Rattle.crew_turns.proofs.Beside.{fit_besides}
use Rattle.pass_core.specs.Desks.{IsDesk}
use Rattle.pass_core.specs.Turns.{datum_in, IsStuckBefore, not_made, not_put}
use Rattle.pass_core.proofs.Assembling.{roots_assemble_well}
use Rattle.pass_core.proofs.Parentage.{root_lives}
use Rattle.joined_laws.proofs.Costs.{joined_points_cost}
use Rattle.joined_laws.proofs.Places.{tree_in}
use Rattle.nested_method.specs.Stands.{settled_in}
use Rattle.progress_laws.specs.Stuck.{OpeningsAreMade}
use Rattle.progress_laws.proofs.Standing.{known_of, PoolStands, runs_before, HasLast, HasCost, StandsBy}
use Rattle.progress_laws.proofs.Kept.{IsStanding, unstopped, run_stands, run_held}
use Rattle.progress_laws.proofs.Held.{IsHeld}
use Rattle.progress_laws.proofs.Meeting.{some_is}
use Rattle.progress_laws.proofs.Policies.{all_meet, complete, cost_below, root_value}
use Rattle.kept_cut_laws.specs.Kept.{IsCutNow}
use Rattle.kept_cut_laws.proofs.FirstCuts.{first_cuts_are_kept}
use Rattle.progress_laws.proofs.PoolSteps.{first_at, can_put_all, pool_stands}
use Rattle.progress_laws.proofs.FirstCutsMade.{HasParts, parts_of}
use Rattle.progress_laws.proofs.RootForms.{numbers_are_flat}
use Rattle.progress_laws.proofs.GoodDuals.{lives_in, makes_one}

-- ---- the pools take the cuts
none_refused : (kind : Kind) (cut : Stored) (b : Banks) (n : ℕ) → (source_of cut).node ≡ n → CanPutInPool kind n cut b → IsNotPut kind b cut → ⊥
none_refused kind cut b zero e can h = h.above e
none_refused kind cut b (suc n) e can h =
    let q : true ≡ false = sym can ∙ ap (λ k. passes_at (may_put cut) k (pools_of kind b)) (sym e) ∙ h.refused in absurd (cc)

all_put : (kind : Kind) (places : List (Option Stored)) (b : Banks) → CanPutCuts kind places b → OneIsNotPut kind places b → ⊥
all_put kind [] b can h = h
all_put kind (None ∷ places) b can (inl h) = h
all_put kind (Some cut ∷ places) b can (inl h) = none_refused kind cut b (source_of cut).node refl can.0 h
all_put kind (place ∷ places) b can (inr h) = all_put kind places (put_cut kind place b) can.1 h

-- ---- the parts of the data of the next run
zero_rows : (k : ℕ) (rows : List NodeRow) → RowsRise k rows → RowsRise k (map zero_row rows)
zero_rows k [] h = tt
zero_rows k (r ∷ rows) h = (h.0, zero_rows (suc r.row) rows h.1)

rows_zero : (k : ℕ) (rows : List NodeRow) → RowsRise k (map zero_row rows) → RowsRise k rows
rows_zero k [] h = tt
rows_zero k (r ∷ rows) h = (h.0, rows_zero (suc r.row) rows h.1)

ends_in : (kind : Kind) (p : Program) → IsProgram p → (n : ℕ) → Lives p n
    → Each (λ (r : NodeRow). InOrder r.low r.high) ((view_in kind p).rows n)
ends_in kind p i n l =
    let node : IsNode (view_in kind p) n
    = each-once (IsNode (view_in kind p)) n (view_in kind p).live (lives_in kind p n l) (tree_in kind p i).nodes in
    each-map {Q = λ (r : NodeRow). InOrder r.low r.high} (λ r h. h.in_order) ((view_in kind p).rows n) node.rows

next_parts : (k : Kind) (p : Program) → IsProgram p → (n : ℕ) → Lives p n → (version : Version) → HasParts (datum_in k p n version)
    → HasParts (datum_in (next_kind k) p n version)
next_parts run_kind.Feasible p i n l version h = record {
  rows = zero_rows 0 ((view_of p).rows n) h.rows;
  forms = each_mapped (λ (r : NodeRow). Ascending 0 r.entries) zero_row ((view_of p).rows n) h.forms;
  ends = ends_in run_kind.Recession p i n l;
  shares = h.shares;
  above = h.above;
}
next_parts run_kind.Recession p i n l version h = record {
  rows = rows_zero 0 ((view_of p).rows n) h.rows;
  forms = each_unmap (λ (r : NodeRow). Ascending 0 r.entries) zero_row ((view_of p).rows n) h.forms;
  ends = ends_in run_kind.Cost p i n l;
  shares = h.shares;
  above = h.above;
}
next_parts run_kind.Cost p i n l version h = h

-- ---- the dual that is 0 everywhere is good for the recession
zero_is_good : (p : Program) → IsGood (view_in run_kind.Recession p) (at [])
zero_is_good p = each-all {P = GoodAt (view_in run_kind.Recession p) (at [])} (λ n. record {
  rows = each-all {P = λ (r : NodeRow). IsGoodAt r.low r.high zero_ℚ} (λ r. good-zero r.low r.high) ((view_in run_kind.Recession p).rows n);
  bounds = each-all {P = λ j. IsGoodAt ((view_in run_kind.Recession p).lower j) ((view_in run_kind.Recession p).upper j)
      (reduced (view_in run_kind.Recession p) (at []) n j)}
      (λ j. good-if ((view_in run_kind.Recession p).lower j) ((view_in run_kind.Recession p).upper j)
      (reduced (view_in run_kind.Recession p) (at []) n j) (record { when_above = λ q. tt; when_below = λ q. tt }))
      ((view_in run_kind.Recession p).columns ((view_in run_kind.Recession p).stage n));
}) (view_in run_kind.Recession p).live

-- ---- comparisons
not_less : (a b : ℚ) → below a b ≡ false → b ≤ℚ a
not_less a b e = go (compare a b) (compare_means a b) e
  where
    go : (o : Ordering) → MatchOrdering o (a <ℚ b) (a ≡ b) (b <ℚ a) → is_lt o ≡ false → b ≤ℚ a
    go Less h e = absurd (cc)
    go Equal h e = le_of_same_ℚ (sym h)
    go Greater h e = lt_le_ℚ h

no_fall : (o : Option Priced) (u : Priced) → o ≡ Some u → falls o ≡ false → zero_ℚ ≤ℚ u.cost
no_fall None u e f = absurd (cc)
no_fall (Some d) u e f = let same : d ≡ u = cc in subst (λ (x : Priced). zero_ℚ ≤ℚ x.cost) same (not_less d.cost zero_ℚ f)

recession_costs : (p : Program) (x : ℕ → ℕ → ℚ) → cost (view_in run_kind.Recession p) x ≡ cost (view_of p) x
unfolding cost
recession_costs p x = refl

assembled_is : (w : Result (List (List Entry)) Operation) (dual : List At) → then_value (numbers_by_node 0) w ≡ Ok dual
    → (fs : List (List Entry)) × ((w ≡ Ok fs) × (numbers_by_node 0 fs ≡ dual))
assembled_is (Ok fs) dual e = (fs, (refl, cc))
assembled_is (Err o) dual e = absurd (cc)

module _ (p : Program) (tree : Tree) (i : IsProgram p) (few : length p.nodes < nothing) (t : tree_walk p ≡ Ok tree) (s : State) (m : Machine)
    (standing : IsStanding p tree s) (made : CutsAreMade (script_books p []) s) (most : ℕ) (held : IsHeld p most s)
    (small : most + s.counts.all < 2 ^ 63)
    (table : IsDesk p s m) (open_yet : settled_in s ≡ None) (closed : IsClosed m) (earlier : s.kind ≡ run_kind.Cost → ⊥)
    (flat : (cut : Stored) (fs : List (List Entry)) → s.ends.root ≡ Some cut → IsMadeAbout (book run_kind.Recession p []) 0 cut
    → flat_from [] one_ℚ cut ≡ Ok fs → flat_of fs ≡ at (numbers_by_node 0 fs)) where
  stands : StandsBy p tree (known_of s) m
  stands = standing.stands m table

  -- each live node was solved, so its datum has what a ground cut is made from
  parts : (n : ℕ) → Lives p n → HasParts (datum_in (next_kind s.kind) p n (version_of s.versions n))
  parts n l =
      let o : IsOpen m n = closed n (table.machine.live n ∙ l) in
      let own : HasLast p (known_of s) m n = stands.lasts n (table.machine.live n ∙ l) o.0.made.solved o.1 in
      next_parts s.kind p i n l (version_of s.versions n) (subst HasParts own.datum (parts_of own.task own.fits))

  -- ---- behind a Recession run
  module _ (recedes : s.kind ≡ run_kind.Recession) where
    is_costly : is_priced s.kind ≡ true
    is_costly = ap is_priced recedes

    enough : length p.nodes ≤ length (pools_of s.kind s.banks)
    enough = subst (λ (k : Kind). length p.nodes ≤ length (pools_of k s.banks)) (sym recedes)
        (let q : length s.frame.parents ≡ length p.nodes = ap (λ (f : Frame). length f.parents) standing.frame ∙ length-map p.nodes parent_of in
        omega (arith, table.pools.cone, q))

    all_open : IsComplete m
    all_open = complete p i (known_of s) m standing.frame table.machine.live stands.lasts closed is_costly enough

    known_cost : HasCost p tree (known_of s)
    known_cost = stands.complete all_open

    -- its direction doesn't fall, since it isn't settled
    no_falls : falls s.ends.direction ≡ false
    no_falls =
        let q : settled run_kind.Recession s.table.closed s.ends s.stop s.counts.since_report s.budget.solves ≡ None
        = subst (λ (k : Kind). settled k s.table.closed s.ends s.stop s.counts.since_report s.budget.solves ≡ None) recedes open_yet in
        let z : or_case (where_so (falls s.ends.direction) Unbounded) (ended s.stop s.counts.since_report s.budget.solves) ≡ None
        = subst (λ (b : Bool). or_case (where_so (b && falls s.ends.direction) Unbounded) (ended s.stop s.counts.since_report s.budget.solves) ≡ None)
        ((fit_besides.closed s.table m table.fits).1 closed) q in
        go (falls s.ends.direction) z
      where
        go : (b : Bool) → or_case (where_so b Unbounded) (ended s.stop s.counts.since_report s.budget.solves) ≡ None → b ≡ false
        go true z = absurd (cc)
        go false z = refl

    cost_above : zero_ℚ ≤ℚ cost (view_in run_kind.Recession p) (at (joined_points s.lasts.nodes.items))
    cost_above =
        let d = known_cost.direction recedes in
        subst (λ z. zero_ℚ ≤ℚ z) (d.1.1 ∙ joined_points_cost s.kind p s.lasts.nodes.items tree known_cost.cost i
        (all_meet p i (known_of s) m standing.frame table.machine.live stands.lasts all_open) t known_cost.costs
        ∙ sym (recession_costs p (at (joined_points s.lasts.nodes.items))))
        (no_fall s.ends.direction d.0 d.1.0 no_falls)

    root_open : IsOpen m 0
    root_open = closed 0 (table.machine.live 0 ∙ root_lives p i)

    root_last : HasLast p (known_of s) m 0
    root_last = stands.lasts 0 (table.machine.live 0 ∙ root_lives p i) root_open.0.made.solved root_open.1

    module _ (cut : Stored) (there : s.ends.root ≡ Some cut) where
      root_most : (h : HasLast p (known_of s) m 0) → h.value ≤ℚ constant_of cut
      root_most h =
          let c = h.root recedes refl in
          let e : c.0 ≡ cut = some_is c.0 cut (sym c.1.0 ∙ there) in
          le_of_same_ℚ (c.1.1 ∙ ap constant_of e)

      is_bound : (source_of cut).kind ≡ Bound
      is_bound =
          let c = root_last.root recedes refl in
          let e : c.0 ≡ cut = some_is c.0 cut (sym c.1.0 ∙ there) in
          subst (λ (x : Stored). (source_of x).kind ≡ Bound) e c.1.2

      constant_above : zero_ℚ ≤ℚ constant_of cut
      constant_above = le_trans_ℚ cost_above
          (subst (λ (k : Kind). cost (view_in k p) (at (joined_points s.lasts.nodes.items)) ≤ℚ constant_of cut) recedes
          (le_trans_ℚ (cost_below p i (known_of s) m standing.frame table.machine.live stands.lasts closed is_costly enough)
          (root_value p i (known_of s) m standing.frame table.machine.live stands.lasts closed is_costly enough (constant_of cut) root_most (root_lives p i))))

      root_made : IsMadeAbout (book run_kind.Recession p []) 0 cut
      root_made = subst (λ (k : Kind). IsMadeAbout (run_book k (script_books p [])) 0 cut) recedes
          (subst (λ o. IfSome o (IsMadeAbout (run_book s.kind (script_books p [])) 0)) there made.1.root)

      root_is_good : (dual : List At) → assembled cut ≡ Ok dual → IsGood (view_of p) (at dual)
      root_is_good dual e =
          let f = assembled_is (flat_from [] one_ℚ cut) dual e in
          let w : AssemblesWell run_kind.Recession p cut = roots_assemble_well run_kind.Recession p cut i root_made in
          let g : IsGood (recession (view_of p)) (flat_of f.0) = subst (λ (k : CutKind). IsGood (priced (view_in run_kind.Recession p) k) (flat_of f.0)) is_bound (w.good f.0 f.1.0) in
          let v : constant_of cut ≤ℚ value (recession (view_of p)) (flat_of f.0) = subst (λ (k : CutKind). constant_of cut ≤ℚ value (priced (view_in run_kind.Recession p) k) (flat_of f.0)) is_bound (w.worth f.0 f.1.0) in
          subst (λ (l : List At). IsGood (view_of p) (at l)) f.1.1
          (subst (IsGood (view_of p)) (flat cut f.0 there root_made f.1.0)
          (recession_makes_good (view_of p) (flat_of f.0) (tree_in run_kind.Cost p i) g (le_trans_ℚ constant_above v)))

    opening_is_good : (root : Option Stored) → s.ends.root ≡ root → (dual : List At) → OpeningDual run_kind.Recession root dual → IsGood (view_of p) (at dual)
    opening_is_good None e dual o =
        let c = root_last.root recedes refl in let q : None ≡ Some c.0 = sym e ∙ c.1.0 in absurd (cc)
    opening_is_good (Some cut) e dual o = root_is_good cut e dual o

  -- ---- the dual with which the next run opens
  dual_is_good : (k : Kind) → s.kind ≡ k → (dual : List At) → OpeningDual k s.ends.root dual → IsGood (view_in (next_kind k) p) (at dual)
  dual_is_good run_kind.Feasible e dual o = subst (λ (l : List At). IsGood (view_in run_kind.Recession p) (at l)) (sym o) (zero_is_good p)
  dual_is_good run_kind.Recession e dual o = opening_is_good e s.ends.root refl dual o
  dual_is_good run_kind.Cost e dual o = absurd (earlier e)

  -- the pools stand, so they take its first cuts
  pool_at : (k : Kind) (n : ℕ) → Lives p n → PoolStands p s.versions held.count (pools_of k s.banks) n
  pool_at k n l = pool_stands p s held.count standing.frame m table held.kept k n l

  at_most_two : (k : Kind) → runs_before k ≤ 2
  at_most_two run_kind.Feasible = omega arith
  at_most_two run_kind.Recession = omega arith
  at_most_two run_kind.Cost = omega arith

  few_changes : held.count < 18446744073709551615
  few_changes = omega (arith, held.few (omega (arith, small)), small, at_most_two s.kind)

  pub never_stuck_before : IsStuckBefore p tree s → ⊥
  never_stuck_before (not_made dual opening e) =
      makes_one (next_kind s.kind) p tree i t s.versions dual (dual_is_good s.kind refl dual opening) parts e.cuts (e.node + 1) e.behind.there
      e.node refl e.lives e.walk
  never_stuck_before (not_put dual cuts opening are h) =
      all_put (next_kind s.kind) cuts s.banks
      (can_put_all p s.versions (next_kind s.kind) held.count few_changes 0 cuts s.banks (first_at (next_kind s.kind) p tree s.versions dual cuts are)
      (λ n cut q. let z : n ≡ 0 + n = omega arith in
      subst (λ (j : ℕ). IsCutNow p s.versions j cut) z
      (subst (λ o. IfSome o (IsCutNow p s.versions n)) q (first_cuts_are_kept.cuts (next_kind s.kind) p tree s.versions dual cuts i are n)))
      (λ n cut q. let z : n ≡ 0 + n = omega arith in
      subst (PoolStands p s.versions held.count (pools_of (next_kind s.kind) s.banks)) z (pool_at (next_kind s.kind) n (are.only n cut q)))) h

pub openings_are_made : OpeningsAreMade
openings_are_made p s m tree r small table open_yet closed earlier t stuck =
    let stop : s.stop ≡ None = unstopped s open_yet in
    let same : tree ≡ r.tree = (let q : Ok tree ≡ Ok r.tree = sym t ∙ r.walk in cc) in
    never_stuck_before p tree r.program r.few t s m (subst (λ (x : Tree). IsStanding p x s) (sym same) (run_stands p s r stop))
    (run_held p s r).made r.most (run_held p s r) small table open_yet closed earlier
    (λ cut fs there made e. numbers_are_flat p s cut fs r stop there made e) stuck
