-- Cuts that are made for a book stay so where pools and ends change, and what solves and duals give is made for it.
use Rattle.std.proofs.Common.{◌≡◌, ℕ, zero, suc, ◌+◌, ◌-◌, ◌^◌, ◌<◌, ◌≤◌, min, Bool, true, false, ◌||◌, eqb, List, [], ◌∷◌, ◌++◌, Option, Some, None, Result, Ok, Err, IfOk, IfSome, IsSomeAnd, is_some, slice_get, slice_set, slice_index_or, get_or, length, replicate, map, arith, refl, sym, ap, ap₂, subst, ◌∙◌, eqb-true, eq-eqb}
use Rattle.std.specs.Option.{option_map, option_to_list}
use Rattle.std.proofs.Math.ListN.{length-set}
use Rattle.std.proofs.lemmas.List.{length-map, get_or-set_same, get_or-set_other}
use Rattle.rationals.specs.Passes.{Operation}
use Rattle.rationals.specs.Rational.{ℚ, zero_ℚ, ◌<ℚ◌}
use Rattle.rationals.specs.Forms.{is_zero}
use Rattle.rationals.specs.Sparse.{Entry}
use Rattle.rationals.specs.Choices.{pick}
use Rattle.scen_defs.specs.Lists.{Each, is_in, places, passes_at}
use Rattle.scen_defs.specs.declared.program.Node.{Node as NodeOf}
use Rattle.scen_defs.specs.Program.{Program, View, is_live, node_at, nodes_content, IsLive, IsTree}
use Rattle.scen_defs.specs.Flat.{children}
use Rattle.scen_defs.specs.Valid.{HasParent, IsProgram, Lives}
use Rattle.scen_defs.specs.Values.{At, at}
use Rattle.scen_defs.specs.declared.report.Kind.{Kind}
use Rattle.scen_defs.specs.declared.report.Kind.TheVariants as run_kind
use Rattle.scen_defs.proofs.SumLaws.{each-map, each-once}
use Rattle.scen_defs.proofs.Subtrees.{ChildIs, child-is}
use Rattle.scen_defs.proofs.Valid.{each-place}
use Rattle.scen_defs.proofs.ValueLaws.{each-push}
use Rattle.cut_defs.specs.declared.kinds.CutKind.{CutKind}
use Rattle.cut_defs.specs.declared.kinds.CutKind.TheVariants.{Bound, Ray}
use Rattle.cut_defs.specs.declared.datum.Share.{Share}
use Rattle.cut_defs.specs.Data.{Datum, IsDatum, Book, share_of}
use Rattle.cut_defs.specs.Stored.{Source, Stored, StoredUses, source_of, uses_of, constant_of, form_of, IsMadeFrom, IsMadeFor, AreMadeFor, IsDatumFor, IsStoredUse}
use Rattle.cut_defs.specs.Stored.Stored.{Stored_of}
use Rattle.cut_defs.specs.Stored.StoredUses.{No_stored, Use_stored}
use Rattle.cut_defs.proofs.CutLaws.{each-child}
use Rattle.cut_defs.proofs.MadeFor.{cuts_are_made_for}
use Rattle.cut_proof.specs.declared.fault.CutFault.{CutFault}
use Rattle.cut_proof.specs.Answers.{Makes}
use Rattle.cut_proof.specs.Conditions.{UsesChildren}
use Rattle.edit_defs.specs.Data.{view_in}
use Rattle.edit_defs.proofs.Lists.{passes-within, each-append, each-mapped, each-unmapped}
use Rattle.edit_defs.proofs.EditLaws.{scripts_make_books}
use Rattle.cut_proof.specs.Repairing.{snoc}
use Rattle.cut_proof.proofs.MadeFrom.{made_parts}
use Rattle.cut_sums.specs.Walks.{made}
use Rattle.rationals.proofs.WalkLaws.{ended}
use Rattle.dual_assemble.specs.Ground.{quotients_from, uses_of_children, ground_source, ground_walk, AreOfChildren, IsGroundFrom}
use Rattle.cut_pool.specs.Held.{Held}
use Rattle.cut_pool.specs.Laws.{AllMadeFor}
use Rattle.cut_pool.specs.Pool.{after_offer}
use Rattle.cut_pool.specs.declared.offer.Offer.{Offer}
use Rattle.cut_pool.specs.declared.offer.Offer.TheVariants as offer
use Rattle.cut_banks.specs.declared.banks.Banks.{Banks}
use Rattle.cut_banks.specs.Banks.{pools_of, with_pools}
use Rattle.cut_banks.specs.Pools.{cuts_of, cuts_at, cuts_read, with_pool}
use Rattle.cut_proof.specs.declared.child.ChildCuts.{ChildCuts}
use Rattle.node_lp.specs.declared.task.Task.{Task}
use Rattle.node_lp.specs.declared.solved.Solved.{Solved}
use Rattle.node_lp.specs.declared.solved.Solved.TheVariants as solved
use Rattle.node_lp.specs.Problem.{is_priced, is_taken}
use Rattle.node_lp.specs.Stored.{stored_uses}
use Rattle.node_lp.specs.Told.{stored_of, stored_cuts, cut_made, with_cut, told, told_of}
use Rattle.node_lp.specs.Tested.{IsToldOf}
use Rattle.node_lp.specs.declared.found.Found.{Found}
use Rattle.node_lp.specs.declared.found.Found.TheVariants as found
use Rattle.node_lp.specs.Answers.{IsCutOf, IsAnswer}
use Rattle.node_lp.specs.Weighed.{Weighed}
use Rattle.scen_tree.specs.Trees.{Tree, position_of, is_below, children_of}
use Rattle.node_data.specs.Frames.{Frame, parent_of, frame_of, children_in}
use Rattle.node_data.specs.NodeData.{share_in}
use Rattle.node_data.proofs.TreeReads.{children_at}
use Rattle.found_ends.specs.declared.ends.Priced.{Priced}
use Rattle.found_ends.specs.declared.ends.Bounded.{Bounded}
use Rattle.found_ends.specs.declared.ends.Ends.{Ends}
use Rattle.found_ends.specs.Ends.{raises, greater_end, after_root, after_policy}
use Rattle.node_data.specs.declared.versions.Version.{Version}
use Rattle.node_data.specs.Counts.{version_of}
use Rattle.pass_core.specs.declared.state.State.{State}
use Rattle.pass_core.specs.Counting.{after_answer}
use Rattle.pass_core.specs.Explained.{cut_given}
use Rattle.pass_core.specs.Turns.{datum_in, IsTaskOf}
use Rattle.pass_core.specs.Made.{BankBooks, run_book, AreBooksOf, IsMadeAbout, PoolsAreMade, EndsAreMade, KeepsMade, IsGroundOf, HasGrounds, cuts_there}
use Rattle.pass_core.proofs.Parentage.{below_live}

-- ---- pools whose cuts have a property
module _ (P : Stored → Type 0) where
  abbrev pub AllHave : Held → Type 0
  AllHave p = Each P p.cuts

  pub offered_have : (p : Held) (cut : Stored) (answer : Offer) → P cut → AllHave p → AllHave (after_offer p cut answer)
  offered_have p cut offer.Added q h = each-push P p.cuts cut h q
  offered_have p cut (offer.NotNeeded value) q h = h
  offered_have p cut (offer.Stale node part seen known) q h = h
  offered_have p cut (offer.Passed o) q h = h

  -- one pool changes
  pub changed_have : (test : Held → Bool) (change : Held → Held) → ((p : Held) → AllHave p → AllHave (change p))
      → (n : ℕ) (pools : List Held) → Each AllHave pools → Each AllHave (with_pool test change n pools)
  changed_have test change k n [] h = tt
  changed_have test change k zero (p ∷ pools) h = (go (test p), h.1)
    where
      go : (b : Bool) → AllHave (pick b (change p) p)
      go true = k p h.0
      go false = h.0
  changed_have test change k (suc n) (p ∷ pools) h = (h.0, changed_have test change k n pools h.1)

  -- what is read of pools
  pool_read : (pools : List Held) (i child : ℕ) → Each AllHave pools
      → Each (λ (y : ℕ × List Stored). Each P y.1) (option_to_list (option_map (λ (p : Held). (child, p.cuts)) (slice_get pools i)))
  pool_read [] i child h = tt
  pool_read (p ∷ pools) zero child h = (h.0, tt)
  pool_read (p ∷ pools) (suc i) child h = pool_read pools i child h.1

  pools_read : (pools : List Held) (cs : List ℕ) → Each AllHave pools → Each (λ (y : ℕ × List Stored). Each P y.1) (cuts_read pools cs)
  pools_read pools [] h = tt
  pools_read pools (c ∷ cs) h =
      each-append (λ (y : ℕ × List Stored). Each P y.1) (cuts_at pools c) (cuts_read pools cs) (pool_read pools c c h) (pools_read pools cs h)

  pub read_have : (pools : List Held) (cs : List ℕ) (all : List ChildCuts) → map cuts_of all ≡ cuts_read pools cs → Each AllHave pools
      → Each (λ (c : ChildCuts). Each P c.cuts.items) all
  read_have pools cs all e h = each-unmapped (λ (y : ℕ × List Stored). Each P y.1) cuts_of all
      (subst (Each (λ (y : ℕ × List Stored). Each P y.1)) (sym e) (pools_read pools cs h))

  -- what a solve takes of that
  taken_have : (priced : Bool) (cuts : List Stored) → Each P cuts → Each P (stored_of priced cuts)
  taken_have priced [] h = tt
  taken_have priced (c ∷ cuts) h = go (is_taken priced (source_of c).kind) (taken_have priced cuts h.1)
    where
      go : (b : Bool) → Each P (stored_of priced cuts) → Each P (pick b (c ∷ stored_of priced cuts) (stored_of priced cuts))
      go true rest = (h.0, rest)
      go false rest = rest

  all_taken_have : (priced : Bool) (all : List ChildCuts) → Each (λ (c : ChildCuts). Each P c.cuts.items) all → Each P (stored_cuts priced all)
  all_taken_have priced [] h = tt
  all_taken_have priced (c ∷ all) h =
      each-append P (stored_of priced c.cuts.items) (stored_cuts priced all) (taken_have priced c.cuts.items h.0) (all_taken_have priced all h.1)

  -- and what it uses
  abbrev pub UsesHave : StoredUses → Type 0
  UsesHave No_stored = Unit {0}
  UsesHave (Use_stored w c uses) = P c × UsesHave uses

  used_have : (ws : List ℚ) (cuts : List Stored) → Each P cuts → UsesHave (stored_uses ws cuts)
  used_have ws [] h = tt
  used_have [] (c ∷ cuts) h = tt
  used_have (w ∷ ws) (c ∷ cuts) h = go (is_zero w) (used_have ws cuts h.1)
    where
      go : (b : Bool) → UsesHave (stored_uses ws cuts) → UsesHave (pick b (stored_uses ws cuts) (Use_stored w c (stored_uses ws cuts)))
      go true rest = rest
      go false rest = (h.0, rest)

  pub uses_have : (t : Task) (m : Weighed) → Each (λ (c : ChildCuts). Each P c.cuts.items) t.children.items
      → UsesHave (stored_uses m.weights (stored_cuts (is_priced t.kind) t.children.items))
  uses_have t m h = used_have m.weights (stored_cuts (is_priced t.kind) t.children.items) (all_taken_have (is_priced t.kind) t.children.items h)

-- ---- a cut by its record
-- in a book the children stand below node n
abbrev pub StandBelow : Book → ℕ → List Share → Type 0
StandBelow book n ss = Each (λ (s : Share). (book.parent s.child ≡ n) × (book.stage s.child ≡ suc (book.stage n))) ss

among : (Q : ℕ → Type 0) (m : ℕ) (ss : List Share) → is_in m (map (λ (s : Share). s.child) ss) ≡ true → Each (λ (s : Share). Q s.child) ss → Q m
among Q m [] e h = absurd (let no : false ≡ true = e in cc)
among Q m (s ∷ ss) e h = go (eqb s.child m) refl e (λ f. among Q m ss f h.1)
  where
    go : (b : Bool) → eqb s.child m ≡ b → (b || is_in m (map (λ (s : Share). s.child) ss)) ≡ true → (is_in m (map (λ (s : Share). s.child) ss) ≡ true → Q m) → Q m
    go true q f rest = subst Q (eqb-true s.child m q) h.0
    go false q f rest = rest f

pub uses_made : (book : Book) (n : ℕ) (d : Datum) (uses : StoredUses) → StandBelow book n d.shares → UsesChildren d uses → UsesHave (IsMadeFor book) uses
    → AreMadeFor book n uses
uses_made book n d No_stored stand h k = tt
uses_made book n d (Use_stored w c uses) stand h k =
    let below : (book.parent (source_of c).node ≡ n) × (book.stage (source_of c).node ≡ suc (book.stage n)) =
    among (λ (m : ℕ). (book.parent m ≡ n) × (book.stage m ≡ suc (book.stage n))) (source_of c).node d.shares h.1.0 stand in (
      record { weight = h.0; parent = below.0; stage = below.1 },
      k.0,
      uses_made book n d uses stand h.1.1 k.1,
    )

pub cut_made_for : (book : Book) (d : Datum) (cut : Stored) → IsDatumFor book d (source_of cut)
    → IsMadeFrom d (source_of cut) (uses_of cut) (constant_of cut) (form_of cut) → AreMadeFor book (source_of cut).node (uses_of cut) → IsMadeFor book cut
cut_made_for book d (Stored_of s uses constant form) fits made uses_are = cuts_are_made_for book d s uses constant form fits made uses_are

-- ---- the datum of a node in a run is that of the run's book, but for the costs of a Feasible run, which no Ray cut has
pub datum_is_for : (kind : Kind) (p : Program) (versions : List Version) (n : ℕ) (b : BankBooks) (s : Source) → AreBooksOf p versions b → Lives p n
    → s.node ≡ n → s.rows_version ≡ (version_of versions n).rows → s.costs_version ≡ (version_of versions n).costs → (s.kind ≡ Bound → is_priced kind ≡ true)
    → IsDatumFor (run_book kind b) (datum_in kind p n (version_of versions n)) s
datum_is_for run_kind.Feasible p versions n b s right l node rows costs priced = record {
  rows = (right.plain n l).rows ∙ ap₂ b.plain.rows (sym node) (sym rows);
  bounds = (right.plain n l).bounds ∙ ap b.plain.bounds (sym node);
  cost = λ e. absurd (let no : false ≡ true = priced e in cc);
  shares = λ e. absurd (let no : false ≡ true = priced e in cc);
}
datum_is_for run_kind.Recession p versions n b s right l node rows costs priced = record {
  rows = (right.cone n l).rows ∙ ap₂ b.cone.rows (sym node) (sym rows);
  bounds = (right.cone n l).bounds ∙ ap b.cone.bounds (sym node);
  cost = λ e. (right.cone n l).cost ∙ ap₂ b.cone.cost (sym node) (sym costs);
  shares = λ e. (right.cone n l).shares ∙ ap₂ b.cone.shares (sym node) (sym costs);
}
datum_is_for run_kind.Cost p versions n b s right l node rows costs priced = record {
  rows = (right.plain n l).rows ∙ ap₂ b.plain.rows (sym node) (sym rows);
  bounds = (right.plain n l).bounds ∙ ap b.plain.bounds (sym node);
  cost = λ e. (right.plain n l).cost ∙ ap₂ b.plain.cost (sym node) (sym costs);
  shares = λ e. (right.plain n l).shares ∙ ap₂ b.plain.shares (sym node) (sym costs);
}

-- where nodes stand in a book of the run
placed : (kind : Kind) (p : Program) (versions : List Version) (n : ℕ) (b : BankBooks) → AreBooksOf p versions b → Lives p n
    → ((view_in kind p).stage n ≡ (run_book kind b).stage n) × ((view_in kind p).parent n ≡ (run_book kind b).parent n)
placed run_kind.Feasible p versions n b right l = ((right.plain n l).stage, (right.plain n l).parent)
placed run_kind.Recession p versions n b right l = ((right.cone n l).stage, (right.cone n l).parent)
placed run_kind.Cost p versions n b right l = ((right.plain n l).stage, (right.plain n l).parent)

lives_in : (kind : Kind) (p : Program) (m : ℕ) → IsLive (view_in kind p) m → Lives p m
lives_in run_kind.Feasible p m h = each-once (Lives p) m (places is_live 0 p.nodes) h (each-place (Lives p) is_live p.nodes (λ k q. q))
lives_in run_kind.Recession p m h = each-once (Lives p) m (places is_live 0 p.nodes) h (each-place (Lives p) is_live p.nodes (λ k q. q))
lives_in run_kind.Cost p m h = each-once (Lives p) m (places is_live 0 p.nodes) h (each-place (Lives p) is_live p.nodes (λ k q. q))

pub children_below : (kind : Kind) (p : Program) (versions : List Version) (n : ℕ) (b : BankBooks) → IsProgram p → AreBooksOf p versions b → Lives p n
    → StandBelow (run_book kind b) n (datum_in kind p n (version_of versions n)).shares
children_below kind p versions n b i right l =
    let v : View = view_in kind p in
    let tree : IsTree v = (scripts_make_books kind p [] i tt).tree 0 in
    each-mapped (λ (s : Share). ((run_book kind b).parent s.child ≡ n) × ((run_book kind b).stage s.child ≡ suc ((run_book kind b).stage n))) (share_of v) (children v n)
    (each-child v tree n (λ m. ((run_book kind b).parent m ≡ n) × ((run_book kind b).stage m ≡ suc ((run_book kind b).stage n))) (λ m live e.
    let is : ChildIs v n m = child-is v n m e in
    let here = placed kind p versions m b right (lives_in kind p m live) in
    let above = placed kind p versions n b right l in (
      sym here.1 ∙ is.parent,
      sym here.0 ∙ is.stage ∙ ap suc above.0,
    )))

-- ---- the cut of a solve
-- a solve gives a Bound cut only where the children are priced
told_priced : (t : Task) (f : Found) (x : List Entry) (v : ℚ) (c : Stored) → told_of t f ≡ solved.Point x v (Some c) → is_priced t.kind ≡ true
told_priced t f x v c e = go f (is_priced t.kind) refl e
  where
    no_cut : (x' : List Entry) (v' : ℚ) → solved.Point x' v' None ≡ solved.Point x v (Some c) → ⊥
    no_cut x' v' e = cc

    no_point : (w : Result (Option Stored) Operation) → with_cut solved.NoPoint w ≡ solved.Point x v (Some c) → ⊥
    no_point (Ok (Some cut)) e = cc
    no_point (Ok None) e = cc
    no_point (Err o) e = cc

    go : (f : Found) (priced : Bool) → is_priced t.kind ≡ priced → told t.datum priced (stored_cuts priced t.children.items) f ≡ solved.Point x v (Some c)
        → is_priced t.kind ≡ true
    go f true q e = q
    go (found.Point x' v' m) false q e = absurd (no_cut x' v' e)
    go (found.NoPoint m) false q e = absurd (no_point (cut_made t.datum Ray (stored_cuts false t.children.items) m) e)
    go found.Loose false q e = absurd (cc)
    go found.PivotsEnded false q e = absurd (cc)
    go (found.Passed o) false q e = absurd (cc)

module _ (p : Program) (s : State) (n : ℕ) (t : Task) (b : BankBooks) (i : IsProgram p) (l : Lives p n) (right : AreBooksOf p s.versions b) (task : IsTaskOf p s n t)
    (cuts : Each (λ (c : ChildCuts). Each (IsMadeFor (run_book s.kind b)) c.cuts.items) t.children.items) where
  cut_is_made : (kind : CutKind) (m : Weighed) (cut : Stored) → (kind ≡ Bound → is_priced s.kind ≡ true) → IsCutOf t kind m cut → IsMadeAbout (run_book s.kind b) n cut
  cut_is_made kind m cut priced h =
      let book : Book = run_book s.kind b in
      let node : (source_of cut).node ≡ n = ap (λ (x : Source). x.node) h.source ∙ ap (λ (d : Datum). d.node) task.datum in
      let rows : (source_of cut).rows_version ≡ (version_of s.versions n).rows = ap (λ (x : Source). x.rows_version) h.source ∙ ap (λ (d : Datum). d.rows_version) task.datum in
      let costs : (source_of cut).costs_version ≡ (version_of s.versions n).costs = ap (λ (x : Source). x.costs_version) h.source ∙ ap (λ (d : Datum). d.costs_version) task.datum in
      let stand : StandBelow book (source_of cut).node t.datum.shares =
      subst (λ (k : ℕ). StandBelow book k t.datum.shares) (sym node)
      (subst (λ (d : Datum). StandBelow book n d.shares) (sym task.datum) (children_below s.kind p s.versions n b i right l)) in
      record {
        node = node;
        made = cut_made_for book t.datum cut
            (subst (λ (d : Datum). IsDatumFor book d (source_of cut)) (sym task.datum)
            (datum_is_for s.kind p s.versions n b (source_of cut) right l node rows costs (λ e. priced (sym (ap (λ (x : Source). x.kind) h.source) ∙ e))))
            h.made
            (uses_made book (source_of cut).node t.datum (uses_of cut) stand h.children (subst (UsesHave (IsMadeFor book)) (sym h.uses) (uses_have (IsMadeFor book) t m cuts)));
      }

  pub answer_made : (all : Solved) → IsToldOf t all → IsAnswer t all → IfSome (cut_given all) (IsMadeAbout (run_book s.kind b) n)
  answer_made (solved.Point x v (Some c)) e a =
      cut_is_made Bound a.m c
      (λ q. sym (ap is_priced task.kind) ∙ told_priced t e.origin x v c (sym e.told))
      a.has_cut.cut_of
  answer_made (solved.Point x v None) e a = tt
  answer_made (solved.NoPoint c) e a = cut_is_made Ray a.m c (λ q. absurd (let no : Ray ≡ Bound = q in cc)) a.cut_of
  answer_made solved.Loose e a = tt
  answer_made solved.PivotsEnded e a = tt
  answer_made (solved.Passed in_cut o) e a = tt
  answer_made solved.NotGood e a = tt

-- ---- pools of a run
pub pools_made : (kind : Kind) (b : BankBooks) (banks : Banks) → PoolsAreMade b banks → Each (AllMadeFor (run_book kind b)) (pools_of kind banks)
pools_made run_kind.Feasible b banks h = h.plain
pools_made run_kind.Recession b banks h = h.cone
pools_made run_kind.Cost b banks h = h.plain

with_made : (kind : Kind) (b : BankBooks) (banks : Banks) (pools : List Held) → PoolsAreMade b banks → Each (AllMadeFor (run_book kind b)) pools → PoolsAreMade b (with_pools kind pools banks)
with_made run_kind.Feasible b banks pools h k = record { plain = k; cone = h.cone }
with_made run_kind.Recession b banks pools h k = record { plain = h.plain; cone = k }
with_made run_kind.Cost b banks pools h k = record { plain = k; cone = h.cone }

pub bank_changed : (kind : Kind) (b : BankBooks) (banks new : Banks) (test : Held → Bool) (change : Held → Held) (n : ℕ)
    → ((p : Held) → AllMadeFor (run_book kind b) p → AllMadeFor (run_book kind b) (change p)) → new ≡ with_pools kind (with_pool test change n (pools_of kind banks)) banks
    → PoolsAreMade b banks → PoolsAreMade b new
bank_changed kind b banks new test change n k e h = subst (PoolsAreMade b) (sym e)
    (with_made kind b banks (with_pool test change n (pools_of kind banks)) h (changed_have (IsMadeFor (run_book kind b)) test change k n (pools_of kind banks) (pools_made kind b banks h)))

-- ---- states
module _ (b : BankBooks) where
  -- the cuts, the kind and the ends stay
  pub same_made : (old new : State) → new.banks ≡ old.banks → new.kind ≡ old.kind → new.ends ≡ old.ends → KeepsMade b old new
  same_made old new x k e = (k, λ h. (subst (PoolsAreMade b) (sym x) h.0, subst (λ (kind : Kind). EndsAreMade b kind new.ends) (sym k) (subst (EndsAreMade b old.kind) (sym e) h.1)))

  pub then_made : (x y z : State) → KeepsMade b x y → KeepsMade b y z → KeepsMade b x z
  then_made x y z f g = (g.0 ∙ f.0, λ h. g.1 (f.1 h))

  -- the pools alone change
  pub banks_made : (old : State) (banks : Banks) → (PoolsAreMade b old.banks → PoolsAreMade b banks) → KeepsMade b old (record old { banks = banks })
  banks_made old banks k = (refl, λ h. (k h.0, h.1))

  -- or the ends alone
  pub ends_made : (old new : State) → new ≡ record old { ends = new.ends } → (EndsAreMade b old.kind old.ends → EndsAreMade b old.kind new.ends) → KeepsMade b old new
  ends_made old new e k = subst (KeepsMade b old) (sym e) (refl, λ h. (h.0, k h.1))

  -- what a pool answers
  pub answered_made : (s : State) (answer : Offer) → KeepsMade b s (after_answer answer s)
  answered_made s offer.Added = (refl, λ h. h)
  answered_made s (offer.NotNeeded value) = (refl, λ h. h)
  answered_made s (offer.Stale node part seen known) = (refl, λ h. h)
  answered_made s (offer.Passed o) = (refl, λ h. h)

  -- a cut that is made for the book of one run is so for that of a run of the same kind
  pub still_made : (old new : State) (n : ℕ) (cut : Option Stored) → KeepsMade b old new → IfSome cut (IsMadeAbout (run_book old.kind b) n) → IfSome cut (IsMadeAbout (run_book new.kind b) n)
  still_made old new n cut k h = subst (λ (kind : Kind). IfSome cut (IsMadeAbout (run_book kind b) n)) (sym k.0) h

  -- ---- ends
  raised_made : (best : Option Bounded) (found : Bounded) → IfSome best (λ x. IsMadeAbout b.plain 0 x.cut) → IsMadeAbout b.plain 0 found.cut
      → IfSome (greater_end best found) (λ x. IsMadeAbout b.plain 0 x.cut)
  raised_made best found h k = go (raises best found.value)
    where
      go : (raise : Bool) → IfSome (pick raise (Some found) best) (λ x. IsMadeAbout b.plain 0 x.cut)
      go true = k
      go false = h

  -- the root's last cut
  pub root_made : (kind : Kind) (e : Ends) (value : ℚ) (cut : Stored) → IsMadeAbout (run_book kind b) 0 cut → EndsAreMade b kind e → EndsAreMade b kind (after_root kind e value cut)
  root_made run_kind.Feasible e value cut k h = record { root = k; lower = h.lower; nowhere = h.nowhere }
  root_made run_kind.Recession e value cut k h = record { root = k; lower = h.lower; nowhere = h.nowhere }
  root_made run_kind.Cost e value cut k h = record {
    root = k;
    lower = raised_made e.lower (record { value = value; cut = cut }) h.lower k;
    nowhere = h.nowhere;
  }

  -- a joined policy changes no cut
  pub policy_made : (kind : Kind) (e : Ends) (found : Priced) → EndsAreMade b kind e → EndsAreMade b kind (after_policy kind e found)
  policy_made run_kind.Feasible e found h = record { root = h.root; lower = h.lower; nowhere = h.nowhere }
  policy_made run_kind.Recession e found h = record { root = h.root; lower = h.lower; nowhere = h.nowhere }
  policy_made run_kind.Cost e found h = record { root = h.root; lower = h.lower; nowhere = h.nowhere }

-- ---- ground cuts
-- a live node's children live, and have greater numbers
child_after : (p : Program) (n c stage : ℕ) (parent : Option ℕ) → HasParent p c stage parent → parent ≡ Some n → n < c
child_after p n c stage None h e = absurd (cc)
child_after p n c stage (Some q) h e = let same : q ≡ n = cc in let less : q < c = h.smaller in omega (arith, same, less)

pub children_after : (p : Program) → IsProgram p → (n : ℕ) → Lives p n → Each (λ (c : ℕ). Lives p c × (n < c)) (children_in (frame_of p) n)
children_after p i n l = subst (Each (λ (c : ℕ). Lives p c × (n < c))) (sym all)
    (each-place (λ (c : ℕ). Lives p c × (n < c)) (is_below n) (map position_of p.nodes) (λ c q. let h = below_live n c p.nodes q in
    (h.0, child_after p n c (node_at p.nodes c).stage (node_at p.nodes c).parent (i.nodes c h.0).parent h.1)))
  where
    all : children_in (frame_of p) n ≡ places (is_below n) 0 (map position_of p.nodes)
    all = let step : 0 + n ≡ n = omega arith in
        children_at (map position_of p.nodes) 0 n (map position_of p.nodes) (omega (arith, length-map p.nodes position_of, passes-within is_live n p.nodes l))
        ∙ ap (children_of (map position_of p.nodes)) step

module _ (book : Book) where
  -- one cut of each child, in their order
  pub grounds_of_children : (tree : Tree) (cuts : List (Option Stored)) (ns : List ℕ) → Each (λ (m : ℕ). IsSomeAnd (slice_index_or cuts m None) (IsGroundOf book m)) ns
      → AreOfChildren (map (share_in tree) ns) (cuts_there cuts ns)
  grounds_of_children tree cuts [] h = tt
  grounds_of_children tree cuts (n ∷ ns) h = go (slice_index_or cuts n None) h.0 (grounds_of_children tree cuts ns h.1)
    where
      go : (o : Option Stored) → IsSomeAnd o (IsGroundOf book n) → AreOfChildren (map (share_in tree) ns) (cuts_there cuts ns)
          → AreOfChildren (share_in tree n ∷ map (share_in tree) ns) (option_to_list o ++ cuts_there cuts ns)
      go None q rest = absurd q
      go (Some c) q rest = (q.node, q.kind, rest)

  pub grounds_made : (cuts : List (Option Stored)) (ns : List ℕ) → Each (λ (m : ℕ). IsSomeAnd (slice_index_or cuts m None) (IsGroundOf book m)) ns → Each (IsMadeFor book) (cuts_there cuts ns)
  grounds_made cuts [] h = tt
  grounds_made cuts (n ∷ ns) h = go (slice_index_or cuts n None) h.0 (grounds_made cuts ns h.1)
    where
      go : (o : Option Stored) → IsSomeAnd o (IsGroundOf book n) → Each (IsMadeFor book) (cuts_there cuts ns)
          → Each (IsMadeFor book) (option_to_list o ++ cuts_there cuts ns)
      go None q rest = absurd q
      go (Some c) q rest = (q.made, rest)

  use_more : (n : ℕ) (us : StoredUses) (w : ℚ) (c : Stored) → AreMadeFor book n us → IsStoredUse book n w (source_of c).node → IsMadeFor book c → AreMadeFor book n (snoc us w c)
  use_more n No_stored w c h u m = (u, m, tt)
  use_more n (Use_stored v d us) w c h u m = (h.0, h.1, use_more n us w c h.2 u m)

  pub ground_uses : (n : ℕ) (done : StoredUses) (ss : List Share) (cs : List Stored) → AreMadeFor book n done → AreOfChildren ss cs → Each (λ (s : Share). zero_ℚ <ℚ s.share) ss
      → StandBelow book n ss → Each (IsMadeFor book) cs → AreMadeFor book n (uses_of_children done ss cs)
  ground_uses n done [] cs h a up stand made = h
  ground_uses n done (s ∷ ss) [] h a up stand made = absurd a
  ground_uses n done (s ∷ ss) (c ∷ cs) h a up stand made =
      ground_uses n (snoc done s.share c) ss cs
      (use_more n done s.share c h
      (record { weight = up.0; parent = ap book.parent a.0 ∙ stand.0.0; stage = ap book.stage a.0 ∙ stand.0.1 }) made.0)
      a.2 up.1 stand.1 made.1

-- the parts of the cut that a dual makes
pub ground_parts : (d : Datum) (total : ℚ) (dual : List At) (cuts : List Stored) (cut : Stored) → ground_walk d total dual cuts ≡ Ok (Some cut)
    → (y : List Entry) × ((source_of cut ≡ ground_source d y) × (uses_of cut ≡ uses_of_children No_stored d.shares cuts))
ground_parts d total dual cuts cut e =
    let one = ended (quotients_from total (at dual d.node) [] d.rows) (λ y. made d (ground_source d y) (uses_of_children No_stored d.shares cuts)) (Some cut) e in
    (one.result, made_parts d (ground_source d one.result) (uses_of_children No_stored d.shares cuts) cut one.next_is)

-- that of a live node, where each child has one
pub ground_made : (kind : Kind) (p : Program) (tree : Tree) (s : State) (n : ℕ) (b : BankBooks) (cuts : List (Option Stored)) (d : Datum) (total : ℚ) (dual : List At)
    (below : List Stored) (r : Result Stored CutFault) → is_priced kind ≡ true → IsProgram p → AreBooksOf p s.versions b → Lives p n
    → HasGrounds p (run_book kind b) (n + 1) cuts → d ≡ datum_in kind p n (version_of s.versions n) → IsDatum d
    → d.shares ≡ map (share_in tree) (children_in (frame_of p) n) → below ≡ cuts_there cuts (children_in (frame_of p) n)
    → Makes (ground_walk d total dual below) r → (AreOfChildren d.shares below → IfOk r (IsGroundFrom d total dual)) → IfOk r (IsGroundOf (run_book kind b) n)
ground_made kind p tree s n b cuts d total dual below (Err f) priced i right l h stated is shares there walk from = tt
ground_made kind p tree s n b cuts d total dual below (Ok cut) priced i right l h stated is shares there walk from =
    let book : Book = run_book kind b in
    let ns : List ℕ = children_in (frame_of p) n in
    let all : Each (λ (m : ℕ). IsSomeAnd (slice_index_or cuts m None) (IsGroundOf book m)) ns =
    each-map (λ m q. h m (let less : n < m = q.1 in omega (arith, less)) q.0) ns (children_after p i n l) in
    let of : AreOfChildren d.shares below =
    subst (λ (cs : List Stored). AreOfChildren d.shares cs) (sym there)
    (subst (λ (ss : List Share). AreOfChildren ss (cuts_there cuts ns)) (sym shares) (grounds_of_children book tree cuts ns all)) in
    let made_below : Each (IsMadeFor book) below = subst (Each (IsMadeFor book)) (sym there) (grounds_made book cuts ns all) in
    let parts = ground_parts d total dual below cut walk in
    let source : source_of cut ≡ ground_source d parts.0 = parts.1.0 in
    let node : (source_of cut).node ≡ n = ap (λ (x : Source). x.node) source ∙ ap (λ (x : Datum). x.node) stated in
    let rows : (source_of cut).rows_version ≡ (version_of s.versions n).rows = ap (λ (x : Source). x.rows_version) source ∙ ap (λ (x : Datum). x.rows_version) stated in
    let costs : (source_of cut).costs_version ≡ (version_of s.versions n).costs = ap (λ (x : Source). x.costs_version) source ∙ ap (λ (x : Datum). x.costs_version) stated in
    let stand : StandBelow book n d.shares = subst (λ (x : Datum). StandBelow book n x.shares) (sym stated) (children_below kind p s.versions n b i right l) in
    record {
      node = node;
      kind = ap (λ (x : Source). x.kind) source;
      made = cut_made_for book d cut
          (subst (λ (x : Datum). IsDatumFor book x (source_of cut)) (sym stated) (datum_is_for kind p s.versions n b (source_of cut) right l node rows costs (λ e. priced)))
          (from of).made_from
          (subst (λ (k : ℕ). AreMadeFor book k (uses_of cut)) (sym node)
          (subst (AreMadeFor book n) (sym parts.1.1) (ground_uses book n No_stored d.shares below tt of is.above stand made_below)));
    }

-- ---- all cuts of a dual, from the greatest number on
pub each_set : {A : Type 0} (P : A → Type 0) (xs : List A) (n : ℕ) (x : A) → Each P xs → P x → Each P (slice_set xs n x)
each_set P [] n x h k = tt
each_set P (y ∷ xs) zero x h k = (k, h.1)
each_set P (y ∷ xs) (suc n) x h k = (h.0, each_set P xs n x h.1 k)

pub each_at : {A : Type 0} (P : A → Type 0) (xs : List A) (n : ℕ) (x : A) → Each P xs → n < length xs → x ≡ get_or xs n x → P x
each_at P [] n x h l e = absurd (omega (arith, l))
each_at P (y ∷ xs) zero x h l e = subst P (sym e) h.0
each_at P (y ∷ xs) (suc n) x h l e = each_at P xs n x h.1 (omega (arith, l)) e

pub none_made : (book : Book) (n : ℕ) → Each (λ (place : Option Stored). IfSome place (IsMadeFor book)) (replicate n None)
none_made book zero = tt
none_made book (suc n) = (tt, none_made book n)

module _ (p : Program) (book : Book) where
  -- no node lives at a place past the last one
  pub none_ground : (nodes : ℕ) (cuts : List (Option Stored)) → length p.nodes ≤ nodes → HasGrounds p book nodes cuts
  none_ground nodes cuts l m le live = let w : m < length p.nodes = passes-within is_live m p.nodes live in absurd (omega (arith, w, l, le))

  -- a place at which none lives
  pub ground_past : (n : ℕ) (cuts : List (Option Stored)) → passes_at is_live n p.nodes ≡ false → HasGrounds p book (n + 1) cuts → HasGrounds p book n cuts
  ground_past n cuts gone h m le live = go (eqb m n) refl
    where
      go : (t : Bool) → eqb m n ≡ t → IsSomeAnd (slice_index_or cuts m None) (IsGroundOf book m)
      go true q = absurd (let e : m ≡ n = eqb-true m n q in let no : true ≡ false = sym live ∙ ap (λ (k : ℕ). passes_at is_live k p.nodes) e ∙ gone in cc)
      go false q = h m (let ne : m ≡ n → ⊥ = λ e. (let no : true ≡ false = sym (eq-eqb m n e) ∙ q in absurd (cc)) in omega (arith, le, ne)) live

  -- one more
  pub ground_put : (n : ℕ) (cuts : List (Option Stored)) (cut : Stored) → n < length cuts → HasGrounds p book (n + 1) cuts → IsGroundOf book n cut
      → HasGrounds p book n (slice_set cuts n (Some cut))
  ground_put n cuts cut l h g m le live = go (eqb m n) refl
    where
      go : (t : Bool) → eqb m n ≡ t → IsSomeAnd (slice_index_or (slice_set cuts n (Some cut)) m None) (IsGroundOf book m)
      go true q = let e : m ≡ n = eqb-true m n q in
          subst (λ (k : ℕ). IsSomeAnd (slice_index_or (slice_set cuts n (Some cut)) k None) (IsGroundOf book k)) (sym e)
          (subst (λ (o : Option Stored). IsSomeAnd o (IsGroundOf book n)) (sym (get_or-set_same cuts n (Some cut) None l)) g)
      go false q =
          let ne : m ≡ n → ⊥ = λ e. (let no : true ≡ false = sym (eq-eqb m n e) ∙ q in absurd (cc)) in
          subst (λ (o : Option Stored). IsSomeAnd o (IsGroundOf book m)) (sym (get_or-set_other cuts n m (Some cut) None ne)) (h m (omega (arith, le, ne)) live)

-- there are as many places as nodes of the program
pub places_of_nodes : (p : Program) (frame : Frame) (n : ℕ) → IsProgram p → frame ≡ frame_of p → n ≡ min (length frame.parents) (2 ^ 32 - 1) → length p.nodes ≤ n
places_of_nodes p frame n i e m =
    let long : length frame.parents ≡ length p.nodes = ap (λ (f : Frame). length f.parents) e ∙ length-map p.nodes parent_of in
    let few : length p.nodes < 2 ^ 32 = i.small.nodes in
    omega (arith, m, long, few)

pub set_long : {A : Type 0} (xs : List A) (n : ℕ) (x : A) (k : ℕ) → length xs ≡ k → length (slice_set xs n x) ≡ k
set_long xs n x k e = (let same : length (slice_set xs n x) ≡ length xs = simp length-set in same) ∙ e

-- ---- whether a node lives
pub live_there : (nodes : List (Option NodeOf)) (n : ℕ) (place : Option NodeOf) → n < length nodes → place ≡ get_or nodes n place
    → passes_at is_live n (nodes_content nodes) ≡ is_some place
live_there [] n place l e = absurd (omega (arith, l))
live_there (None ∷ nodes) zero place l e = sym (ap is_some e)
live_there (Some y ∷ nodes) zero place l e = sym (ap is_some e)
live_there (first ∷ nodes) (suc n) place l e = live_there nodes n place (omega (arith, l)) e
