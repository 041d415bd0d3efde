-- The cuts that a run begins with: made from the greatest number on, and put into the pools one after the other.
use Rattle.std.proofs.Common.{◌≡◌, ℕ, zero, suc, ◌+◌, ◌<◌, ◌≤◌, Bool, true, false, eqb, List, [], ◌∷◌, ◌++◌, length, drop}
use Rattle.std.proofs.Common.{get_or, replicate, Option, Some, None, Result, Ok, Err, IfErr, IsErrAnd, OnOk, slice_index_or, slice_set}
use Rattle.std.proofs.Common.{arith, refl, sym, ap, subst, ◌∙◌, eqb-true, eq-eqb, drop-cons}
use Rattle.std.specs.Option.{option_to_list}
use Rattle.std.proofs.lemmas.List.{get_or-set_same, get_or-set_other}
use Rattle.rationals.specs.Rational.{ℚ, zero_ℚ}
use Rattle.rationals.specs.Passes.{Operation}
use Rattle.scen_defs.specs.Lists.{Each, passes_at}
use Rattle.scen_defs.specs.Program.{Program, is_live}
use Rattle.scen_defs.specs.Valid.{IsProgram, Lives}
use Rattle.scen_defs.specs.Values.{At}
use Rattle.scen_defs.specs.declared.report.Kind.{Kind}
use Rattle.scen_defs.specs.declared.report.Kind.TheVariants.{Recession}
use Rattle.scen_defs.proofs.SumLaws.{each-map}
use Rattle.scen_tree.specs.Trees.{Tree, tree_walk}
use Rattle.edit_defs.proofs.Lists.{passes-within}
use Rattle.frac128.specs.declared.fault.ArithmeticFault.{ArithmeticFault}
use Rattle.frac128.specs.declared.fault.ArithmeticFault.TheVariants as form_fault
use Rattle.frac128.specs.Faults.{FaultOf}
use Rattle.cut_defs.specs.Data.{Datum}
use Rattle.cut_defs.specs.Stored.{Stored, source_of}
use Rattle.cut_proof.specs.declared.fault.CutFault.{CutFault}
use Rattle.cut_proof.specs.declared.fault.CutFault.TheVariants as fault
use Rattle.cut_proof.specs.Answers.{Makes}
use Rattle.cut_proof.specs.Faults.{fault_of}
use Rattle.cut_pool.specs.Pool.{with_cut}
use Rattle.cut_banks.specs.declared.banks.Banks.{Banks}
use Rattle.cut_banks.specs.Banks.{pools_of, with_pools}
use Rattle.cut_banks.specs.Pools.{may_put, with_pool}
use Rattle.dual_assemble.specs.Ground.{ground_walk}
use Rattle.dual_assemble.specs.Values.{assembled}
use Rattle.pass_table.proofs.Opens.{at_replicate}
use Rattle.node_data.specs.Frames.{children_in, frame_of}
use Rattle.node_data.specs.declared.versions.Version.{Version}
use Rattle.node_data.specs.Counts.{version_of}
use Rattle.pass_core.specs.declared.state.State.{State}
use Rattle.pass_core.specs.Made.{cuts_there}
use Rattle.pass_core.specs.Grounds.{OpeningDual, FaultsDual, put_in_pool, put_cut, put_cuts, CanPutInPool, CanPutCuts}
use Rattle.pass_core.specs.Grounds.{OneIsNotPut, PutsCut, PutsCuts}
use Rattle.pass_core.specs.Left.{StopsAsStuck, next_kind, OpensRun}
use Rattle.pass_core.specs.Turns.{datum_in, first_walk, IsFirstCut, AreFirstFrom, AreFirstCuts, FaultsFirst, PutsFirstCuts}
use Rattle.pass_core.specs.Turns.{IsStuckBefore, not_made, not_put, by_dual, by_first, FaultsBefore, GetsFirstCuts, OpensAnyhow, is_open}
use Rattle.pass_core.proofs.Leaving.{open_or_stuck}
use Rattle.pass_core.proofs.Making.{children_after}

-- ---- the cuts, from the greatest number on
-- a cut at a place before these changes none of them
below_set : (cuts : List (Option Stored)) (n : ℕ) (x : Option Stored) (ns : List ℕ) → Each (λ (m : ℕ). n < m) ns
    → cuts_there (slice_set cuts n x) ns ≡ cuts_there cuts ns
below_set cuts n x [] h = refl
below_set cuts n x (m ∷ ns) h =
    let low : n < m = h.0 in
    let one : slice_index_or (slice_set cuts n x) m None ≡ slice_index_or cuts m None =
    get_or-set_other cuts n m x None (λ e. omega (arith, e, low)) in
    ap (λ (o : Option Stored). option_to_list o ++ cuts_there (slice_set cuts n x) ns) one
    ∙ ap (λ (cs : List Stored). option_to_list (slice_index_or cuts m None) ++ cs) (below_set cuts n x ns h.1)

module _ (kind : Kind) (p : Program) (tree : Tree) (versions : List Version) (dual : List At) where
  pub none_first : (nodes k : ℕ) (cuts : List (Option Stored)) → length p.nodes ≤ nodes → cuts ≡ replicate k None
      → AreFirstFrom kind p tree versions dual nodes cuts
  none_first nodes k cuts l e = record {
    there = λ m le live. let w : m < length p.nodes = passes-within is_live m p.nodes live in absurd (omega (arith, w, l, le));
    only = λ m cut is.
        let empty : slice_index_or cuts m None ≡ None =
        ap (λ (cs : List (Option Stored)). slice_index_or cs m None) e ∙ at_replicate k None m in
        let no : None ≡ Some cut = sym empty ∙ is in absurd (cc);
  }

  pub first_past : (n : ℕ) (cuts : List (Option Stored)) → passes_at is_live n p.nodes ≡ false
      → AreFirstFrom kind p tree versions dual (n + 1) cuts → AreFirstFrom kind p tree versions dual n cuts
  first_past n cuts gone h = record {
    there = λ m le live. h.there m
        (let ne : m ≡ n → ⊥ = λ e.
        (let no : true ≡ false = sym live ∙ ap (λ (k : ℕ). passes_at is_live k p.nodes) e ∙ gone in absurd (cc)) in
        omega (arith, le, ne)) live;
    only = h.only;
  }

  pub first_put : (n : ℕ) (cuts : List (Option Stored)) (cut : Stored) → IsProgram p → n < length cuts → Lives p n
      → AreFirstFrom kind p tree versions dual (n + 1) cuts → IsFirstCut kind p tree versions dual cuts n cut
      → AreFirstFrom kind p tree versions dual n (slice_set cuts n (Some cut))
  first_put n cuts cut i l lives h first = record {
    there = λ m le live. there m le live (eqb m n) refl;
    only = λ m other is. only m other is (eqb m n) refl;
  }
    where
      new : List (Option Stored)
      new = slice_set cuts n (Some cut)

      -- it changes no cut of a child
      same : (m : ℕ) → n ≤ m → Lives p m → cuts_there new (children_in (frame_of p) m) ≡ cuts_there cuts (children_in (frame_of p) m)
      same m le live =
          below_set cuts n (Some cut) (children_in (frame_of p) m)
          (each-map (λ k q. let above : m < k = q.1 in omega (arith, above, le)) (children_in (frame_of p) m) (children_after p i m live))

      still : (m : ℕ) (other : Stored) → n ≤ m → Lives p m → IsFirstCut kind p tree versions dual cuts m other
          → IsFirstCut kind p tree versions dual new m other
      still m other le live is =
          ap (ground_walk (datum_in kind p m (version_of versions m)) (get_or tree.chances.totals m zero_ℚ) dual) (same m le live) ∙ is

      unlike : (m : ℕ) → eqb m n ≡ false → m ≡ n → ⊥
      unlike m q e = let no : true ≡ false = sym (eq-eqb m n e) ∙ q in absurd (cc)

      there : (m : ℕ) → n ≤ m → Lives p m → (t : Bool) → eqb m n ≡ t
          → (other : Stored) × ((slice_index_or new m None ≡ Some other) × IsFirstCut kind p tree versions dual new m other)
      there m le live true q =
          let e : m ≡ n = eqb-true m n q in
          subst (λ (k : ℕ).
          (other : Stored) × ((slice_index_or new k None ≡ Some other) × IsFirstCut kind p tree versions dual new k other))
          (sym e) (cut, (get_or-set_same cuts n (Some cut) None l, still n cut (omega arith) lives first))
      there m le live false q =
          let ne : m ≡ n → ⊥ = unlike m q in
          let t = h.there m (omega (arith, le, ne)) live in
          (t.0, (get_or-set_other cuts n m (Some cut) None ne ∙ t.1.0, still m t.0 le live t.1.1))

      only : (m : ℕ) (other : Stored) → slice_index_or new m None ≡ Some other → (t : Bool) → eqb m n ≡ t → Lives p m
      only m other is true q = subst (Lives p) (sym (eqb-true m n q)) lives
      only m other is false q = h.only m other (sym (get_or-set_other cuts n m (Some cut) None (unlike m q)) ∙ is)

  pub all_first : (n : ℕ) (cuts : List (Option Stored)) → n ≡ 0 → AreFirstFrom kind p tree versions dual n cuts
      → AreFirstCuts kind p tree versions dual cuts
  all_first n cuts e h = record { there = λ m live. h.there m (omega (arith, e)) live; only = h.only }

  -- what a call answers
  pub first_made : (n : ℕ) (cuts : List (Option Stored)) (d : Datum) (total : ℚ) (below : List Stored) (r : Result Stored CutFault)
      → d ≡ datum_in kind p n (version_of versions n) → total ≡ get_or tree.chances.totals n zero_ℚ
      → below ≡ cuts_there cuts (children_in (frame_of p) n) → Makes (ground_walk d total dual below) r
      → Makes (first_walk kind p tree versions dual cuts n) r
  first_made n cuts d total below r stated t b walk =
      subst (λ (w : Result (Option Stored) Operation). Makes w r)
      (ap (λ (x : Datum). ground_walk x total dual below) stated
      ∙ ap (λ (x : ℚ). ground_walk (datum_in kind p n (version_of versions n)) x dual below) t
      ∙ ap (ground_walk (datum_in kind p n (version_of versions n)) (get_or tree.chances.totals n zero_ℚ) dual) b) walk

  -- where it answers no cut they end
  pub first_ends : (n : ℕ) (cuts : List (Option Stored)) (f : CutFault) → Lives p n → AreFirstFrom kind p tree versions dual (n + 1) cuts
      → Makes (first_walk kind p tree versions dual cuts n) (Err f) → FaultsFirst kind p tree versions dual f
  first_ends n cuts fault.NotGood lives behind walk = record { node = n; lives = lives; cuts = cuts; behind = behind; walk = walk }
  first_ends n cuts (fault.Passed o) lives behind walk = record { node = n; lives = lives; cuts = cuts; behind = behind; walk = walk }
  first_ends n cuts fault.Memory lives behind walk = tt

  pub first_fails : {X : Type 0} (f : CutFault) (r : Result X CutFault) → IsErrAnd r (λ e. e ≡ f) → FaultsFirst kind p tree versions dual f
      → IfErr r (FaultsFirst kind p tree versions dual)
  first_fails f (Ok x) is h = absurd is
  first_fails f (Err e) is h = subst (FaultsFirst kind p tree versions dual) (sym is) h

-- ---- where there are none
pub dual_faults : (cut : Stored) (f : ArithmeticFault) → FaultOf (assembled cut) f → FaultsDual Recession (Some cut) (fault_of f)
dual_faults cut (form_fault.Passed o) h = h
dual_faults cut form_fault.Memory h = tt

pub fault_before : (p : Program) (tree : Tree) (s : State) (f : CutFault) → FaultsDual s.kind s.ends.root f → FaultsBefore p tree s f
fault_before p tree s fault.NotGood h = absurd h
fault_before p tree s (fault.Passed o) h = by_dual h
fault_before p tree s fault.Memory h = tt

pub first_before : {X : Type 0} (p : Program) (tree : Tree) (s : State) (kind : Kind) (dual : List At) (r : Result X CutFault)
    → kind ≡ next_kind s.kind → OpeningDual s.kind s.ends.root dual → IfErr r (FaultsFirst kind p tree s.versions dual)
    → IfErr r (FaultsBefore p tree s)
first_before p tree s kind dual (Ok x) k opening h = tt
first_before p tree s kind dual (Err f) k opening h = go f (subst (λ (x : Kind). FaultsFirst x p tree s.versions dual f) k h)
  where
    go : (f : CutFault) → FaultsFirst (next_kind s.kind) p tree s.versions dual f → FaultsBefore p tree s f
    go fault.NotGood q = not_made dual opening q
    go (fault.Passed o) q = by_first dual opening q
    go fault.Memory q = tt

-- ---- the pools with these cuts
-- what is left at a place begins with what stands there
pub drop_there : {A : Type 0} (xs : List A) (n : ℕ) (x : A) → n < length xs → x ≡ get_or xs n x → drop n xs ≡ x ∷ drop (n + 1) xs
drop_there xs n x l e =
    let next : suc n ≡ n + 1 = omega arith in
    drop-cons xs n x l ∙ ap (λ z. z ∷ drop (suc n) xs) (sym e) ∙ ap (λ k. x ∷ drop k xs) next

pub puts_more : (kind : Kind) (place : Option Stored) (places : List (Option Stored)) (old mid new : Banks) → PutsCut kind place old mid
    → PutsCuts kind places mid new → PutsCuts kind (place ∷ places) old new
puts_more kind place places old mid new a b = record {
  can = (a.can, subst (CanPutCuts kind places) a.banks b.can);
  banks = b.banks ∙ ap (put_cuts kind places) a.banks;
}

-- the root has no pool
pub root_put : (kind : Kind) (cut : Stored) (b : Banks) → (source_of cut).node ≡ 0 → PutsCut kind (Some cut) b b
root_put kind cut b e = record { can = can (source_of cut).node e; banks = banks (source_of cut).node e }
  where
    can : (n : ℕ) → n ≡ 0 → CanPutInPool kind n cut b
    can zero q = tt
    can (suc n) q = absurd (omega (arith, q))

    banks : (n : ℕ) → n ≡ 0 → b ≡ put_in_pool kind n cut b
    banks zero q = refl
    banks (suc n) q = absurd (omega (arith, q))

-- the banks behind a cut of another node than the root, whether its pool takes it or not
pub pool_banks : (kind : Kind) (cut : Stored) (old new : Banks) → ((source_of cut).node ≡ 0 → ⊥)
    → new ≡ with_pools kind (with_pool (may_put cut) (λ p. with_cut p cut) (source_of cut).node (pools_of kind old)) old
    → new ≡ put_cut kind (Some cut) old
pool_banks kind cut old new above e = e ∙ banks (source_of cut).node above
  where
    banks : (n : ℕ) → (n ≡ 0 → ⊥)
        → with_pools kind (with_pool (may_put cut) (λ p. with_cut p cut) n (pools_of kind old)) old ≡ put_in_pool kind n cut old
    banks zero ne = absurd (ne refl)
    banks (suc n) ne = refl

-- that of another node takes the cut
pub pool_put : (kind : Kind) (cut : Stored) (old new : Banks) → ((source_of cut).node ≡ 0 → ⊥)
    → true ≡ passes_at (may_put cut) (source_of cut).node (pools_of kind old)
    → new ≡ with_pools kind (with_pool (may_put cut) (λ p. with_cut p cut) (source_of cut).node (pools_of kind old)) old
    → PutsCut kind (Some cut) old new
pool_put kind cut old new above t e = record {
  can = can (source_of cut).node above t;
  banks = pool_banks kind cut old new above e;
}
  where
    can : (n : ℕ) → (n ≡ 0 → ⊥) → true ≡ passes_at (may_put cut) n (pools_of kind old) → CanPutInPool kind n cut old
    can zero ne q = tt
    can (suc n) ne q = sym q

-- ---- the opening
pub puts_first : (p : Program) (tree : Tree) (kind : Kind) (old new : State) (cuts : List (Option Stored)) → kind ≡ next_kind old.kind
    → (dual : List At) × (OpeningDual old.kind old.ends.root dual × AreFirstCuts kind p tree old.versions dual cuts)
    → PutsCuts kind cuts old.banks new.banks → PutsFirstCuts p tree old new
puts_first p tree kind old new cuts k d h = record {
  dual = d.0;
  opening = d.1.0;
  cuts = cuts;
  are = subst (λ (x : Kind). AreFirstCuts x p tree old.versions d.0 cuts) k d.1.1;
  can = subst (λ (x : Kind). CanPutCuts x cuts old.banks) k h.can;
  banks = h.banks ∙ ap (λ (x : Kind). put_cuts x cuts old.banks) k;
}

-- whatever stops the method then
pub opened_anyhow : {X E : Type 0} (r : Result X E) (p : Program) (tree : Tree) (kind : Kind) (old new : State) (cuts : List (Option Stored))
    → tree_walk p ≡ Ok tree → kind ≡ next_kind old.kind
    → (dual : List At) × (OpeningDual old.kind old.ends.root dual × AreFirstCuts kind p tree old.versions dual cuts)
    → OnOk r (OpensRun old new) → OnOk r (new.banks ≡ put_cuts kind cuts old.banks) → OnOk r (StopsAsStuck old new)
    → OnOk r (OpensAnyhow p old new)
opened_anyhow (Ok x) p tree kind old new cuts walk k d opens banks stuck =
    is_open opens (λ other there.
    let same : tree ≡ other = (let both : Ok tree ≡ Ok other = sym walk ∙ there in cc) in
    subst (λ (t : Tree). GetsFirstCuts p t old new) same (record {
      dual = d.0;
      cuts = cuts;
      are = subst (λ (x : Kind). AreFirstCuts x p tree old.versions d.0 cuts) k d.1.1;
      banks = banks ∙ ap (λ (x : Kind). put_cuts x cuts old.banks) k;
    })) (open_or_stuck old new stuck)
opened_anyhow (Err e) p tree kind old new cuts walk k d opens banks stuck = tt

-- a first cut isn't put
pub refused_before : (p : Program) (tree : Tree) (kind : Kind) (s : State) (cuts : List (Option Stored)) → kind ≡ next_kind s.kind
    → (dual : List At) × (OpeningDual s.kind s.ends.root dual × AreFirstCuts kind p tree s.versions dual cuts)
    → OneIsNotPut kind cuts s.banks → IsStuckBefore p tree s
refused_before p tree kind s cuts k d h = not_put d.0 cuts d.1.0 (subst (λ (x : Kind). AreFirstCuts x p tree s.versions d.0 cuts) k d.1.1)
    (subst (λ (x : Kind). OneIsNotPut x cuts s.banks) k h)

-- places for last solves don't touch it
pub ready_puts : (p : Program) (tree : Tree) (old s new : State) → s ≡ record old { lasts = s.lasts; is_begun = s.is_begun }
    → PutsFirstCuts p tree s new → PutsFirstCuts p tree old new
ready_puts p tree old s new e h = let k = subst (λ (x : State). PutsFirstCuts p tree x new) e h in record {
  dual = k.dual;
  opening = k.opening;
  cuts = k.cuts;
  are = k.are;
  can = k.can;
  banks = k.banks;
}
