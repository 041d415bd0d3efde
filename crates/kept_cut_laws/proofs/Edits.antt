-- What pools keep behind an edit.
use Rattle.std.proofs.Common.{◌≡◌, ◌⊎◌, inl, inr, ℕ, zero, suc, ◌+◌, ◌-◌, ◌<◌, ◌≤◌, ◌^◌, Bool, true, false, ◌&&◌, eqb, List, [], ◌∷◌, length, Option, Some, None, slice_get, refl, sym, ap, ap₂, subst, ◌∙◌, arith, eqb-true}
use Rattle.std.proofs.lemmas.Bool.{and_parts, eq-eqb, eqb-false, ltb-false}
use Rattle.rationals.specs.Forms.{IsForm}
use Rattle.rationals.specs.Rational.{ℚ}
use Rattle.rationals.specs.Choices.{pick}
use Rattle.scen_defs.specs.Lists.{Each, passes_at}
use Rattle.scen_defs.specs.Program.{Node, Program, view_of, is_live}
use Rattle.scen_defs.specs.Valid.{Lives, IsProgram}
use Rattle.scen_defs.specs.declared.report.Kind.{Kind}
use Rattle.scen_defs.proofs.SumLaws.{each-map, each-both}
use Rattle.cut_defs.specs.declared.kinds.Bank.{Bank}
use Rattle.cut_defs.specs.declared.kinds.Bank.TheVariants.{Plain, Cone}
use Rattle.cut_defs.specs.declared.kinds.CutKind.{CutKind}
use Rattle.cut_defs.specs.declared.kinds.CutKind.TheVariants.{Bound, Ray}
use Rattle.cut_defs.specs.declared.kinds.Part.{Part}
use Rattle.cut_defs.specs.declared.kinds.Part.TheVariants.{Rows, Costs, Gone}
use Rattle.cut_defs.specs.declared.versions.Due.{Due}
use Rattle.cut_defs.specs.declared.versions.Shift.{Shift}
use Rattle.cut_defs.specs.declared.versions.Stamp.{Stamp}
use Rattle.cut_defs.specs.declared.versions.Touch.{Touch}
use Rattle.cut_defs.specs.Data.{Book, IsRight}
use Rattle.cut_defs.specs.Repairs.{IsShift, is_moved, moved_source, repair}
use Rattle.cut_defs.specs.Stored.{Source, Stored, StoredUses, source_of, IsStoredUse, IsMadeFor, AreMadeFor}
use Rattle.cut_defs.specs.Stored.Stored.{Stored_of}
use Rattle.cut_defs.specs.Stored.StoredUses.{No_stored, Use_stored}
use Rattle.cut_defs.specs.Support.{IsAmong, own_by, own_stamps, rows_stamp, costs_stamp, stamp_rests, rests_by, any_rests, cut_rests, reaches, any_reaches}
use Rattle.cut_defs.proofs.Merges.{neither}
use Rattle.cut_defs.proofs.Repairs.{repairs_are_made}
use Rattle.cut_defs.proofs.Supports.{supports_are_exact}
use Rattle.cut_pool.specs.Held.{Held}
use Rattle.cut_pool.specs.Laws.{AllMadeFor}
use Rattle.cut_pool.specs.Pool.{IsShiftOf}
use Rattle.cut_banks.specs.Banks.{fit_banks, swept_banks}
use Rattle.cut_banks.specs.Pools.{no_cuts, fit_pools, fitting, same_bank, is_due, swept_for, pool_after, pools_after}
use Rattle.edit_defs.specs.declared.edit.Edit.{Edit}
use Rattle.edit_defs.specs.declared.edit.Edit.TheVariants.{Set, Prob, Drop, Add}
use Rattle.edit_defs.specs.After.{after, home_of, with_value}
use Rattle.edit_defs.specs.Applies.{Applies}
use Rattle.edit_defs.specs.Data.{one_if, view_in, book}
use Rattle.edit_defs.specs.Shifts.{HasWidths}
use Rattle.edit_defs.specs.Touches.{is_rows, is_costs, is_gone, touches, touches_rows, touches_costs, touches_whole}
use Rattle.edit_defs.proofs.Books.{node-right, was-live, grows}
use Rattle.edit_defs.proofs.Lists.{passes-within, changed-live, each-all}
use Rattle.edit_defs.proofs.Programs.{edits_keep_programs}
use Rattle.edit_retire.specs.Dues.{rows_version, is_gone_in, carried}
use Rattle.edit_retire.specs.Shifted.{shift_of}
use Rattle.edit_retire.specs.Laws.{kind_of}
use Rattle.node_data.specs.declared.versions.Version.{Version}
use Rattle.node_data.specs.Counts.{version_of}
use Rattle.nested_method.specs.Edited.{is_grown, touches_of, dues_of, raised_versions}
use Rattle.nested_method.specs.Laws.{standing}
use Rattle.nested_method.proofs.Histories.{shift_version, carried_of}
use Rattle.nested_method.proofs.Standing.{touches_stand}
use Rattle.kept_cut_laws.specs.Kept.{EachRecord, EachUsed, IsUpToDate, IsCutNow, IsNoNewer, IsOldNews, IsKeptAt, AreKept}
use Rattle.kept_cut_laws.specs.Laws.{CutsAreNow, EditsKeepCuts}
use Rattle.kept_cut_laws.proofs.Rebooked.{of_first, each_record, SaysSame, said_back, rebooked, from_versions, said_of, stage_here, parent_here, edit_shifts}
use Rattle.kept_cut_laws.proofs.Swept.{repaired_node, each_repaired, fitting_is, sweep_keeps, sweep_knows, sweep_stays, sweep_empties, after_each, after_counts, none_rests}
use Rattle.kept_cut_laws.proofs.Touched.{each_among, all_among, FindsTouch, found_touch, gone_as_told, touched_places, rows_behind, costs_behind, stays_live, is_left, touches_are_old, each_due, IsUnder, upwards, swept_for_touch}

-- ---- between the versions before an edit and those behind it
-- the record is of a live node, has its rows' version before or behind, and of its costs the one before where it is a Bound one
record IsBetween (p : Program) (old new : List Version) (s : Source) : Type 0 where
  live : Lives p s.node
  rows : (s.rows_version ≡ (version_of old s.node).rows) ⊎ (s.rows_version ≡ (version_of new s.node).rows)
  costs : s.kind ≡ Bound → s.costs_version ≡ (version_of old s.node).costs
  form : IsForm s.multipliers

-- so it is where a shift to the version behind moves it
moved_between : (p : Program) (old new : List Version) (s : Shift) → s.version ≡ (version_of new s.node).rows → (source : Source) → IsBetween p old new source
    → IsBetween p old new (moved_source s source)
moved_between p old new s v source h = go (is_moved s source) refl
  where
    go : (b : Bool) → is_moved s source ≡ b → IsBetween p old new (elim b [ true ↦ record source { rows_version = s.version } | false ↦ source ])
    go true e =
        let same : source.node ≡ s.node = eqb-true source.node s.node (and_parts (eqb source.node s.node) (eqb (suc source.rows_version) s.version) e).0 in
        record { live = h.live; rows = inr (v ∙ ap (λ k. (version_of new k).rows) (sym same)); costs = h.costs; form = h.form }
    go false e = h

-- a cut about node n, all of whose records are so
record IsCutBetween (p : Program) (old new : List Version) (b : Book) (n : ℕ) (cut : Stored) : Type 0 where
  node : (source_of cut).node ≡ n
  records : EachRecord (IsBetween p old new) cut
  made : IsMadeFor b cut

-- ---- what a record doesn't rest on
rows_alone : (part : Part) → is_rows part ≡ true → part ≡ Rows
rows_alone Rows e = refl
rows_alone Costs e = absurd (let no : false ≡ true = e in cc)
rows_alone Gone e = absurd (let no : false ≡ true = e in cc)

costs_alone : (part : Part) → is_costs part ≡ true → part ≡ Costs
costs_alone Rows e = absurd (let no : false ≡ true = e in cc)
costs_alone Costs e = refl
costs_alone Gone e = absurd (let no : false ≡ true = e in cc)

gone_alone : (part : Part) → is_gone part ≡ true → part ≡ Gone
gone_alone Rows e = absurd (let no : false ≡ true = e in cc)
gone_alone Costs e = absurd (let no : false ≡ true = e in cc)
gone_alone Gone e = refl

own_rows : (s : Source) (t : Touch) → any_rests (own_stamps s) t ≡ false → stamp_rests (rows_stamp s) t ≡ false
own_rows s t h = go s.kind h
  where
    go : (k : CutKind) → any_rests (own_by k s) t ≡ false → stamp_rests (rows_stamp s) t ≡ false
    go Bound h = (neither (stamp_rests (rows_stamp s) t) (any_rests (costs_stamp s ∷ []) t) h).0
    go Ray h = (neither (stamp_rests (rows_stamp s) t) false h).0

own_costs : (s : Source) (t : Touch) → s.kind ≡ Bound → any_rests (own_stamps s) t ≡ false → stamp_rests (costs_stamp s) t ≡ false
own_costs s t k h =
    (neither (stamp_rests (costs_stamp s) t) false
    (neither (stamp_rests (rows_stamp s) t) (any_rests (costs_stamp s ∷ []) t) (sym (ap (λ (x : CutKind). any_rests (own_by x s) t) k) ∙ h)).1).0

-- a stamp that doesn't rest on a touch of its node
not_resting : (a : Stamp) (t : Touch) (part : Part) → t.node ≡ a.node → t.part ≡ part → stamp_rests a t ≡ false → rests_by part a t.version ≡ false
not_resting a t part n k h = sym (ap₂ (λ b x. b && rests_by x a t.version) (eq-eqb a.node t.node (sym n)) k) ∙ h

-- ---- lists of cuts and pools
told_each : (P : Stored → Touch → Type 0) (Told : Touch → Type 0) (cs : List Stored) → ((t : Touch) → Told t → Each (λ c. P c t) cs) → Each (λ c. (t : Touch) → Told t → P c t) cs
told_each P Told [] f = tt
told_each P Told (c ∷ cs) f = ((λ t h. (f t h).0), told_each P Told cs (λ t h. (f t h).1))

each_there : (P : Held → Type 0) (pools : List Held) (n : ℕ) (pool : Held) → Each P pools → slice_get pools n ≡ Some pool → P pool
each_there P [] n pool h e = absurd (cc)
each_there P (q ∷ pools) zero pool h e = subst P (let same : q ≡ pool = cc in same) h.0
each_there P (q ∷ pools) (suc n) pool h e = each_there P pools n pool h.1 e

-- a pool behind the sweeps is what they leave of the one at its place
record IsLeftOf (bank : Bank) (n : ℕ) (dues : List Due) (pools : List Held) (i : ℕ) (new : Held) : Type 0 where
  old : Held
  there : slice_get pools i ≡ Some old
  is : new ≡ pool_after bank n dues old

left_there : (bank : Bank) (k : ℕ) (dues : List Due) (pools : List Held) (i : ℕ) (new : Held) → slice_get (pools_after bank k dues pools) i ≡ Some new
    → IsLeftOf bank (k + i) dues pools i new
left_there bank k dues [] i new e = absurd (cc)
left_there bank k dues (q ∷ pools) zero new e = record {
  old = q;
  there = refl;
  is = (let same : pool_after bank k dues q ≡ new = cc in sym same) ∙ ap (λ m. pool_after bank m dues q) (let z : k ≡ k + zero = omega arith in z);
}
left_there bank k dues (q ∷ pools) (suc i) new e =
    let h = left_there bank (suc k) dues pools i new e in
    record { old = h.old; there = h.there; is = h.is ∙ ap (λ m. pool_after bank m dues h.old) (let z : suc k + i ≡ k + suc i = omega arith in z) }

each_left : (P : Held → Type 0) (bank : Bank) (k : ℕ) (dues : List Due) (pools : List Held)
    → ((i : ℕ) (pool : Held) → slice_get pools i ≡ Some pool → P (pool_after bank (k + i) dues pool)) → Each P (pools_after bank k dues pools)
each_left P bank k dues [] f = tt
each_left P bank k dues (q ∷ pools) f = (
  subst (λ m. P (pool_after bank m dues q)) (let z : k + zero ≡ k = omega arith in z) (f zero q refl),
  each_left P bank (suc k) dues pools (λ i pool e. subst (λ m. P (pool_after bank m dues pool)) (let z : k + suc i ≡ suc k + i = omega arith in z) (f (suc i) pool e)),
)

-- a pool for the nodes of a program is empty, or was there and its node is live or past the last place
fit_there : (k : ℕ) (places : List (Option Node)) (pools : List Held) (i : ℕ) (pool : Held) → slice_get (fit_pools k places pools) i ≡ Some pool
    → (pool ≡ no_cuts (k + i)) ⊎ ((slice_get pools i ≡ Some pool) × ((passes_at is_live i places ≡ true) ⊎ (length places ≤ i)))
fit_there k [] pools i pool e = inr (e, inr (omega arith))
fit_there k (place ∷ places) [] zero pool e =
    inl ((let same : no_cuts k ≡ pool = cc in sym same) ∙ ap no_cuts (let z : k ≡ k + zero = omega arith in z))
fit_there k (place ∷ places) [] (suc i) pool e = go (fit_there (suc k) places [] i pool e)
  where
    go : (pool ≡ no_cuts (suc k + i)) ⊎ ((slice_get [] i ≡ Some pool) × ((passes_at is_live i places ≡ true) ⊎ (length places ≤ i)))
        → (pool ≡ no_cuts (k + suc i)) ⊎ ((slice_get [] (suc i) ≡ Some pool) × ((passes_at is_live i places ≡ true) ⊎ (suc (length places) ≤ suc i)))
    go (inl h) = inl (h ∙ ap no_cuts (let z : suc k + i ≡ k + suc i = omega arith in z))
    go (inr (h, l)) = absurd (cc)
fit_there k (place ∷ places) (q ∷ pools) zero pool e = go (is_live place) refl e
  where
    go : (b : Bool) → is_live place ≡ b → Some (pick b q (no_cuts k)) ≡ Some pool
        → (pool ≡ no_cuts (k + zero)) ⊎ ((Some q ≡ Some pool) × ((is_live place ≡ true) ⊎ (suc (length places) ≤ zero)))
    go true l e = inr (e, inl l)
    go false l e = inl ((let same : no_cuts k ≡ pool = cc in sym same) ∙ ap no_cuts (let z : k ≡ k + zero = omega arith in z))
fit_there k (place ∷ places) (q ∷ pools) (suc i) pool e = go (fit_there (suc k) places pools i pool e)
  where
    go : (pool ≡ no_cuts (suc k + i)) ⊎ ((slice_get pools i ≡ Some pool) × ((passes_at is_live i places ≡ true) ⊎ (length places ≤ i)))
        → (pool ≡ no_cuts (k + suc i)) ⊎ ((slice_get pools i ≡ Some pool) × ((passes_at is_live i places ≡ true) ⊎ (suc (length places) ≤ suc i)))
    go (inl h) = inl (h ∙ ap no_cuts (let z : suc k + i ≡ k + suc i = omega arith in z))
    go (inr (h, inl l)) = inr (h, inl l)
    go (inr (h, inr l)) = inr (h, inr (omega (arith, l)))

-- a due of a pool is of its bank
bank_is : (bank other : Bank) (n pool : ℕ) → (same_bank bank other && eqb pool n) ≡ true → other ≡ bank
bank_is Plain Plain n pool e = refl
bank_is Plain Cone n pool e = absurd (let no : false ≡ true = e in cc)
bank_is Cone Plain n pool e = absurd (let no : false ≡ true = e in cc)
bank_is Cone Cone n pool e = refl

-- where no node comes or goes, live nodes stay so
keeps_live : (p : Program) (e : Edit) → is_grown e ≡ false → (n : ℕ) → Lives p n → Lives (after p e) n
keeps_live p (Set name entry v) g n l = changed-live n (home_of p name entry) (with_value p entry v) p.nodes ∙ l
keeps_live p (Prob name q) g n l = l
keeps_live p (Drop name) g n l = absurd (cc)
keeps_live p (Add name parent q t) g n l = absurd (cc)

-- ---- an edit
module _ (p : Program) (e : Edit) (versions : List Version) (i : IsProgram p) (w : HasWidths p) (a : Applies p e) (long : length p.nodes ≤ length versions)
    (rows_few : (n : ℕ) → (version_of versions n).rows < 2 ^ 32 - 1) (costs_few : (n : ℕ) → (version_of versions n).costs < 2 ^ 32 - 1) where
  -- the book of a bank, by the versions before
  abbrev edit_book : Bank → Book
  edit_book bank = from_versions versions (book (kind_of bank) p (e ∷ []))

  right_before : (kind : Kind) (n : ℕ) → Lives p n → IsRight (view_in kind p) (book kind p (e ∷ [])) n 0 0
  right_before kind n l = node-right edits_keep_programs kind p (e ∷ []) i (a, tt) 0 n l

  right_behind : (kind : Kind) (n : ℕ) → Lives (after p e) n
      → IsRight (view_in kind (after p e)) (book kind p (e ∷ [])) n (one_if (touches_rows p e n) + 0) (one_if (touches_costs p e n) + 0)
  right_behind kind n l = node-right edits_keep_programs kind p (e ∷ []) i (a, tt) 1 n l

  -- ---- a record behind the sweeps
  carries : (t : Touch) → IsAmong t (touches_of p e versions) → t.version ≡ standing t.part t.node (raised_versions p e versions)
  carries t among = each_among (λ u. u.version ≡ standing u.part u.node (raised_versions p e versions)) (touches_of p e versions) t among (touches_stand p e versions i a long)

  -- no stamp of the record rests on a touch of its node
  abbrev RestsOnNoTouch : Source → Type 0
  RestsOnNoTouch s = (t : Touch) → IsAmong t (touches_of p e versions) → t.node ≡ s.node → any_rests (own_stamps s) t ≡ false

  is_up_to_date : (s : Source) → IsBetween p versions (raised_versions p e versions) s → RestsOnNoTouch s → IsUpToDate (after p e) (raised_versions p e versions) s
  is_up_to_date s h none = record {
    live = stays_live p e versions i a long s.node h.live (live (touches_whole p e s.node) refl);
    rows = rows (touches_rows p e s.node) refl h.rows;
    costs = λ k. costs k (touches_costs p e s.node) refl;
    form = h.form;
  }
    where
      live : (b : Bool) → touches_whole p e s.node ≡ b → touches_whole p e s.node ≡ false
      live false q = q
      live true q =
          let f : FindsTouch is_gone s.node (touches_of p e versions) = found_touch is_gone s.node (touches p e) versions q in
          let no : true ≡ false = not_resting (rows_stamp s) f.touch Gone f.node (gone_alone f.touch.part f.passes) (own_rows s f.touch (none f.touch f.among f.node)) in
          absurd (cc)

      rows : (b : Bool) → touches_rows p e s.node ≡ b
          → (s.rows_version ≡ (version_of versions s.node).rows) ⊎ (s.rows_version ≡ (version_of (raised_versions p e versions) s.node).rows)
          → s.rows_version ≡ (version_of (raised_versions p e versions) s.node).rows
      rows b q (inr same) = same
      rows false q (inl same) =
          let up : (version_of (raised_versions p e versions) s.node).rows ≡ one_if (touches_rows p e s.node) + (version_of versions s.node).rows =
          rows_behind p e versions i a long s.node (rows_few s.node) in
          let none_more : one_if (touches_rows p e s.node) ≡ 0 = ap one_if q in
          omega (arith, same, up, none_more)
      rows true q (inl same) =
          let up : (version_of (raised_versions p e versions) s.node).rows ≡ one_if (touches_rows p e s.node) + (version_of versions s.node).rows =
          rows_behind p e versions i a long s.node (rows_few s.node) in
          let one_more : one_if (touches_rows p e s.node) ≡ 1 = ap one_if q in
          let f : FindsTouch is_rows s.node (touches_of p e versions) = found_touch is_rows s.node (touches p e) versions q in
          let part : f.touch.part ≡ Rows = rows_alone f.touch.part f.passes in
          let most : f.touch.version ≤ s.rows_version = ltb-false s.rows_version f.touch.version
          (not_resting (rows_stamp s) f.touch Rows f.node part (own_rows s f.touch (none f.touch f.among f.node))) in
          let stands : f.touch.version ≡ (version_of (raised_versions p e versions) s.node).rows =
          carries f.touch f.among ∙ ap₂ (λ x n. standing x n (raised_versions p e versions)) part f.node in
          absurd (omega (arith, same, up, one_more, most, stands))

      costs : s.kind ≡ Bound → (b : Bool) → touches_costs p e s.node ≡ b → s.costs_version ≡ (version_of (raised_versions p e versions) s.node).costs
      costs k false q =
          let up : (version_of (raised_versions p e versions) s.node).costs ≡ one_if (touches_costs p e s.node) + (version_of versions s.node).costs =
          costs_behind p e versions i a long s.node (costs_few s.node) in
          let none_more : one_if (touches_costs p e s.node) ≡ 0 = ap one_if q in
          omega (arith, h.costs k, up, none_more)
      costs k true q =
          let up : (version_of (raised_versions p e versions) s.node).costs ≡ one_if (touches_costs p e s.node) + (version_of versions s.node).costs =
          costs_behind p e versions i a long s.node (costs_few s.node) in
          let one_more : one_if (touches_costs p e s.node) ≡ 1 = ap one_if q in
          let f : FindsTouch is_costs s.node (touches_of p e versions) = found_touch is_costs s.node (touches p e) versions q in
          let part : f.touch.part ≡ Costs = costs_alone f.touch.part f.passes in
          let most : f.touch.version ≤ s.costs_version = ltb-false s.costs_version f.touch.version
          (not_resting (costs_stamp s) f.touch Costs f.node part (own_costs s f.touch k (none f.touch f.among f.node))) in
          let stands : f.touch.version ≡ (version_of (raised_versions p e versions) s.node).costs =
          carries f.touch f.among ∙ ap₂ (λ x n. standing x n (raised_versions p e versions)) part f.node in
          absurd (omega (arith, h.costs k, up, one_more, most, stands))

  -- a used cut stands below
  stands_below : (bank : Bank) (n m k : ℕ) (weight : ℚ) → Lives p m → Lives p k → IsStoredUse (edit_book bank) m weight k → IsUnder (view_of p) n m → IsUnder (view_of p) n k
  stands_below bank n m k weight live_m live_k used u =
      let here = right_before (kind_of bank) m live_m in
      let there = right_before (kind_of bank) k live_k in
      let parent : (view_of p).parent k ≡ m = parent_here (kind_of bank) p k ∙ there.parent ∙ used.parent in
      let stage : (view_of p).stage k ≡ suc ((view_of p).stage m) =
      stage_here (kind_of bank) p k ∙ there.stage ∙ used.stage ∙ ap (λ (x : ℕ). suc x) (sym (stage_here (kind_of bank) p m ∙ here.stage)) in
      record {
        steps = suc u.steps;
        reach = ap (upwards (view_of p) u.steps) parent ∙ u.reach;
        stage = (let above : (view_of p).stage m ≡ u.steps + (view_of p).stage n = u.stage in omega (arith, stage, above));
      }

  mutual
    -- so it is of all records of a cut below node n that doesn't rest on a touch of a node below n
    all_up_to_date : (bank : Bank) (n : ℕ) (cut : Stored) → IsMadeFor (edit_book bank) cut → EachRecord (IsBetween p versions (raised_versions p e versions)) cut
        → IsUnder (view_of p) n (source_of cut).node
        → ((t : Touch) → IsAmong t (touches_of p e versions) → IsUnder (view_of p) n t.node → reaches cut t ≡ false)
        → EachRecord (IsUpToDate (after p e) (raised_versions p e versions)) cut
    all_up_to_date bank n (Stored_of s uses constant form) m h u none = (
      is_up_to_date s h.0 (λ t among at. (neither (any_rests (own_stamps s) t) (any_reaches uses t) (none t among (subst (IsUnder (view_of p) n) (sym at) u))).0),
      used_up_to_date bank n s h.0 u uses m.1 h.1 (λ t among under. (neither (any_rests (own_stamps s) t) (any_reaches uses t) (none t among under)).1),
    )

    used_up_to_date : (bank : Bank) (n : ℕ) (s : Source) → IsBetween p versions (raised_versions p e versions) s → IsUnder (view_of p) n s.node → (uses : StoredUses)
        → AreMadeFor (edit_book bank) s.node uses → EachUsed (IsBetween p versions (raised_versions p e versions)) uses
        → ((t : Touch) → IsAmong t (touches_of p e versions) → IsUnder (view_of p) n t.node → any_reaches uses t ≡ false)
        → EachUsed (IsUpToDate (after p e) (raised_versions p e versions)) uses
    used_up_to_date bank n s at u No_stored m h none = tt
    used_up_to_date bank n s at u (Use_stored weight cut uses) m h none =
        let first = of_first (IsBetween p versions (raised_versions p e versions)) cut h.0 in (
          all_up_to_date bank n cut m.1 h.0 (stands_below bank n s.node (source_of cut).node weight at.live first.live m.0 u)
              (λ t among under. (neither (reaches cut t) (any_reaches uses t) (none t among under)).0),
          used_up_to_date bank n s at u uses m.2 h.1 (λ t among under. (neither (reaches cut t) (any_reaches uses t) (none t among under)).1),
        )

  -- ---- the sweeps
  -- a due of the edit
  record IsDueOf (due : Due) : Type 0 where
    touch : IsAmong due.touch (touches_of p e versions)
    shift : IsShiftOf (edit_book due.bank) due.shift

  shift_of_book : (bank : Bank) (t : Touch) → IsShiftOf (edit_book bank) (carried bank t (shift_of p e (rows_version (touches_of p e versions))))
  shift_of_book bank t = go (shift_of p e (rows_version (touches_of p e versions))) refl
    where
      go : (o : Option Shift) → shift_of p e (rows_version (touches_of p e versions)) ≡ o → IsShiftOf (edit_book bank) (carried bank t o)
      go None q = tt
      go (Some s) q = carried_of (edit_book bank) bank t s (edit_shifts p e versions (rows_version (touches_of p e versions)) s bank i a w q
          (shift_version p e versions s q (λ n. omega (arith, rows_few n))))

  dues_are : Each IsDueOf (dues_of p e versions)
  dues_are = each_due IsDueOf (view_of p) (touches_of p e versions) (shift_of p e (rows_version (touches_of p e versions))) (touches_of p e versions)
      (all_among (λ t. (bank : Bank) (n : ℕ) → IsDueOf (record { bank = bank; pool = n; touch = t; shift = carried bank t (shift_of p e (rows_version (touches_of p e versions))) }))
      (touches_of p e versions) (λ t among bank n. record { touch = among; shift = shift_of_book bank t }))

  abbrev CutsBetween : Bank → ℕ → Held → Type 0
  CutsBetween bank n pool = Each (IsCutBetween p versions (raised_versions p e versions) (edit_book bank) n) pool.cuts

  repaired_between : (bank : Bank) (n : ℕ) (due : Due) → IsDueOf due → is_due bank n due ≡ true → (s : Shift) (c : Stored) → fitting due.touch due.shift ≡ Some s
      → IsCutBetween p versions (raised_versions p e versions) (edit_book bank) n c
      → IsCutBetween p versions (raised_versions p e versions) (edit_book bank) n (repair s c)
  repaired_between bank n due h at s c fits b =
      let f = fitting_is due.touch due.shift s fits in
      let of_book : IsShift (edit_book due.bank) s = subst (IsShiftOf (edit_book due.bank)) f.0 h.shift in
      let here : IsShift (edit_book bank) s = subst (λ (x : Bank). IsShift (edit_book x) s) (bank_is bank due.bank n due.pool at) of_book in
      let stands : s.version ≡ (version_of (raised_versions p e versions) s.node).rows =
      subst (λ (t : Touch). t.version ≡ standing t.part t.node (raised_versions p e versions)) f.1 (carries due.touch h.touch) in
      record {
        node = repaired_node s c ∙ b.node;
        records = each_repaired (IsBetween p versions (raised_versions p e versions)) s (moved_between p versions (raised_versions p e versions) s stands) c b.records;
        made = repairs_are_made (edit_book bank) s c here b.made;
      }

  sweeps_between : (bank : Bank) (n : ℕ)
      → Each (λ (due : Due). is_due bank n due ≡ true → (pool : Held) → CutsBetween bank n pool → CutsBetween bank n (swept_for due pool)) (dues_of p e versions)
  sweeps_between bank n = each-map {P = IsDueOf}
      {Q = λ (due : Due). is_due bank n due ≡ true → (pool : Held) → CutsBetween bank n pool → CutsBetween bank n (swept_for due pool)}
      (λ (due : Due) h at pool cs. sweep_keeps (IsCutBetween p versions (raised_versions p e versions) (edit_book bank) n) due pool
      (λ s c fits b. repaired_between bank n due h at s c fits b) cs) (dues_of p e versions) dues_are

  -- ---- the cuts of a pool
  now_between : (bank : Bank) (n : ℕ) (c : Stored) → IsCutNow p versions n c → IsMadeFor (book (kind_of bank) p []) c
      → IsCutBetween p versions (raised_versions p e versions) (edit_book bank) n c
  now_between bank n c now made = record {
    node = now.node;
    records = each_record (IsUpToDate p versions) (IsBetween p versions (raised_versions p e versions))
        (λ s u. record { live = u.live; rows = inl u.rows; costs = u.costs; form = u.form }) c now.records;
    made = rebooked (book (kind_of bank) p []) (edit_book bank) c
        (each_record (IsUpToDate p versions) (SaysSame (book (kind_of bank) p []) (edit_book bank))
        (λ s u. said_of (kind_of bank) p versions (book (kind_of bank) p (e ∷ [])) s 0 0 (right_before (kind_of bank) s.node u.live)
        (let same : s.rows_version ≡ (version_of versions s.node).rows = u.rows in omega (arith, same))
        (λ k. (let same : s.costs_version ≡ (version_of versions s.node).costs = u.costs k in omega (arith, same)))) c now.records) made;
  }

  -- a cut that is made and up to date
  record IsCutBehind (bank : Bank) (n : ℕ) (c : Stored) : Type 0 where
    now : IsCutNow (after p e) (raised_versions p e versions) n c
    made : IsMadeFor (book (kind_of bank) (after p e) []) c

  made_behind : (bank : Bank) (c : Stored) → IsMadeFor (edit_book bank) c → EachRecord (IsUpToDate (after p e) (raised_versions p e versions)) c
      → IsMadeFor (book (kind_of bank) (after p e) []) c
  made_behind bank c made h = rebooked (edit_book bank) (book (kind_of bank) (after p e) []) c
      (each_record (IsUpToDate (after p e) (raised_versions p e versions)) (SaysSame (edit_book bank) (book (kind_of bank) (after p e) []))
      (λ s u. said_back (book (kind_of bank) (after p e) []) (edit_book bank) s (said_of (kind_of bank) (after p e) versions (book (kind_of bank) p (e ∷ [])) s
      (one_if (touches_rows p e s.node) + 0) (one_if (touches_costs p e s.node) + 0) (right_behind (kind_of bank) s.node u.live)
      (let same : s.rows_version ≡ (version_of (raised_versions p e versions) s.node).rows = u.rows in
      let up : (version_of (raised_versions p e versions) s.node).rows ≡ one_if (touches_rows p e s.node) + (version_of versions s.node).rows =
      rows_behind p e versions i a long s.node (rows_few s.node) in
      omega (arith, same, up))
      (λ k. (let same : s.costs_version ≡ (version_of (raised_versions p e versions) s.node).costs = u.costs k in
      let up : (version_of (raised_versions p e versions) s.node).costs ≡ one_if (touches_costs p e s.node) + (version_of versions s.node).costs =
      costs_behind p e versions i a long s.node (costs_few s.node) in
      omega (arith, same, up))))) c h) made

  -- a touch of the edit of a node that is n or stands below it
  abbrev IsTold : ℕ → Touch → Type 0
  IsTold n t = IsAmong t (touches_of p e versions) × IsUnder (view_of p) n t.node

  -- what the sweeps leave in the pool of a node above the root that is live before and behind
  cuts_behind : (bank : Bank) (n : ℕ) (pool : Held) → Each (IsCutNow p versions n) pool.cuts → AllMadeFor (book (kind_of bank) p []) pool → Lives p n → Lives (after p e) n
      → (n ≡ 0 → ⊥) → pool.number + length (dues_of p e versions) < 18446744073709551615
      → Each (IsCutBehind bank n) (pool_after bank n (dues_of p e versions) pool).cuts
  cuts_behind bank n pool now made before behind above few =
      each-both {P = IsCutBetween p versions (raised_versions p e versions) (edit_book bank) n} {Q = λ c. (t : Touch) → IsTold n t → cut_rests c t ≡ false}
      {R = IsCutBehind bank n}
      is_behind (pool_after bank n (dues_of p e versions) pool).cuts
      (after_each (CutsBetween bank n) bank n (dues_of p e versions) (sweeps_between bank n) pool
      (each-both {P = IsCutNow p versions n} {Q = IsMadeFor (book (kind_of bank) p [])}
      {R = IsCutBetween p versions (raised_versions p e versions) (edit_book bank) n}
      (λ c k m. now_between bank n c k m) pool.cuts now made))
      (told_each (λ c t. cut_rests c t ≡ false) (IsTold n) (pool_after bank n (dues_of p e versions) pool).cuts
      (λ t told. none_rests t bank n (dues_of p e versions) pool
      (swept_for_touch (view_of p) (touches_of p e versions) bank (shift_of p e (rows_version (touches_of p e versions))) n above left (touches_of p e versions) t told.0 told.1) few))
    where
      left : is_gone_in n (touches_of p e versions) ≡ false
      left = gone_as_told n (touches p e) versions ∙ is_left p e versions i a long n (passes-within is_live n p.nodes before) behind

      is_behind : (c : Stored) → IsCutBetween p versions (raised_versions p e versions) (edit_book bank) n c → ((t : Touch) → IsTold n t → cut_rests c t ≡ false) → IsCutBehind bank n c
      is_behind c b none =
          let itself : IsUnder (view_of p) n n = record { steps = 0; reach = refl; stage = omega arith } in
          let all : EachRecord (IsUpToDate (after p e) (raised_versions p e versions)) c =
          all_up_to_date bank n c b.made b.records (subst (IsUnder (view_of p) n) (sym b.node) itself)
          (λ t among under. sym (supports_are_exact.rests c t) ∙ none t (among, under)) in
          record { now = record { node = b.node; records = all }; made = made_behind bank c b.made all }

  -- ---- a pool
  -- a pool of node n that has no cut, or whose node is live before and behind
  record IsReady (bank : Bank) (most n : ℕ) (pool : Held) : Type 0 where
    kept : IsKeptAt p versions most n pool
    made : AllMadeFor (book (kind_of bank) p []) pool
    settled : (pool.cuts ≡ []) ⊎ (Lives p n × Lives (after p e) n)

  still_empty : (bank : Bank) (n : ℕ) (pool : Held) → pool.cuts ≡ [] → (pool_after bank n (dues_of p e versions) pool).cuts ≡ []
  still_empty bank n pool none = after_each (λ x. x.cuts ≡ []) bank n (dues_of p e versions)
      (each-all {P = λ (due : Due). is_due bank n due ≡ true → (x : Held) → x.cuts ≡ [] → (swept_for due x).cuts ≡ []} (λ due at x h. sweep_empties due x h) (dues_of p e versions))
      pool none

  cuts_left : (bank : Bank) (most n : ℕ) (pool : Held) → IsReady bank most n pool → most + length (dues_of p e versions) < 18446744073709551615
      → Each (IsCutBehind bank n) (pool_after bank n (dues_of p e versions) pool).cuts
  cuts_left bank most n pool ready few = go ready.settled
    where
      when_empty : pool.cuts ≡ [] → Each (IsCutBehind bank n) (pool_after bank n (dues_of p e versions) pool).cuts
      when_empty none = subst (Each (IsCutBehind bank n)) (sym (still_empty bank n pool none)) tt

      by : (b : Bool) → eqb n 0 ≡ b → Lives p n → Lives (after p e) n → Each (IsCutBehind bank n) (pool_after bank n (dues_of p e versions) pool).cuts
      by true z before behind = when_empty (ready.kept.root (eqb-true n 0 z))
      by false z before behind = cuts_behind bank n pool ready.kept.cuts ready.made before behind (eqb-false n 0 z) (let least : pool.number ≤ most = ready.kept.few in omega (arith, least, few))

      go : (pool.cuts ≡ []) ⊎ (Lives p n × Lives (after p e) n) → Each (IsCutBehind bank n) (pool_after bank n (dues_of p e versions) pool).cuts
      go (inl none) = when_empty none
      go (inr (before, behind)) = by (eqb n 0) refl before behind

  -- what was known stays old news
  still_old : (t : Touch) → t.node < length p.nodes → IsOldNews p versions t → IsOldNews (after p e) (raised_versions p e versions) t
  still_old t less old l = go t.part (old (was-live p e t.node less l))
    where
      go : (part : Part) → IsNoNewer part t.version (version_of versions t.node) → IsNoNewer part t.version (version_of (raised_versions p e versions) t.node)
      go Rows h =
          let up : (version_of (raised_versions p e versions) t.node).rows ≡ one_if (touches_rows p e t.node) + (version_of versions t.node).rows =
          rows_behind p e versions i a long t.node (rows_few t.node) in
          let before : t.version ≤ (version_of versions t.node).rows = h in
          omega (arith, up, before)
      go Costs h =
          let up : (version_of (raised_versions p e versions) t.node).costs ≡ one_if (touches_costs p e t.node) + (version_of versions t.node).costs =
          costs_behind p e versions i a long t.node (costs_few t.node) in
          let before : t.version ≤ (version_of versions t.node).costs = h in
          omega (arith, up, before)
      go Gone h = h

  knows_behind : (P : Touch → Type 0) (bank : Bank) (n : ℕ) (pool : Held) → ((t : Touch) → IsAmong t (touches_of p e versions) → P t) → Each P pool.known
      → Each P (pool_after bank n (dues_of p e versions) pool).known
  knows_behind P bank n pool f h = after_each (λ x. Each P x.known) bank n (dues_of p e versions)
      (each-map {P = IsDueOf} {Q = λ (due : Due). is_due bank n due ≡ true → (x : Held) → Each P x.known → Each P (swept_for due x).known}
      (λ due d at x k. sweep_knows P due x (f due.touch d.touch) k) (dues_of p e versions) dues_are) pool h

  kept_behind : (bank : Bank) (most n : ℕ) (pool : Held) → IsReady bank most n pool → most + length (dues_of p e versions) < 18446744073709551615
      → IsKeptAt (after p e) (raised_versions p e versions) (most + length (dues_of p e versions)) n (pool_after bank n (dues_of p e versions) pool)
  kept_behind bank most n pool ready few = record {
    node = after_each (λ x. x.node ≡ n) bank n (dues_of p e versions)
        (each-all {P = λ (due : Due). is_due bank n due ≡ true → (x : Held) → x.node ≡ n → (swept_for due x).node ≡ n} (λ due at x h. sweep_stays n due x h) (dues_of p e versions))
        pool ready.kept.node;
    cuts = each-map {P = IsCutBehind bank n} {Q = IsCutNow (after p e) (raised_versions p e versions) n} (λ c b. b.now)
        (pool_after bank n (dues_of p e versions) pool).cuts (cuts_left bank most n pool ready few);
    root = λ z. still_empty bank n pool (ready.kept.root z);
    known = knows_behind (IsOldNews (after p e) (raised_versions p e versions)) bank n pool (touches_are_old p e versions i a long)
        (each-both {P = λ (t : Touch). t.node < length p.nodes} {Q = IsOldNews p versions} {R = IsOldNews (after p e) (raised_versions p e versions)} still_old pool.known
        ready.kept.places ready.kept.known);
    places = knows_behind (λ (t : Touch). t.node < length (after p e).nodes) bank n pool
        (λ t among. within t (each_among (λ (u : Touch). u.node < length p.nodes) (touches_of p e versions) t among (touched_places p e versions i a long)))
        (each-map {P = λ (t : Touch). t.node < length p.nodes} {Q = λ (t : Touch). t.node < length (after p e).nodes} within pool.known ready.kept.places);
    few = (let least : pool.number ≤ most = ready.kept.few in
        let more : (pool_after bank n (dues_of p e versions) pool).number ≤ pool.number + length (dues_of p e versions) = after_counts bank n (dues_of p e versions) pool in
        omega (arith, least, more));
  }
    where
      within : (t : Touch) → t.node < length p.nodes → t.node < length (after p e).nodes
      within t less = let g : length p.nodes ≤ length (after p e).nodes = grows p e in omega (arith, less, g)

  -- ---- the pools of a bank
  none_or_live : (most n : ℕ) (pool : Held) → IsKeptAt p versions most n pool → (pool.cuts ≡ []) ⊎ Lives p n
  none_or_live most n pool k = go pool.cuts k.cuts
    where
      go : (cs : List Stored) → Each (IsCutNow p versions n) cs → (cs ≡ []) ⊎ Lives p n
      go [] h = inl refl
      go (c ∷ cs) h = inr (subst (Lives p) h.0.node (let first = of_first (IsUpToDate p versions) c h.0.records in first.live))

  ready_in : (bank : Bank) (most : ℕ) (grown : Bool) → is_grown e ≡ grown → (pools : List Held) → AreKept p versions most pools
      → Each (AllMadeFor (book (kind_of bank) p [])) pools → (n : ℕ) (pool : Held)
      → slice_get (pick grown (fit_pools 0 (after p e).nodes pools) pools) n ≡ Some pool → IsReady bank most n pool
  ready_in bank most false g pools k made n pool h = record {
    kept = k n pool h;
    made = each_there (AllMadeFor (book (kind_of bank) p [])) pools n pool made h;
    settled = go (none_or_live most n pool (k n pool h));
  }
    where
      go : (pool.cuts ≡ []) ⊎ Lives p n → (pool.cuts ≡ []) ⊎ (Lives p n × Lives (after p e) n)
      go (inl none) = inl none
      go (inr l) = inr (l, keeps_live p e g n l)
  ready_in bank most true g pools k made n pool h = go (fit_there 0 (after p e).nodes pools n pool h)
    where
      empty : IsReady bank most n (no_cuts n)
      empty = record {
        kept = record { node = refl; cuts = tt; root = λ z. refl; known = tt; places = tt; few = omega arith };
        made = tt;
        settled = inl refl;
      }

      there : slice_get pools n ≡ Some pool → (passes_at is_live n (after p e).nodes ≡ true) ⊎ (length (after p e).nodes ≤ n)
          → (pool.cuts ≡ []) ⊎ Lives p n → (pool.cuts ≡ []) ⊎ (Lives p n × Lives (after p e) n)
      there q place (inl none) = inl none
      there q (inl behind) (inr l) = inr (l, behind)
      there q (inr past) (inr l) = absurd (
          let less : n < length p.nodes = passes-within is_live n p.nodes l in
          let more : length p.nodes ≤ length (after p e).nodes = grows p e in
          omega (arith, less, more, past))

      go : (pool ≡ no_cuts (0 + n)) ⊎ ((slice_get pools n ≡ Some pool) × ((passes_at is_live n (after p e).nodes ≡ true) ⊎ (length (after p e).nodes ≤ n)))
          → IsReady bank most n pool
      go (inl same) = subst (IsReady bank most n) (sym (same ∙ ap no_cuts (let z : 0 + n ≡ n = omega arith in z))) empty
      go (inr (q, place)) = record {
        kept = k n pool q;
        made = each_there (AllMadeFor (book (kind_of bank) p [])) pools n pool made q;
        settled = there q place (none_or_live most n pool (k n pool q));
      }

  pools_are_kept : (bank : Bank) (most : ℕ) (grown : Bool) → is_grown e ≡ grown → (pools : List Held) → AreKept p versions most pools
      → Each (AllMadeFor (book (kind_of bank) p [])) pools → most + length (dues_of p e versions) < 18446744073709551615
      → AreKept (after p e) (raised_versions p e versions) (most + length (dues_of p e versions))
      (pools_after bank 0 (dues_of p e versions) (pick grown (fit_pools 0 (after p e).nodes pools) pools))
  pools_are_kept bank most grown g pools k made few n new h =
      let left = left_there bank 0 (dues_of p e versions) (pick grown (fit_pools 0 (after p e).nodes pools) pools) n new h in
      subst (IsKeptAt (after p e) (raised_versions p e versions) (most + length (dues_of p e versions)) n)
      (sym (left.is ∙ ap (λ m. pool_after bank m (dues_of p e versions) left.old) (let z : 0 + n ≡ n = omega arith in z)))
      (kept_behind bank most n left.old (ready_in bank most grown g pools k made n left.old left.there) few)

  pools_are_made : (bank : Bank) (most : ℕ) (grown : Bool) → is_grown e ≡ grown → (pools : List Held) → AreKept p versions most pools
      → Each (AllMadeFor (book (kind_of bank) p [])) pools → most + length (dues_of p e versions) < 18446744073709551615
      → Each (AllMadeFor (book (kind_of bank) (after p e) [])) (pools_after bank 0 (dues_of p e versions) (pick grown (fit_pools 0 (after p e).nodes pools) pools))
  pools_are_made bank most grown g pools k made few =
      each_left (AllMadeFor (book (kind_of bank) (after p e) [])) bank 0 (dues_of p e versions) (pick grown (fit_pools 0 (after p e).nodes pools) pools)
      (λ n pool h. subst (λ m. AllMadeFor (book (kind_of bank) (after p e) []) (pool_after bank m (dues_of p e versions) pool)) (let z : n ≡ 0 + n = omega arith in z)
      (each-map {P = IsCutBehind bank n} {Q = IsMadeFor (book (kind_of bank) (after p e) [])} (λ c b. b.made) (pool_after bank n (dues_of p e versions) pool).cuts
      (cuts_left bank most n pool (ready_in bank most grown g pools k made n pool h) few)))

-- ---- both banks
pub edits_keep_cuts : EditsKeepCuts
edits_keep_cuts p e versions most banks i w a long rows_few costs_few few k = go (is_grown e) refl
  where
    go : (grown : Bool) → is_grown e ≡ grown
        → CutsAreNow (after p e) (raised_versions p e versions) (most + length (dues_of p e versions))
        (swept_banks (dues_of p e versions) (pick grown (fit_banks (after p e).nodes banks) banks))
    go true g = record {
      made = record {
        plain = pools_are_made p e versions i w a long rows_few costs_few Plain most true g banks.plain k.kept.plain k.made.plain few;
        cone = pools_are_made p e versions i w a long rows_few costs_few Cone most true g banks.cone k.kept.cone k.made.cone few;
      };
      kept = record {
        plain = pools_are_kept p e versions i w a long rows_few costs_few Plain most true g banks.plain k.kept.plain k.made.plain few;
        cone = pools_are_kept p e versions i w a long rows_few costs_few Cone most true g banks.cone k.kept.cone k.made.cone few;
      };
    }
    go false g = record {
      made = record {
        plain = pools_are_made p e versions i w a long rows_few costs_few Plain most false g banks.plain k.kept.plain k.made.plain few;
        cone = pools_are_made p e versions i w a long rows_few costs_few Cone most false g banks.cone k.kept.cone k.made.cone few;
      };
      kept = record {
        plain = pools_are_kept p e versions i w a long rows_few costs_few Plain most false g banks.plain k.kept.plain k.made.plain few;
        cone = pools_are_kept p e versions i w a long rows_few costs_few Cone most false g banks.cone k.kept.cone k.made.cone few;
      };
    }
