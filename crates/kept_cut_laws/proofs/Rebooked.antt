-- Cuts that are made for one book are made for another that says the same of their records; and the book of an edit, by the versions
-- before it.
use Rattle.std.proofs.Common.{◌≡◌, ℕ, suc, ◌-◌, Bool, true, false, List, [], ◌∷◌, map, Some, None, refl, sym, ap, subst, ◌∙◌, arith}
use Rattle.rationals.specs.Passes.{passes}
use Rattle.rationals.specs.declared.Op.TheVariants.{Sub}
use Rattle.rationals.specs.Choices.{pick}
use Rattle.smps_words.specs.declared.entry.Entry.TheVariants.{Cost as CostEntry, Matrix, Rhs}
use Rattle.scen_defs.specs.Lists.{Once}
use Rattle.scen_defs.specs.declared.program.NodeRow.{NodeRow}
use Rattle.scen_defs.specs.declared.report.Kind.{Kind}
use Rattle.scen_defs.specs.declared.report.Kind.TheVariants.{Feasible, Recession, Cost}
use Rattle.scen_defs.specs.Program.{Program, view_of}
use Rattle.scen_defs.specs.Valid.{IsProgram}
use Rattle.cut_defs.specs.declared.kinds.Bank.{Bank}
use Rattle.cut_defs.specs.declared.kinds.Bank.TheVariants.{Plain, Cone}
use Rattle.cut_defs.specs.declared.kinds.CutKind.TheVariants.{Bound}
use Rattle.cut_defs.specs.declared.versions.Shift.{Shift}
use Rattle.cut_defs.specs.Data.{Book, IsRight, datum_of, bounds_of}
use Rattle.cut_defs.specs.Repairs.{IsShift, moved_row}
use Rattle.cut_defs.specs.Stored.{Source, Stored, StoredUses, source_of, IsMadeFor, AreMadeFor}
use Rattle.cut_defs.specs.Stored.Stored.{Stored_of}
use Rattle.cut_defs.specs.Stored.StoredUses.{No_stored, Use_stored}
use Rattle.cut_defs.proofs.MadeFor.{cuts_are_made_for}
use Rattle.edit_defs.specs.declared.edit.Edit.{Edit}
use Rattle.edit_defs.specs.declared.edit.Edit.TheVariants.{Set, Prob, Drop, Add}
use Rattle.edit_defs.specs.After.{home_of}
use Rattle.edit_defs.specs.Applies.{Applies}
use Rattle.edit_defs.specs.Data.{view_in, book}
use Rattle.edit_defs.specs.Shifts.{HasWidths, new_side, old_side, move}
use Rattle.edit_retire.specs.Dues.{in_bank}
use Rattle.edit_retire.specs.Shifted.{shift_of}
use Rattle.edit_retire.specs.Laws.{kind_of}
use Rattle.edit_retire.proofs.ShiftLaws.{shifts_are_the_books}
use Rattle.node_data.specs.declared.versions.Version.{Version}
use Rattle.node_data.specs.Counts.{version_of}
use Rattle.kept_cut_laws.specs.Kept.{EachRecord, EachUsed}

-- ---- records
-- what holds of each record holds of the first
pub of_first : (Has : Source → Type 0) (cut : Stored) → EachRecord Has cut → Has (source_of cut)
of_first Has (Stored_of s uses constant form) h = h.0

mutual
  pub each_record : (Has Also : Source → Type 0) → ((s : Source) → Has s → Also s) → (cut : Stored) → EachRecord Has cut → EachRecord Also cut
  each_record Has Also f (Stored_of s uses constant form) h = (f s h.0, each_used Has Also f uses h.1)

  each_used : (Has Also : Source → Type 0) → ((s : Source) → Has s → Also s) → (uses : StoredUses) → EachUsed Has uses → EachUsed Also uses
  each_used Has Also f No_stored h = tt
  each_used Has Also f (Use_stored w cut uses) h = (each_record Has Also f cut h.0, each_used Has Also f uses h.1)

-- ---- two books
-- what both say of a record's node with its versions, as far as it counts for the record
pub record SaysSame (a b : Book) (s : Source) : Type 0 where
  pub rows : a.rows s.node s.rows_version ≡ b.rows s.node s.rows_version
  pub bounds : a.bounds s.node ≡ b.bounds s.node
  pub cost : s.kind ≡ Bound → a.cost s.node s.costs_version ≡ b.cost s.node s.costs_version
  pub shares : s.kind ≡ Bound → a.shares s.node s.costs_version ≡ b.shares s.node s.costs_version
  pub stage : a.stage s.node ≡ b.stage s.node
  pub parent : a.parent s.node ≡ b.parent s.node

pub said_back : (a b : Book) (s : Source) → SaysSame a b s → SaysSame b a s
said_back a b s h = record {
  rows = sym h.rows;
  bounds = sym h.bounds;
  cost = λ k. sym (h.cost k);
  shares = λ k. sym (h.shares k);
  stage = sym h.stage;
  parent = sym h.parent;
}

mutual
  pub rebooked : (a b : Book) (cut : Stored) → EachRecord (SaysSame a b) cut → IsMadeFor a cut → IsMadeFor b cut
  rebooked a b (Stored_of s uses constant form) h m =
      cuts_are_made_for b (datum_of a s.node s.rows_version s.costs_version) s uses constant form
      (record { rows = h.0.rows; bounds = h.0.bounds; cost = h.0.cost; shares = h.0.shares }) m.0 (all_rebooked a b s h.0 uses h.1 m.1)

  all_rebooked : (a b : Book) (s : Source) → SaysSame a b s → (uses : StoredUses) → EachUsed (SaysSame a b) uses → AreMadeFor a s.node uses
      → AreMadeFor b s.node uses
  all_rebooked a b s at No_stored h m = tt
  all_rebooked a b s at (Use_stored w cut uses) h m =
      let top : SaysSame a b (source_of cut) = of_first (SaysSame a b) cut h.0 in (
        record { weight = m.0.weight; parent = sym top.parent ∙ m.0.parent; stage = sym top.stage ∙ m.0.stage ∙ ap (λ (k : ℕ). suc k) at.stage },
        rebooked a b cut h.0 m.1,
        all_rebooked a b s at uses h.1 m.2,
      )

-- ---- a book whose versions begin with given ones
abbrev pub from_versions : List Version → Book → Book
from_versions versions b = record b {
  rows = λ n v. b.rows n (v - (version_of versions n).rows);
  cost = λ n v. b.cost n (v - (version_of versions n).costs);
  shares = λ n v. b.shares n (v - (version_of versions n).costs);
}

-- the data of a program alone are said so by a book that is right of it
bounds_here : (kind : Kind) (p : Program) (n : ℕ) → map (bounds_of (view_in kind p)) ((view_of p).columns ((view_of p).stage n))
    ≡ map (bounds_of (view_in kind p)) ((view_in kind p).columns ((view_in kind p).stage n))
bounds_here Feasible p n = refl
bounds_here Recession p n = refl
bounds_here Cost p n = refl

pub stage_here : (kind : Kind) (p : Program) (n : ℕ) → (view_of p).stage n ≡ (view_in kind p).stage n
stage_here Feasible p n = refl
stage_here Recession p n = refl
stage_here Cost p n = refl

pub parent_here : (kind : Kind) (p : Program) (n : ℕ) → (view_of p).parent n ≡ (view_in kind p).parent n
parent_here Feasible p n = refl
parent_here Recession p n = refl
parent_here Cost p n = refl

pub said_of : (kind : Kind) (p : Program) (versions : List Version) (b : Book) (s : Source) (rows costs : ℕ) → IsRight (view_in kind p) b s.node rows costs
    → rows ≡ s.rows_version - (version_of versions s.node).rows → (s.kind ≡ Bound → costs ≡ s.costs_version - (version_of versions s.node).costs)
    → SaysSame (book kind p []) (from_versions versions b) s
said_of kind p versions b s rows costs h r c = record {
  rows = h.rows ∙ ap (λ v. b.rows s.node v) r;
  bounds = bounds_here kind p s.node ∙ h.bounds;
  cost = λ k. h.cost ∙ ap (λ v. b.cost s.node v) (c k);
  shares = λ k. h.shares ∙ ap (λ v. b.shares s.node v) (c k);
  stage = stage_here kind p s.node ∙ h.stage;
  parent = parent_here kind p s.node ∙ h.parent;
}

-- ---- the shift of an edit
-- with another version
shift_with : (p : Program) (e : Edit) (v w : ℕ) (s : Shift) → shift_of p e v ≡ Some s → (shift_of p e w ≡ Some (record s { version = w })) × (s.version ≡ v)
shift_with p (Set name (CostEntry j) x) v w s h = absurd (cc)
shift_with p (Set name (Matrix i j) x) v w s h = absurd (cc)
shift_with p (Set name (Rhs i) x) v w s h = go (passes Sub (new_side p i x) (old_side p name i)) h
  where
    given : ℕ → Shift
    given version = record { node = home_of p name (Rhs i); row = i; by = move p name i x; version = version }

    go : (t : Bool) → pick t None (Some (record { node = home_of p name (Rhs i); row = i; by = move p name i x; version = v })) ≡ Some s
        → (pick t None (Some (record { node = home_of p name (Rhs i); row = i; by = move p name i x; version = w })) ≡ Some (record s { version = w })) × (s.version ≡ v)
    go true q = absurd (cc)
    go false q =
        let same : record { node = home_of p name (Rhs i); row = i; by = move p name i x; version = v } ≡ s = cc in
        (ap (λ (y : Shift). Some (record y { version = w })) same, sym (ap (λ (y : Shift). y.version) same))
shift_with p (Prob name q) v w s h = absurd (cc)
shift_with p (Drop name) v w s h = absurd (cc)
shift_with p (Add name parent q t) v w s h = absurd (cc)

-- a shift of a book with the version 1 is one of the book whose versions begin with given ones, with the next
shifted_from : (versions : List Version) (b : Book) (s : Shift) → s.version ≡ suc (version_of versions s.node).rows → IsShift b (record s { version = 1 })
    → IsShift (from_versions versions b) s
shifted_from versions b s e h = record {
  rows = λ v up.
      (let one : s.version - (version_of versions s.node).rows ≡ 1 = omega (arith, e) in
      let none : 0 ≡ v - (version_of versions s.node).rows = omega (arith, e, up) in
      ap (λ k. b.rows s.node k) one ∙ h.rows 0 refl ∙ ap (λ k. map (moved_row s.row s.by) (b.rows s.node k)) none);
  once = λ v up.
      (let none : 0 ≡ v - (version_of versions s.node).rows = omega (arith, e, up) in
      subst (λ k. Once s.row (map (λ (r : NodeRow). r.row) (b.rows s.node k))) none (h.once 0 refl));
}

pub edit_shifts : (p : Program) (e : Edit) (versions : List Version) (v : ℕ) (s : Shift) (bank : Bank) → IsProgram p → Applies p e → HasWidths p
    → shift_of p e v ≡ Some s → v ≡ suc (version_of versions s.node).rows
    → IsShift (from_versions versions (book (kind_of bank) p (e ∷ []))) (in_bank bank s)
edit_shifts p e versions v s bank i a w h is = go bank (shifts_are_the_books p (e ∷ []) 0 e (record s { version = 1 }) bank i (a, tt) w refl with.0)
  where
    with : (shift_of p e 1 ≡ Some (record s { version = 1 })) × (s.version ≡ v)
    with = shift_with p e v 1 s h

    go : (bank : Bank) → IsShift (book (kind_of bank) p (e ∷ [])) (in_bank bank (record s { version = 1 }))
        → IsShift (from_versions versions (book (kind_of bank) p (e ∷ []))) (in_bank bank s)
    go Plain k = shifted_from versions (book Cost p (e ∷ [])) s (with.1 ∙ is) k
    go Cone k = shifted_from versions (book Recession p (e ∷ [])) (in_bank Cone s) (with.1 ∙ is) k
