-- A cut that is made for the book of one program is so whatever its versions are, and its assembly is good.
use Rattle.std.proofs.Common.{◌≡◌, ℕ, zero, suc, true, ◌&&◌, eqb, List, [], ◌∷◌, Option, Some, None, IfSome, Ok, refl, sym, ap, ap₂, subst, ◌∙◌}
use Rattle.rationals.specs.Rational.{ℚ, one_ℚ, ◌+ℚ◌, ◌-ℚ◌, ◌*ℚ◌, ◌≤ℚ◌}
use Rattle.rationals.specs.Passes.{mul_walk, then_walk}
use Rattle.rationals.specs.Sparse.{Entry, coefficient, value_if}
use Rattle.rationals.specs.Sums.{sum_ℚ}
use Rattle.scen_defs.specs.Lists.{passes_at}
use Rattle.scen_defs.specs.Ends.{IsGoodAt, worth}
use Rattle.scen_defs.specs.declared.program.NodeRow.{NodeRow}
use Rattle.scen_defs.specs.declared.report.Kind.{Kind}
use Rattle.scen_defs.specs.declared.report.Kind.TheVariants as run_kind
use Rattle.scen_defs.specs.Program.{Node, Program, is_live, node_at, view_of, IsLive}
use Rattle.scen_defs.specs.Flat.{IsRoot, IsGood, value}
use Rattle.scen_defs.specs.Valid.{Lives, IsProgram}
use Rattle.scen_defs.proofs.SumLaws.{each-map, sum-ext}
use Rattle.scen_defs.proofs.Valid.{once-passes, programs_are_trees}
use Rattle.cut_defs.specs.declared.kinds.CutKind.{CutKind}
use Rattle.cut_defs.specs.declared.kinds.CutKind.TheVariants.{Bound, Ray}
use Rattle.cut_defs.specs.declared.datum.ColumnBounds.{ColumnBounds}
use Rattle.cut_defs.specs.declared.datum.Share.{Share}
use Rattle.cut_defs.specs.Cuts.{is_bound, priced}
use Rattle.cut_defs.specs.Data.{Datum, datum_of}
use Rattle.cut_defs.specs.Stored.{Source, Stored, StoredUses, source_of, constant_of, form_of, form_sum, constant_sum, slope_of, cost_of, weight_on, StoredRays, WeightsFit, IsMadeFrom, IsMadeFor, AreMadeFor}
use Rattle.cut_defs.specs.Stored.Stored.{Stored_of}
use Rattle.cut_defs.specs.Stored.StoredUses.{No_stored, Use_stored}
use Rattle.cut_defs.specs.Current.{IsCurrent, AreCurrent, stored_flat}
use Rattle.cut_defs.proofs.Present.{current_is_present, stored_flats_are_good}
use Rattle.edit_defs.specs.Data.{view_in, history, book}
use Rattle.edit_defs.proofs.EditLaws.{scripts_make_books}
use Rattle.dual_assemble.specs.Laws.{flat_of}
use Rattle.dual_assemble.specs.Walks.{add_at, flat_from, flats_from}
use Rattle.dual_assemble.proofs.FlatEnds.{assembly_is_good}
use Rattle.pass_core.proofs.Parentage.{root_lives}
use Rattle.found_ends.specs.declared.ends.Bounded.{Bounded}
use Rattle.pass_core.specs.Made.{run_book, script_books, IsMadeAbout}
use Rattle.pass_core.specs.Assembled.{AssemblesWell, RootsAssembleWell, made_form, MadeEndsAssembleWell}

-- ---- the cut with version 0 everywhere
abbrev unversioned : Source → Source
unversioned s = record s { rows_version = 0; costs_version = 0 }

abbrev mutual
  anew : Stored → Stored
  anew (Stored_of s uses constant form) = Stored_of (unversioned s) (anews uses) constant form

  anews : StoredUses → StoredUses
  anews No_stored = No_stored
  anews (Use_stored w cut uses) = Use_stored w (anew cut) (anews uses)

same_node : (cut : Stored) → (source_of (anew cut)).node ≡ (source_of cut).node
same_node (Stored_of s uses constant form) = refl

same_kind : (cut : Stored) → (source_of (anew cut)).kind ≡ (source_of cut).kind
same_kind (Stored_of s uses constant form) = refl

same_form : (cut : Stored) → form_of (anew cut) ≡ form_of cut
same_form (Stored_of s uses constant form) = refl

same_constant : (cut : Stored) → constant_of (anew cut) ≡ constant_of cut
same_constant (Stored_of s uses constant form) = refl

-- ---- its sums
same_forms : (uses : StoredUses) (j : ℕ) → form_sum (anews uses) j ≡ form_sum uses j
same_forms No_stored j = refl
same_forms (Use_stored w cut uses) j = ap₂ (λ (f : List Entry) (r : ℚ). w *ℚ coefficient f j +ℚ r) (same_form cut) (same_forms uses j)

same_constants : (uses : StoredUses) → constant_sum (anews uses) ≡ constant_sum uses
same_constants No_stored = refl
same_constants (Use_stored w cut uses) = ap₂ (λ (c r : ℚ). w *ℚ c +ℚ r) (same_constant cut) (same_constants uses)

same_weight : (uses : StoredUses) (m : ℕ) → weight_on (anews uses) m ≡ weight_on uses m
same_weight No_stored m = refl
same_weight (Use_stored w cut uses) m =
    ap₂ ◌+ℚ◌ (ap₂ (λ (k : CutKind) (n : ℕ). value_if (is_bound k && eqb n m) w) (same_kind cut) (same_node cut)) (same_weight uses m)

same_rays : (uses : StoredUses) → StoredRays uses → StoredRays (anews uses)
same_rays No_stored h = tt
same_rays (Use_stored w cut uses) h = (same_kind cut ∙ h.0, same_rays uses h.1)

same_weights : (d : Datum) (kind : CutKind) (uses : StoredUses) → WeightsFit d kind uses → WeightsFit d kind (anews uses)
same_weights d Bound uses h = each-map (λ (s : Share) e. same_weight uses s.child ∙ e) d.shares h
same_weights d Ray uses h = same_rays uses h

-- ---- made for the book of one program
module _ (kind : Kind) (p : Program) where
  made_anew : (s : Source) (uses : StoredUses) (constant : ℚ) (form : List Entry)
      → IsMadeFrom (datum_of (book kind p []) s.node s.rows_version s.costs_version) s uses constant form
      → IsMadeFrom (datum_of (book kind p []) s.node 0 0) (unversioned s) (anews uses) constant form
  made_anew s uses constant form m = record {
    on_rows = m.on_rows;
    weights = same_weights (datum_of (book kind p []) s.node 0 0) s.kind uses (weights s.kind m.weights);
    rows = m.rows;
    bounds = each-map (λ (b : ColumnBounds) g. subst (IsGoodAt b.lower b.upper) (sym (reduced s.kind b.column)) g) ((book kind p []).bounds s.node) m.bounds;
    constant_is = m.constant_is
        ∙ ap₂ (λ (x y : ℚ). sum_ℚ (λ (r : NodeRow). worth r.low r.high (coefficient s.multipliers r.row)) ((book kind p []).rows s.node 0) +ℚ x +ℚ y)
        (sum-ext _ _ (λ (b : ColumnBounds). ap (worth b.lower b.upper) (sym (reduced s.kind b.column))) ((book kind p []).bounds s.node)) (sym (same_constants uses));
    form_is = λ j l. m.form_is j l ∙ sym (slope j);
  }
    where
      slope : (j : ℕ) → slope_of (datum_of (book kind p []) s.node 0 0) (unversioned s) (anews uses) j ≡ slope_of (datum_of (book kind p []) s.node s.rows_version s.costs_version) s uses j
      slope j = ap (λ (x : ℚ). x -ℚ sum_ℚ (λ (r : NodeRow). coefficient r.entries j *ℚ coefficient s.multipliers r.row) ((book kind p []).rows s.node 0)) (same_forms uses j)

      reduced : (k : CutKind) (j : ℕ) → cost_of (datum_of (book kind p []) s.node 0 0) k j +ℚ slope_of (datum_of (book kind p []) s.node 0 0) (unversioned s) (anews uses) j
          ≡ cost_of (datum_of (book kind p []) s.node s.rows_version s.costs_version) k j +ℚ slope_of (datum_of (book kind p []) s.node s.rows_version s.costs_version) s uses j
      reduced Bound j = ap (λ (x : ℚ). coefficient ((book kind p []).cost s.node 0) j +ℚ x) (slope j)
      reduced Ray j = ap (λ (x : ℚ). cost_of (datum_of (book kind p []) s.node 0 0) Ray j +ℚ x) (slope j)

      weights : (k : CutKind) → WeightsFit (datum_of (book kind p []) s.node s.rows_version s.costs_version) k uses → WeightsFit (datum_of (book kind p []) s.node 0 0) k uses
      weights Bound h = h
      weights Ray h = h

  mutual
    for_anew : (cut : Stored) → IsMadeFor (book kind p []) cut → IsMadeFor (book kind p []) (anew cut)
    for_anew (Stored_of s uses constant form) h = (made_anew s uses constant form h.0, for_anews s.node uses h.1)

    for_anews : (n : ℕ) (uses : StoredUses) → AreMadeFor (book kind p []) n uses → AreMadeFor (book kind p []) n (anews uses)
    for_anews n No_stored h = tt
    for_anews n (Use_stored w cut uses) h = (
      record {
        weight = h.0.weight;
        parent = ap (book kind p []).parent (same_node cut) ∙ h.0.parent;
        stage = ap (book kind p []).stage (same_node cut) ∙ h.0.stage;
      },
      for_anew cut h.1,
      for_anews n uses h.2,
    )

  -- ---- of live nodes
  staged : (nodes : List (Option Node)) (m s : ℕ) → (node_at nodes m).stage ≡ suc s → passes_at is_live m nodes ≡ true
  staged [] m s e = absurd (cc)
  staged (None ∷ nodes) zero s e = absurd (cc)
  staged (Some node ∷ nodes) zero s e = refl
  staged (None ∷ nodes) (suc m) s e = staged nodes m s e
  staged (Some node ∷ nodes) (suc m) s e = staged nodes m s e

  live_in : (k : Kind) (n : ℕ) → Lives p n → IsLive (view_in k p) n
  live_in run_kind.Feasible n l = once-passes is_live n p.nodes l
  live_in run_kind.Recession n l = once-passes is_live n p.nodes l
  live_in run_kind.Cost n l = once-passes is_live n p.nodes l

  mutual
    anew_current : (cut : Stored) → Lives p (source_of cut).node → IsMadeFor (book kind p []) cut → IsCurrent (history kind p []) 0 (anew cut)
    anew_current (Stored_of s uses constant form) l h = (record { live = live_in kind s.node l; rows = refl; costs = λ _. refl }, anews_current s.node uses h.1)

    anews_current : (n : ℕ) (uses : StoredUses) → AreMadeFor (book kind p []) n uses → AreCurrent (history kind p []) 0 (anews uses)
    anews_current n No_stored h = tt
    anews_current n (Use_stored w cut uses) h = (
      anew_current cut (staged p.nodes (source_of cut).node ((book kind p []).stage n) h.0.stage) h.1,
      anews_current n uses h.2,
    )

-- ---- the assembly
mutual
  same_flat : (fs : List (List Entry)) (w : ℚ) (cut : Stored) → flat_from fs w (anew cut) ≡ flat_from fs w cut
  same_flat fs w (Stored_of s uses constant form) = ap (then_walk (add_at fs s.node w s.multipliers)) (λ d t. same_flats t w uses d)

  same_flats : (fs : List (List Entry)) (w : ℚ) (uses : StoredUses) → flats_from fs w (anews uses) ≡ flats_from fs w uses
  same_flats fs w No_stored = refl
  same_flats fs w (Use_stored v cut uses) =
      ap (then_walk (mul_walk w v)) (λ d x. (ap₂ then_walk (same_flat fs x cut) (λ c t. same_flats t w uses c)) d)

root_in : (kind : Kind) (p : Program) → IsProgram p → IsRoot (view_in kind p) 0
root_in run_kind.Feasible p i = let r : IsRoot (view_of p) 0 = (programs_are_trees p i).1 in record { above = r.above; certain = r.certain }
root_in run_kind.Recession p i = let r : IsRoot (view_of p) 0 = (programs_are_trees p i).1 in record { above = r.above; certain = r.certain }
root_in run_kind.Cost p i = (programs_are_trees p i).1

root_live : (p : Program) (n : ℕ) → n ≡ 0 → Lives p 0 → Lives p n
root_live p n e l = subst (Lives p) (sym e) l

good_and_worth : (kind : Kind) (p : Program) (cut : Stored) (fs : List (List Entry)) → IsProgram p → IsMadeFor (book kind p []) cut
    → (source_of cut).node ≡ 0 → flat_from [] one_ℚ cut ≡ Ok fs
    → IsGood (priced (view_in kind p) (source_of cut).kind) (flat_of fs)
    × (constant_of cut ≤ℚ value (priced (view_in kind p) (source_of cut).kind) (flat_of fs))
good_and_worth kind p (Stored_of s uses constant form) fs i made root walk =
    let cut : Stored = Stored_of s uses constant form in
    assembly_is_good (history kind p []) (book kind p []) (anew cut) fs (scripts_make_books kind p [] i tt) (for_anew kind p cut made)
    (same_flat [] one_ℚ cut ∙ walk) 0
    (current_is_present (history kind p []) 0 (anew cut) (anew_current kind p cut (root_live p s.node root (root_lives p i)) made))
    (subst (IsRoot (view_in kind p)) (sym root) (root_in kind p i))

-- multipliers that are good, and worth at least the cut's constant, whether or not an operation of its assembly passes
pub root_is_worth : (kind : Kind) (p : Program) (cut : Stored) → IsProgram p → IsMadeAbout (book kind p []) 0 cut
    → (y : ℕ → ℕ → ℚ) × (IsGood (priced (view_in kind p) (source_of cut).kind) y
    × (constant_of cut ≤ℚ value (priced (view_in kind p) (source_of cut).kind) y))
root_is_worth kind p (Stored_of s uses constant form) i h =
    let cut : Stored = Stored_of s uses constant form in (
      stored_flat (anew cut),
      stored_flats_are_good (history kind p []) (book kind p []) (anew cut) (scripts_make_books kind p [] i tt)
          (for_anew kind p cut h.made) 0
          (current_is_present (history kind p []) 0 (anew cut) (anew_current kind p cut (root_live p s.node h.node (root_lives p i)) h.made))
          (subst (IsRoot (view_in kind p)) (sym h.node) (root_in kind p i)),
    )

pub roots_assemble_well : RootsAssembleWell
roots_assemble_well kind p cut i h = record {
  good = λ fs walk. (good_and_worth kind p cut fs i h.made h.node walk).0;
  worth = λ fs walk. (good_and_worth kind p cut fs i h.made h.node walk).1;
}

-- ---- the ends of a state
in_form : (kind : Kind) (p : Program) (cut : Stored) → IsProgram p → IsMadeAbout (run_book kind (script_books p [])) 0 cut → AssemblesWell (made_form kind) p cut
in_form run_kind.Feasible p cut i h = roots_assemble_well run_kind.Cost p cut i h
in_form run_kind.Recession p cut i h = roots_assemble_well run_kind.Recession p cut i h
in_form run_kind.Cost p cut i h = roots_assemble_well run_kind.Cost p cut i h

if_there : {A : Type 0} (P Q : A → Type 0) → ((a : A) → P a → Q a) → (o : Option A) → IfSome o P → IfSome o Q
if_there P Q f None h = tt
if_there P Q f (Some a) h = f a h

pub made_ends_assemble_well : MadeEndsAssembleWell
made_ends_assemble_well p s i h = record {
  root = if_there (IsMadeAbout (run_book s.kind (script_books p [])) 0) (AssemblesWell (made_form s.kind) p) (λ cut made. in_form s.kind p cut i made) s.ends.root h.1.root;
  lower = if_there (λ (l : Bounded). IsMadeAbout (book run_kind.Cost p []) 0 l.cut) (λ (l : Bounded). AssemblesWell run_kind.Cost p l.cut)
      (λ l made. roots_assemble_well run_kind.Cost p l.cut i made) s.ends.lower h.1.lower;
  nowhere = if_there (λ (cut : Stored). (k : Kind) × IsMadeAbout (run_book k (script_books p [])) 0 cut) (λ (cut : Stored). (k : Kind) × AssemblesWell (made_form k) p cut)
      (λ cut made. (made.0, in_form made.0 p cut i made.1)) s.ends.nowhere h.1.nowhere;
}
