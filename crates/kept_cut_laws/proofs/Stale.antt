-- A cut that is up to date rests on no touch that isn't newer than the data.
use Rattle.std.proofs.Common.{◌≡◌, ℕ, ◌≤◌, Bool, true, false, ◌&&◌, ◌||◌, eqb, List, refl, sym, ap₂, subst, ◌∙◌, eqb-true}
use Rattle.std.proofs.lemmas.Bool.{le-ltb}
use Rattle.scen_defs.specs.Program.{Program}
use Rattle.scen_defs.specs.Valid.{Lives}
use Rattle.scen_defs.proofs.SumLaws.{each-map}
use Rattle.cut_defs.specs.declared.kinds.CutKind.{CutKind}
use Rattle.cut_defs.specs.declared.kinds.CutKind.TheVariants.{Bound, Ray}
use Rattle.cut_defs.specs.declared.kinds.Part.{Part}
use Rattle.cut_defs.specs.declared.kinds.Part.TheVariants.{Rows, Costs, Gone}
use Rattle.cut_defs.specs.declared.versions.Stamp.{Stamp}
use Rattle.cut_defs.specs.declared.versions.Touch.{Touch}
use Rattle.cut_defs.specs.Stored.{Source, Stored, StoredUses}
use Rattle.cut_defs.specs.Stored.Stored.{Stored_of}
use Rattle.cut_defs.specs.Stored.StoredUses.{No_stored, Use_stored}
use Rattle.cut_defs.specs.Support.{rows_stamp, costs_stamp, own_by, support, rests_by, stamp_rests, any_rests, cut_rests, reaches, any_reaches}
use Rattle.cut_defs.proofs.Supports.{supports_are_exact}
use Rattle.cut_pool.proofs.FreshTest.{none_stale}
use Rattle.node_data.specs.declared.versions.Version.{Version}
use Rattle.node_data.specs.Counts.{version_of}
use Rattle.kept_cut_laws.specs.Kept.{EachRecord, EachUsed, IsUpToDate, IsNoNewer, IsOldNews}
use Rattle.kept_cut_laws.specs.Laws.{NothingIsStale}

-- a stamp with the present version of its part rests on no touch of its node that isn't newer
rows_rest_not : (s : Source) (now : Version) → s.rows_version ≡ now.rows → (part : Part) (version : ℕ) → IsNoNewer part version now
    → rests_by part (rows_stamp s) version ≡ false
rows_rest_not s now e Rows version h = le-ltb s.rows_version version (subst (λ (k : ℕ). version ≤ k) (sym e) h)
rows_rest_not s now e Costs version h = refl
rows_rest_not s now e Gone version h = absurd h

costs_rest_not : (s : Source) (now : Version) → s.costs_version ≡ now.costs → (part : Part) (version : ℕ) → IsNoNewer part version now
    → rests_by part (costs_stamp s) version ≡ false
costs_rest_not s now e Rows version h = refl
costs_rest_not s now e Costs version h = le-ltb s.costs_version version (subst (λ (k : ℕ). version ≤ k) (sym e) h)
costs_rest_not s now e Gone version h = absurd h

module _ (p : Program) (versions : List Version) (t : Touch) (old : IsOldNews p versions t) where
  -- nor on one of another node
  stamp_rests_not : (a : Stamp) → Lives p a.node
      → (IsNoNewer t.part t.version (version_of versions a.node) → rests_by t.part a t.version ≡ false) → stamp_rests a t ≡ false
  stamp_rests_not a live by = go (eqb a.node t.node) refl
    where
      go : (b : Bool) → eqb a.node t.node ≡ b → (b && rests_by t.part a t.version) ≡ false
      go true e =
          let same : t.node ≡ a.node = sym (eqb-true a.node t.node e) in
          by (subst (λ (k : ℕ). IsNoNewer t.part t.version (version_of versions k)) same (old (subst (Lives p) (sym same) live)))
      go false e = refl

  record_rests_not : (s : Source) → IsUpToDate p versions s → (kind : CutKind) → s.kind ≡ kind → any_rests (own_by kind s) t ≡ false
  record_rests_not s h Bound e =
      ap₂ ◌||◌ (stamp_rests_not (rows_stamp s) h.live (rows_rest_not s (version_of versions s.node) h.rows t.part t.version))
      (ap₂ ◌||◌ (stamp_rests_not (costs_stamp s) h.live (costs_rest_not s (version_of versions s.node) (h.costs e) t.part t.version)) refl)
  record_rests_not s h Ray e =
      ap₂ ◌||◌ (stamp_rests_not (rows_stamp s) h.live (rows_rest_not s (version_of versions s.node) h.rows t.part t.version)) refl

  mutual
    reaches_not : (cut : Stored) → EachRecord (IsUpToDate p versions) cut → reaches cut t ≡ false
    reaches_not (Stored_of s uses constant form) h = ap₂ ◌||◌ (record_rests_not s h.0 s.kind refl) (uses_reach_not uses h.1)

    uses_reach_not : (uses : StoredUses) → EachUsed (IsUpToDate p versions) uses → any_reaches uses t ≡ false
    uses_reach_not No_stored h = refl
    uses_reach_not (Use_stored weight cut uses) h = ap₂ ◌||◌ (reaches_not cut h.0) (uses_reach_not uses h.1)

  pub rests_not : (cut : Stored) → EachRecord (IsUpToDate p versions) cut → cut_rests cut t ≡ false
  rests_not cut h = supports_are_exact.rests cut t ∙ reaches_not cut h

pub nothing_is_stale : NothingIsStale
nothing_is_stale p versions most n m pool cut kept now =
    none_stale pool.known (support cut) (each-map (λ t old. rests_not p versions t old cut now.records) pool.known kept.known)
