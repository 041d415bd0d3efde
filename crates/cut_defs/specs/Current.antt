-- After an edit a cut still holds where no data that it rests on was touched.
use Rattle.std.proofs.Common.{◌≡◌, ℕ, suc, ◌≤◌, eqb, List, ◌⊎◌}
use Rattle.rationals.specs.Rational.{ℚ, zero_ℚ, ◌+ℚ◌, ◌*ℚ◌, ◌≤ℚ◌}
use Rattle.rationals.specs.Sums.{sum_ℚ}
use Rattle.rationals.specs.Sparse.{coefficient, value_if}
use Rattle.scen_defs.specs.Lists.{Each}
use Rattle.scen_defs.specs.Program.{View, IsLive}
use Rattle.scen_defs.specs.Flat.{subtree, along, FeasibleAt}
use Rattle.cut_defs.specs.declared.kinds.CutKind.TheVariants.{Bound}
use Rattle.cut_defs.specs.declared.kinds.Part.{Part}
use Rattle.cut_defs.specs.declared.kinds.Part.TheVariants.{Rows, Costs, Gone}
use Rattle.cut_defs.specs.declared.versions.Stamp.{Stamp}
use Rattle.cut_defs.specs.declared.versions.Touch.{Touch}
use Rattle.cut_defs.specs.Cuts.{before, limit_of}
use Rattle.cut_defs.specs.Data.{History}
use Rattle.cut_defs.specs.Stored.{Source, Stored, StoredUses, source_of, constant_of, form_of}
use Rattle.cut_defs.specs.Stored.Stored.{Stored_of}
use Rattle.cut_defs.specs.Stored.StoredUses.{No_stored, Use_stored}
use Rattle.cut_defs.specs.Support.{support, IsAmong}

-- the part's version after k edits
abbrev pub version_at : History → ℕ → ℕ → Part → ℕ
version_at h k n Rows = h.rows_version k n
version_at h k n Costs = h.costs_version k n
version_at h k n Gone = 0

-- the stamp's node is live, and the stamp has the part's present version
pub record IsPresent (h : History) (k : ℕ) (a : Stamp) : Type 0 where
  pub live : IsLive (h.after k) a.node
  pub version : version_at h k a.node a.part ≡ a.version

-- all stamps of the cut's support are present
abbrev pub SupportIsPresent : History → ℕ → Stored → Type 0
SupportIsPresent h k cut = Each (IsPresent h k) (support cut)

-- what is known tells of the stamp's node and part: a node that isn't live is known to be gone, a part with a version
-- above 0 is known to be touched with that version; and the stamp is no newer than the part
pub record IsTold (h : History) (k : ℕ) (known : List Touch) (a : Stamp) : Type 0 where
  pub gone : IsLive (h.after k) a.node ⊎ IsAmong (record { node = a.node; part = Gone; version = 1 }) known
  pub touched : (v : ℕ) → version_at h k a.node a.part ≡ suc v
      → IsAmong (record { node = a.node; part = a.part; version = suc v }) known
  pub past : a.version ≤ version_at h k a.node a.part

-- ---- the same by the records: rows of each, costs of each Bound one
pub record IsStamp (h : History) (k : ℕ) (s : Source) : Type 0 where
  pub live : IsLive (h.after k) s.node
  pub rows : h.rows_version k s.node ≡ s.rows_version
  pub costs : s.kind ≡ Bound → h.costs_version k s.node ≡ s.costs_version

abbrev mutual
  pub IsCurrent : History → ℕ → Stored → Type 0
  IsCurrent h k (Stored_of s uses constant form) = IsStamp h k s × AreCurrent h k uses

  pub AreCurrent : History → ℕ → StoredUses → Type 0
  AreCurrent h k No_stored = Unit {0}
  AreCurrent h k (Use_stored weight cut uses) = IsCurrent h k cut × AreCurrent h k uses

-- the constant and the form, at the values along the path to the cut's node
abbrev pub stored_value_at : View → Stored → (ℕ → ℕ → ℚ) → ℚ
stored_value_at v cut x = constant_of cut
    +ℚ sum_ℚ (λ j. coefficient (form_of cut) j *ℚ along v x (source_of cut).node j) (before v (v.stage (source_of cut).node))

-- what the cut says of a program
abbrev pub Holds : View → Stored → Type 0
Holds v cut = (x : ℕ → ℕ → ℚ) → Each (FeasibleAt v x) (subtree v (source_of cut).node)
    → stored_value_at v cut x ≤ℚ limit_of v x (source_of cut).kind (source_of cut).node

-- it holds after every number of edits at which its support is present
abbrev pub IsSoundFor : History → Stored → Type 0
IsSoundFor h cut = (k : ℕ) → SupportIsPresent h k cut → Holds (h.after k) cut

-- its flat dual
unfoldable mutual
  pub stored_flat : Stored → ℕ → ℕ → ℚ
  stored_flat (Stored_of s uses constant form) m i = value_if (eqb s.node m) (coefficient s.multipliers i) +ℚ stored_flats uses m i

  pub stored_flats : StoredUses → ℕ → ℕ → ℚ
  stored_flats No_stored m i = zero_ℚ
  stored_flats (Use_stored weight cut uses) m i = weight *ℚ stored_flat cut m i +ℚ stored_flats uses m i
