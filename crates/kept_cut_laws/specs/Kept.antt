-- What pools keep: cuts that are made of what the program has now.
use Rattle.std.specs.Prelude.{◌≡◌, ℕ, ◌<◌, ◌≤◌, List, [], length, Some, slice_get}
use Rattle.rationals.specs.Forms.{IsForm}
use Rattle.scen_defs.specs.Lists.{Each}
use Rattle.scen_defs.specs.Program.{Program}
use Rattle.scen_defs.specs.Valid.{Lives}
use Rattle.cut_defs.specs.declared.kinds.CutKind.TheVariants.{Bound}
use Rattle.cut_defs.specs.declared.kinds.Part.{Part}
use Rattle.cut_defs.specs.declared.kinds.Part.TheVariants.{Rows, Costs, Gone}
use Rattle.cut_defs.specs.declared.versions.Touch.{Touch}
use Rattle.cut_defs.specs.Stored.{Source, Stored, StoredUses, source_of}
use Rattle.cut_defs.specs.Stored.Stored.{Stored_of}
use Rattle.cut_defs.specs.Stored.StoredUses.{No_stored, Use_stored}
use Rattle.cut_pool.specs.Held.{Held}
use Rattle.cut_banks.specs.declared.banks.Banks.{Banks}
use Rattle.node_data.specs.declared.versions.Version.{Version}
use Rattle.node_data.specs.Counts.{version_of}

-- ---- cuts
-- each record of the cut, its own and those of the cuts below it, has this
abbrev mutual
  pub EachRecord : (Source → Type 0) → Stored → Type 0
  EachRecord Has (Stored_of s uses constant form) = Has s × EachUsed Has uses

  pub EachUsed : (Source → Type 0) → StoredUses → Type 0
  EachUsed Has No_stored = Unit {0}
  EachUsed Has (Use_stored weight cut uses) = EachRecord Has cut × EachUsed Has uses

-- the record is of a live node, and has the present version of its rows, and of its costs where it is a Bound one; its multipliers are a
-- form
pub record IsUpToDate (p : Program) (versions : List Version) (s : Source) : Type 0 where
  pub live : Lives p s.node
  pub rows : s.rows_version ≡ (version_of versions s.node).rows
  pub costs : s.kind ≡ Bound → s.costs_version ≡ (version_of versions s.node).costs
  pub form : IsForm s.multipliers

-- a cut about node n, of which all records are up to date
pub record IsCutNow (p : Program) (versions : List Version) (n : ℕ) (cut : Stored) : Type 0 where
  pub node : (source_of cut).node ≡ n
  pub records : EachRecord (IsUpToDate p versions) cut

-- ---- touches
-- a touch with this version isn't newer than the data; no live node is gone
abbrev pub IsNoNewer : Part → ℕ → Version → Type 0
IsNoNewer Rows version now = version ≤ now.rows
IsNoNewer Costs version now = version ≤ now.costs
IsNoNewer Gone version now = ⊥

-- where the touch's node is live, the touch isn't newer than its data
abbrev pub IsOldNews : Program → List Version → Touch → Type 0
IsOldNews p versions t = Lives p t.node → IsNoNewer t.part t.version (version_of versions t.node)

-- ---- pools
-- a pool of node n: its cuts are about the node and up to date, that of the root has none, it knows no touch that is newer and none of a
-- place that the program doesn't have, and it changed so often at most
pub record IsKeptAt (p : Program) (versions : List Version) (most n : ℕ) (pool : Held) : Type 0 where
  pub node : pool.node ≡ n
  pub cuts : Each (IsCutNow p versions n) pool.cuts
  pub root : n ≡ 0 → pool.cuts ≡ []
  pub known : Each (IsOldNews p versions) pool.known
  pub places : Each (λ (t : Touch). t.node < length p.nodes) pool.known
  pub few : pool.number ≤ most

-- each pool is kept at its place
abbrev pub AreKept : Program → List Version → ℕ → List Held → Type 0
AreKept p versions most pools = (n : ℕ) (pool : Held) → slice_get pools n ≡ Some pool → IsKeptAt p versions most n pool

-- in both banks
pub record BanksAreKept (p : Program) (versions : List Version) (most : ℕ) (b : Banks) : Type 0 where
  pub plain : AreKept p versions most b.plain
  pub cone : AreKept p versions most b.cone
