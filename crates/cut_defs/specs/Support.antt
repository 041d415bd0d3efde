-- What a cut rests on: the versions of the data of all records that it reaches.
use Rattle.std.proofs.Common.{◌≡◌, ℕ, Bool, true, false, ◌&&◌, ◌||◌, eqb, ltb, List, [], ◌∷◌, Option, Some, None}
use Rattle.std.proofs.Common.{◌⊎◌}
use Rattle.rationals.specs.Choices.{pick}
use Rattle.scen_defs.specs.Lists.{Each}
use Rattle.cut_defs.specs.declared.kinds.CutKind.{CutKind}
use Rattle.cut_defs.specs.declared.kinds.CutKind.TheVariants.{Bound, Ray}
use Rattle.cut_defs.specs.declared.kinds.Part.{Part}
use Rattle.cut_defs.specs.declared.kinds.Part.TheVariants.{Rows, Costs, Gone}
use Rattle.cut_defs.specs.declared.versions.Stamp.{Stamp}
use Rattle.cut_defs.specs.declared.versions.Touch.{Touch}
use Rattle.cut_defs.specs.Stored.{Source, Stored, StoredUses}
use Rattle.cut_defs.specs.Stored.Stored.{Stored_of}
use Rattle.cut_defs.specs.Stored.StoredUses.{No_stored, Use_stored}

-- ---- the order of stamps: by node, Rows before Costs, then by version
abbrev pub rank : Part → ℕ
rank Rows = 0
rank Costs = 1
rank Gone = 2

abbrev pub before_stamp : Stamp → Stamp → Bool
before_stamp a b = ltb a.node b.node
    || (eqb a.node b.node
    && (ltb (rank a.part) (rank b.part) || (eqb (rank a.part) (rank b.part) && ltb a.version b.version)))

-- the stamps of two lists that rise, each once, in rising order
abbrev pub with_stamp : Stamp → (List Stamp → List Stamp) → List Stamp → List Stamp
with_stamp a rest [] = a ∷ rest []
with_stamp a rest (b ∷ ys) = elim (before_stamp a b) [
  | true ↦ a ∷ rest (b ∷ ys)
  | false ↦ elim (before_stamp b a) [ true ↦ b ∷ with_stamp a rest ys | false ↦ a ∷ rest ys ]
]

abbrev pub merge : List Stamp → List Stamp → List Stamp
merge [] ys = ys
merge (a ∷ xs) ys = with_stamp a (merge xs) ys

-- ---- the support
abbrev pub rows_stamp : Source → Stamp
rows_stamp s = record { node = s.node; part = Rows; version = s.rows_version }

abbrev pub costs_stamp : Source → Stamp
costs_stamp s = record { node = s.node; part = Costs; version = s.costs_version }

-- a record's own stamps: its rows, and the costs of a Bound one
abbrev pub own_by : CutKind → Source → List Stamp
own_by Bound s = rows_stamp s ∷ costs_stamp s ∷ []
own_by Ray s = rows_stamp s ∷ []

abbrev pub own_stamps : Source → List Stamp
own_stamps s = own_by s.kind s

-- Rows of each node of which a record is reached and Costs of each node of which a Bound record is reached, with the
-- records' versions, each stamp once, in rising order. Weights are above 0, so each record below the cut is reached
unfoldable mutual
  pub support : Stored → List Stamp
  support (Stored_of s uses constant form) = with_uses (own_stamps s) uses

  -- the stamps and those of the used cuts
  pub with_uses : List Stamp → StoredUses → List Stamp
  with_uses stamps No_stored = stamps
  with_uses stamps (Use_stored weight cut uses) = with_uses (merge stamps (support cut)) uses

-- ---- a stamp rests on a touch: it is of the node and the part with a smaller version, or of a node that is gone
abbrev pub rests_by : Part → Stamp → ℕ → Bool
rests_by Rows a version = eqb (rank a.part) 0 && ltb a.version version
rests_by Costs a version = eqb (rank a.part) 1 && ltb a.version version
rests_by Gone a version = true

abbrev pub stamp_rests : Stamp → Touch → Bool
stamp_rests a t = eqb a.node t.node && rests_by t.part a t.version

abbrev pub any_rests : List Stamp → Touch → Bool
any_rests [] t = false
any_rests (a ∷ xs) t = stamp_rests a t || any_rests xs t

-- the stamp rests on one of the touches
abbrev pub is_stale : List Touch → Stamp → Bool
is_stale [] a = false
is_stale (t ∷ ts) a = stamp_rests a t || is_stale ts a

-- the first stamp that does
abbrev pub first_stale : List Touch → List Stamp → Option Stamp
first_stale known [] = None
first_stale known (a ∷ xs) = pick (is_stale known a) (Some a) (first_stale known xs)

-- the cut rests on the touch: a stamp of its support does
abbrev pub cut_rests : Stored → Touch → Bool
cut_rests cut t = any_rests (support cut) t

-- the same by the records
abbrev mutual
  pub reaches : Stored → Touch → Bool
  reaches (Stored_of s uses constant form) t = any_rests (own_stamps s) t || any_reaches uses t

  pub any_reaches : StoredUses → Touch → Bool
  any_reaches No_stored t = false
  any_reaches (Use_stored weight cut uses) t = reaches cut t || any_reaches uses t

-- each stamp comes before all that follow it
abbrev pub StampsRise : List Stamp → Type 0
StampsRise [] = Unit {0}
StampsRise (x ∷ xs) = Each (λ y. before_stamp x y ≡ true) xs × StampsRise xs

-- the cut rests on none of the touches
abbrev pub RestsOnNone : Stored → List Touch → Type 0
RestsOnNone cut touches = Each (λ t. cut_rests cut t ≡ false) touches

-- the touch stands in the list
abbrev pub IsAmong : Touch → List Touch → Type 0
IsAmong t [] = ⊥
IsAmong t (u ∷ us) = (u ≡ t) ⊎ IsAmong t us
