-- The repair of a cut where an edit moved one row's interval.
use Rattle.std.proofs.Common.{◌≡◌, ℕ, suc, Bool, true, false, ◌&&◌, eqb, map, Option, Some, None}
use Rattle.rationals.specs.Rational.{ℚ, zero_ℚ, ◌+ℚ◌, ◌*ℚ◌, ◌-ℚ◌}
use Rattle.rationals.specs.Sparse.{coefficient, value_if}
use Rattle.scen_defs.specs.Lists.{Once}
use Rattle.scen_defs.specs.declared.program.NodeRow.{NodeRow}
use Rattle.cut_defs.specs.declared.versions.Shift.{Shift}
use Rattle.cut_defs.specs.Data.{Book}
use Rattle.cut_defs.specs.Stored.{Source, Stored, StoredUses, constant_of}
use Rattle.cut_defs.specs.Stored.Stored.{Stored_of}
use Rattle.cut_defs.specs.Stored.StoredUses.{No_stored, Use_stored}

abbrev pub moved_end : ℚ → Option ℚ → Option ℚ
moved_end by None = None
moved_end by (Some e) = Some (e +ℚ by)

abbrev pub moved_row : ℕ → ℚ → NodeRow → NodeRow
moved_row i by r = elim (eqb r.row i) [ true ↦ record r { low = moved_end by r.low; high = moved_end by r.high } | false ↦ r ]

-- the book's rows of the shift's version are those of the version before with that row moved
pub record IsShift (book : Book) (s : Shift) : Type 0 where
  pub rows : (v : ℕ) → suc v ≡ s.version → book.rows s.node s.version ≡ map (moved_row s.row s.by) (book.rows s.node v)
  pub once : (v : ℕ) → suc v ≡ s.version → Once s.row (map (λ (r : NodeRow). r.row) (book.rows s.node v))

-- the record is of the shift's node and of the version before
abbrev pub is_moved : Shift → Source → Bool
is_moved s source = eqb source.node s.node && eqb (suc source.rows_version) s.version

abbrev pub moved_source : Shift → Source → Source
moved_source s source = elim (is_moved s source) [ true ↦ record source { rows_version = s.version } | false ↦ source ]

abbrev pub own_change : Shift → Source → ℚ
own_change s source = value_if (is_moved s source) (coefficient source.multipliers s.row *ℚ s.by)

-- records of the node with the version before get the shift's; constants follow, all else stays
abbrev mutual
  pub repair : Shift → Stored → Stored
  repair s (Stored_of source uses constant form) =
      Stored_of (moved_source s source) (repairs s uses) (constant +ℚ own_change s source +ℚ changes s uses) form

  pub repairs : Shift → StoredUses → StoredUses
  repairs s No_stored = No_stored
  repairs s (Use_stored weight cut uses) = Use_stored weight (repair s cut) (repairs s uses)

  -- weight times the change of each used cut
  pub changes : Shift → StoredUses → ℚ
  changes s No_stored = zero_ℚ
  changes s (Use_stored weight cut uses) = weight *ℚ (constant_of (repair s cut) -ℚ constant_of cut) +ℚ changes s uses
