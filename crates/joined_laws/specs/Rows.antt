-- Cuts whose multipliers are of rows of a program, and cuts whose multipliers are forms.
use Rattle.std.specs.Prelude.{◌≡◌, ℕ, true, List, map}
use Rattle.rationals.specs.Sparse.{Entry}
use Rattle.rationals.specs.Forms.{IsForm}
use Rattle.scen_defs.specs.declared.program.NodeRow.{NodeRow}
use Rattle.scen_defs.specs.Lists.{Each, is_in}
use Rattle.scen_defs.specs.Program.{View}
use Rattle.cut_defs.specs.Stored.{Stored, StoredUses}
use Rattle.cut_defs.specs.Stored.Stored.{Stored_of}
use Rattle.cut_defs.specs.Stored.StoredUses.{No_stored, Use_stored}

-- the numbers of a node's rows
abbrev pub row_numbers_at : View → ℕ → List ℕ
row_numbers_at v n = map (λ (r : NodeRow). r.row) (v.rows n)

-- each multiplier of the cut's record, and of the records below it, is of a row of the record's node
abbrev mutual
  pub IsOnRows : View → Stored → Type 0
  IsOnRows v (Stored_of s uses constant form) =
      Each (λ (e : Entry). is_in e.column (row_numbers_at v s.node) ≡ true) s.multipliers × AreOnRows v uses

  pub AreOnRows : View → StoredUses → Type 0
  AreOnRows v No_stored = Unit {0}
  AreOnRows v (Use_stored weight cut uses) = IsOnRows v cut × AreOnRows v uses

-- the multipliers of the cut's record, and of the records below it, are forms
abbrev mutual
  pub HasForms : Stored → Type 0
  HasForms (Stored_of s uses constant form) = IsForm s.multipliers × AllHaveForms uses

  pub AllHaveForms : StoredUses → Type 0
  AllHaveForms No_stored = Unit {0}
  AllHaveForms (Use_stored weight cut uses) = HasForms cut × AllHaveForms uses
