-- The shift that an edit is, where it is one.
use Rattle.std.specs.Prelude.{ℕ, List, Option, Some, None}
use Rattle.rationals.specs.Rational.{ℚ}
use Rattle.rationals.specs.declared.Op.TheVariants.{Sub}
use Rattle.rationals.specs.Passes.{passes}
use Rattle.rationals.specs.Choices.{pick}
use Rattle.smps_words.specs.declared.entry.Entry.{Entry}
use Rattle.smps_words.specs.declared.entry.Entry.TheVariants.{Cost, Matrix, Rhs}
use Rattle.scen_defs.specs.Program.{Program}
use Rattle.edit_defs.specs.declared.edit.Edit.{Edit}
use Rattle.edit_defs.specs.declared.edit.Edit.TheVariants.{Set, Prob, Drop, Add}
use Rattle.edit_defs.specs.After.{home_of}
use Rattle.edit_defs.specs.Shifts.{new_side, old_side, move}
use Rattle.cut_defs.specs.declared.versions.Shift.{Shift}

-- of a SET of the right-hand side of row i: the new end less the old end, where that doesn't pass
abbrev pub entry_shift : Program → List ℕ → Entry → ℚ → ℕ → Option Shift
entry_shift p name (Cost j) v version = None
entry_shift p name (Matrix i j) v version = None
entry_shift p name (Rhs i) v version = pick (passes Sub (new_side p i v) (old_side p name i)) None
    (Some (record { node = home_of p name (Rhs i); row = i; by = move p name i v; version = version }))

abbrev pub shift_of : Program → Edit → ℕ → Option Shift
shift_of p (Set name entry v) version = entry_shift p name entry v version
shift_of p (Prob name q) version = None
shift_of p (Drop name) version = None
shift_of p (Add name parent q t) version = None
