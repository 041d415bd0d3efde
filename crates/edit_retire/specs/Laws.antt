-- What a shift promises.
use Rattle.std.specs.Prelude.{◌≡◌, ℕ, suc, List, Some}
use Rattle.scen_defs.specs.declared.report.Kind.{Kind}
use Rattle.scen_defs.specs.declared.report.Kind.TheVariants.{Recession, Cost}
use Rattle.scen_defs.specs.Program.{Program}
use Rattle.scen_defs.specs.Valid.{IsProgram}
use Rattle.cut_defs.specs.Repairs.{IsShift}
use Rattle.edit_defs.specs.declared.edit.Edit.{Edit}
use Rattle.edit_defs.specs.After.{after_edits}
use Rattle.edit_defs.specs.Applies.{AllApply}
use Rattle.edit_defs.specs.Touches.{touches_rows}
use Rattle.edit_defs.specs.Data.{version, book}
use Rattle.edit_defs.specs.Shifts.{HasWidths, IsEditAt}
use Rattle.cut_defs.specs.declared.kinds.Bank.{Bank}
use Rattle.cut_defs.specs.declared.kinds.Bank.TheVariants.{Plain, Cone}
use Rattle.cut_defs.specs.declared.versions.Shift.{Shift}
use Rattle.edit_retire.specs.Dues.{in_bank}
use Rattle.edit_retire.specs.Shifted.{shift_of}

-- the kind of run whose data the cuts of a bank are made for
abbrev pub kind_of : Bank → Kind
kind_of Plain = Cost
kind_of Cone = Recession

-- where the edit behind the first k is a shift, it moves the rows of the book from their version before to the next, in both banks
abbrev pub ShiftsAreTheBooks : Type 0
ShiftsAreTheBooks = (p : Program) (es : List Edit) (k : ℕ) (e : Edit) (s : Shift) (bank : Bank)
    → IsProgram p → AllApply p es → HasWidths p → IsEditAt k es e
    → shift_of (after_edits k p es) e (suc (version touches_rows k p es s.node)) ≡ Some s
    → IsShift (book (kind_of bank) p es) (in_bank bank s)
