-- What edits promise.
use Rattle.std.specs.Prelude.{◌≡◌, ℕ, ◌≤◌, false, not, List, length, None}
use Rattle.scen_defs.specs.declared.report.Kind.{Kind}
use Rattle.scen_defs.specs.Lists.{passes_at}
use Rattle.scen_defs.specs.Program.{Program, view_of, is_live}
use Rattle.scen_defs.specs.Valid.{Lives, IsProgram}
use Rattle.smps_words.specs.declared.entry.Entry.TheVariants.{Rhs}
use Rattle.rationals.specs.Rational.{ℚ}
use Rattle.cut_defs.specs.Data.{IsBook}
use Rattle.cut_defs.specs.Repairs.{IsShift}
use Rattle.edit_defs.specs.declared.edit.Edit.{Edit}
use Rattle.edit_defs.specs.declared.edit.Edit.TheVariants.{Set}
use Rattle.edit_defs.specs.After.{after, after_edits}
use Rattle.edit_defs.specs.Applies.{Applies, AllApply}
use Rattle.edit_defs.specs.Causes.{Asks, refused}
use Rattle.edit_defs.specs.Touches.{touches_rows, touches_costs, touches_whole}
use Rattle.edit_defs.specs.Data.{rows_part, costs_part, history, book}
use Rattle.edit_defs.specs.Shifts.{HasWidths, IsEditAt, shift_at}

-- an edit that applies to a program makes a program
abbrev pub EditsKeepPrograms : Type 0
EditsKeepPrograms = (p : Program) (e : Edit) → IsProgram p → Applies p e → IsProgram (after p e)

-- what an edit doesn't touch of a node that is live before and after stays
pub record Stays (p : Program) (e : Edit) (n : ℕ) : Type 0 where
  pub rows : touches_rows p e n ≡ false → rows_part (view_of (after p e)) n ≡ rows_part (view_of p) n
  pub costs : touches_costs p e n ≡ false → costs_part (view_of (after p e)) n ≡ costs_part (view_of p) n
  pub stage : (view_of (after p e)).stage n ≡ (view_of p).stage n
  pub parent : (view_of (after p e)).parent n ≡ (view_of p).parent n

abbrev pub UntouchedStays : Type 0
UntouchedStays = (p : Program) (e : Edit) (n : ℕ) → IsProgram p → Applies p e → Lives p n → Lives (after p e) n → Stays p e n

-- the data of a script by version are a book
abbrev pub ScriptsMakeBooks : Type 0
ScriptsMakeBooks = (kind : Kind) (p : Program) (es : List Edit) → IsProgram p → AllApply p es
    → IsBook (history kind p es) (book kind p es)

-- edits keep the widths of rows
abbrev pub WidthsStay : Type 0
WidthsStay = (p : Program) (es : List Edit) (k : ℕ) → IsProgram p → AllApply p es → HasWidths p
    → HasWidths (after_edits k p es)

-- a SET of a right-hand side moves one row of the book from one version to the next
abbrev pub RightSidesShift : Type 0
RightSidesShift = (kind : Kind) (p : Program) (es : List Edit) (k : ℕ) (name : List ℕ) (i : ℕ) (v : ℚ)
    → IsProgram p → AllApply p es → HasWidths p → IsEditAt k es (Set name (Rhs i) v)
    → IsShift (book kind p es) (shift_at kind k p es name i v)

-- an edit without a cause applies
abbrev pub EditsWithoutCauseApply : Type 0
EditsWithoutCauseApply = (p : Program) (e : Edit) → length p.nodes ≤ 1000000 → Asks p e → refused p e ≡ None → Applies p e

-- of the live nodes those are dropped that the edit says are gone, and no others
abbrev pub GoneAreDropped : Type 0
GoneAreDropped = (p : Program) (e : Edit) (n : ℕ) → IsProgram p → Applies p e → Lives p n
    → passes_at is_live n (after p e).nodes ≡ not (touches_whole p e n)
