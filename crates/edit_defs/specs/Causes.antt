-- Why an edit doesn't apply to a program: the first test that it fails.
use Rattle.std.specs.Prelude.{◌<◌, Bool, false, not, ◌&&◌, ltb, leb, length, Option, Some, None}
use Rattle.rationals.specs.Rational.{ℚ, zero_ℚ, one_ℚ, at_most}
use Rattle.rationals.specs.Passes.{Operation}
use Rattle.rationals.specs.Choices.{pick}
use Rattle.smps_words.specs.declared.entry.Entry.{Entry}
use Rattle.smps_words.specs.declared.entry.Entry.TheVariants.{Cost, Matrix, Rhs}
use Rattle.refusals.specs.declared.cause.Cause.{Cause}
use Rattle.refusals.specs.declared.cause.Cause.TheVariants as cause
use Rattle.scen_defs.specs.Program.{Program, column_at}
use Rattle.smps_words.specs.Field.{IsField}
use Rattle.scen_defs.specs.Valid.{row_at}
use Rattle.edit_defs.specs.declared.edit.Edit.{Edit}
use Rattle.edit_defs.specs.declared.edit.Edit.TheVariants.{Set, Prob, Drop, Add}
use Rattle.edit_defs.specs.After.{is_known, after}
use Rattle.edit_defs.specs.Limits.{counts, are_many, is_above_limits}
use Rattle.edit_defs.specs.Operations.{first_passed}

-- ---- what a caller owes: numbers of the program, and a name that is a field
abbrev pub HasNumbers : Program → Entry → Type 0
HasNumbers p (Cost j) = j < length p.columns
HasNumbers p (Matrix i j) = (i < length p.rows) × (j < length p.columns)
HasNumbers p (Rhs i) = i < length p.rows

abbrev pub Asks : Program → Edit → Type 0
Asks p (Set name entry v) = HasNumbers p entry
Asks p (Prob name q) = Unit {0}
Asks p (Drop name) = Unit {0}
Asks p (Add name parent q t) = IsField name

-- ---- tests in their order
abbrev pub refused_if : Bool → Cause → Option Cause → Option Cause
refused_if b cause rest = pick b (Some cause) rest

-- above 0 and below 1
abbrev pub is_inner : ℚ → Bool
is_inner q = not (at_most q zero_ℚ) && not (at_most one_ℚ q)

abbrev pub is_late : Program → Entry → Bool
is_late p (Cost j) = false
is_late p (Matrix i j) = ltb (row_at p.rows i).stage (column_at p.columns j).stage
is_late p (Rhs i) = false

-- a right-hand side is no entry that is counted
abbrev pub adds_too_many : Program → Entry → Bool
adds_too_many p (Cost j) = are_many (counts p.nodes)
adds_too_many p (Matrix i j) = are_many (counts p.nodes)
adds_too_many p (Rhs i) = false

abbrev pub passing : Option Operation → Option Cause
passing None = None
passing (Some o) = Some (cause.Passes o)

-- the only scenario
abbrev pub is_last : Program → Bool
is_last p = leb (length p.scenarios) 1

abbrev pub refused : Program → Edit → Option Cause
refused p (Set name entry v) =
    refused_if (not (is_known name p.scenarios)) cause.ScenarioUnknown
    (refused_if (is_late p entry) cause.EntryStage
    (refused_if (adds_too_many (after p (Set name entry v)) entry) cause.ScenarioLimit
    (passing (first_passed p (Set name entry v)))))
refused p (Prob name q) =
    refused_if (not (is_known name p.scenarios)) cause.ScenarioUnknown
    (refused_if (not (is_inner q)) cause.EditProbability
    (refused_if (is_last p) cause.LastScenario
    (passing (first_passed p (Prob name q)))))
refused p (Drop name) =
    refused_if (not (is_known name p.scenarios)) cause.ScenarioUnknown
    (refused_if (is_last p) cause.LastScenario
    (passing (first_passed p (Drop name))))
refused p (Add name parent q t) =
    refused_if (is_known name p.scenarios) cause.NameTaken
    (refused_if (not (is_known parent p.scenarios)) cause.ScenarioUnknown
    (refused_if (not (is_inner q)) cause.EditProbability
    (refused_if (not (ltb 0 t && ltb t (length p.periods))) cause.BranchPeriod
    (refused_if (is_above_limits (after p (Add name parent q t))) cause.ScenarioLimit
    (passing (first_passed p (Add name parent q t)))))))
