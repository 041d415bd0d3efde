-- Reports whose parts have the sizes of their types: whole numbers of 32 and 64 bits, fractions of 128 bits.
use Rattle.std.specs.Prelude.{◌≡◌, ℕ, ◌<◌, ◌+◌, ◌^◌, List, [], ◌∷◌, length, IfSome, ⊤}
use Rattle.rationals.specs.Passes.{Operation, IsNarrow}
use Rattle.scen_defs.specs.Lists.{Each}
use Rattle.scen_defs.specs.Values.{At, AreValues}
use Rattle.scen_defs.specs.declared.program.Program.{Program}
use Rattle.scen_defs.specs.declared.report.Place.{Place}
use Rattle.scen_defs.specs.declared.report.Place.TheVariants.{Solve, Cut, Cost, Ground, Dual, Check}
use Rattle.scen_defs.specs.declared.report.Finding.{Finding}
use Rattle.scen_defs.specs.declared.report.Finding.TheVariants.{Optimal, Infeasible, Unbounded, OpenSolves, OpenPivots, OpenPassed}
use Rattle.scen_defs.specs.declared.report.Report.{Report}
use Rattle.scen_defs.specs.Names.{column_names, row_names}
use Rattle.report_reader.specs.Stated.{HasParts}

-- ---- findings

-- the place of an operation in a run, which counts its commits in 64 bits; a check of a claim has no report
abbrev pub IsInRun : Place → Type 0
IsInRun (Solve k) = k < 2 ^ 64
IsInRun (Cut k) = k < 2 ^ 64
IsInRun (Cost k) = k < 2 ^ 64
IsInRun Ground = ⊤
IsInRun Dual = ⊤
IsInRun Check = ⊥

-- the operation that passes at a place
pub record PassesThere (place : Place) (p : Operation) : Type 0 where
  pub in_run : IsInRun place
  pub first : IsNarrow p.a
  pub second : IsNarrow p.b

-- counts of 64 bits, and operands of 128
abbrev pub IsSized : Finding → Type 0
IsSized Optimal = ⊤
IsSized Infeasible = ⊤
IsSized Unbounded = ⊤
IsSized (OpenSolves n) = n < 2 ^ 64
IsSized (OpenPivots k) = k < 2 ^ 64
IsSized (OpenPassed place p) = PassesThere place p

-- ---- lists

-- a number at a node, at one of so many columns or rows
pub record IsOneOf (count : ℕ) (a : At) : Type 0 where
  pub node : a.node < 2 ^ 32
  pub index : a.index < count
  pub small : a.index < 2 ^ 32
  pub value : IsNarrow a.value

-- the numbers of a list over so many columns or rows: they rise, and none is 0
pub record AreOver (count : ℕ) (values : List At) : Type 0 where
  pub few : length values < 2 ^ 64
  pub ordered : AreValues values
  pub each : Each (IsOneOf count) values

-- ---- reports

-- a report with this number, all of whose parts have their sizes, and are there as its ends and its finding ask for them
pub record IsPrintable (program : Program) (number : ℕ) (report : Report) : Type 0 where
  pub numbered : report.number ≡ number
  pub nodes : report.nodes < 2 ^ 32
  pub scenarios : report.scenarios < 2 ^ 32
  pub finding : IsSized report.finding
  pub parts : HasParts report
  pub lower : IfSome report.lower IsNarrow
  pub upper : IfSome report.upper IsNarrow
  pub extra : IfSome report.extra IsNarrow
  pub policy : IfSome report.policy (AreOver (length (column_names program.columns.items)))
  pub direction : IfSome report.direction (AreOver (length (column_names program.columns.items)))
  pub dual : IfSome report.dual (AreOver (length (row_names program.rows.items)))
  pub ray : IfSome report.ray (AreOver (length (row_names program.rows.items)))

-- reports that are numbered from this number on
abbrev pub ArePrintable : Program → ℕ → List Report → Type 0
ArePrintable program number [] = ⊤
ArePrintable program number (report ∷ reports) = IsPrintable program number report × ArePrintable program (number + 1) reports
