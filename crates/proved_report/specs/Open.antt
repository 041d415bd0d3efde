-- Why a report is left open, where no more is known of the method than what it says.
use Rattle.std.specs.Prelude.{◌≡◌, ◌⊎◌, ℕ, true}
use Rattle.rationals.specs.Passes.{Operation, passes}
use Rattle.rationals.specs.Choices.{pick}
use Rattle.scen_defs.specs.declared.report.Finding.{Finding}
use Rattle.scen_defs.specs.declared.report.Finding.TheVariants.{OpenSolves, OpenPivots, OpenPassed}
use Rattle.report_defs.specs.Truth.{Reasons}
use Rattle.proved_report.specs.declared.open.Open.{Open}
use Rattle.proved_report.specs.declared.open.Open.TheVariants.{Solves, Pivots, Passed}

-- the operation passes 128 bits
pub record IsPassing (operation : Operation) : Type 0 where
  pub holds : passes operation.op operation.a operation.b ≡ true

-- The operation passes; the numbers are those that were given. Nothing is said of the method's solves and pivots.
abbrev pub given : Open → ℕ → Reasons
given why solves = record {
  passes = λ place operation. IsPassing operation;
  pivots_end = λ k. why ≡ Pivots k;
  solves_end = λ n. (why ≡ Solves n) ⊎ (n ≡ solves);
}

-- The finding of a report that is left open: an operation is told where it passes, else so many solves.
abbrev pub finding_of : Open → ℕ → Finding
finding_of (Solves n) solves = OpenSolves n
finding_of (Pivots k) solves = OpenPivots k
finding_of (Passed place p) solves = pick (passes p.op p.a p.b) (OpenPassed place p) (OpenSolves solves)
