-- What a report says of its program where all its claims hold.
use Rattle.std.specs.Prelude.{◌≡◌, ◌⊎◌, List, Some, None, Result, Ok, Err}
use Rattle.rationals.specs.Rational.{ℚ}
use Rattle.rationals.specs.Passes.{Operation}
use Rattle.scen_model.specs.Answers.{Answers}
use Rattle.scen_defs.specs.Values.{At}
use Rattle.scen_defs.specs.Program.{View}
use Rattle.scen_defs.specs.declared.report.Finding.TheVariants.{Infeasible}
use Rattle.scen_defs.specs.declared.report.Halt.{Halt}
use Rattle.scen_defs.specs.declared.report.Report.{Report}
use Rattle.report_defs.specs.Shows.{ShowsNothing}
use Rattle.report_defs.specs.Truth.{Reasons, IsTrue, HasCounts}
use Rattle.certificate_check.specs.declared.verdict.Verdict.{Verdict}
use Rattle.certificate_check.specs.declared.verdict.Verdict.TheVariants.{Holds, Fails}

-- why a report is left open is not checked
abbrev pub unchecked : Reasons
unchecked = record { passes = λ place operation. Unit {0}; pivots_end = λ k. Unit {0}; solves_end = λ n. Unit {0} }

-- the ray and its value are there, and show that no policy is feasible
pub record HasRay (v : View) (report : Report) : Type 0 where
  pub value : ℚ
  pub value_is : report.extra ≡ Some value
  pub ray : List At
  pub ray_is : report.ray ≡ Some ray
  pub shows : ShowsNothing v value ray

-- The counts are the program's. The report is true, where it doesn't tell a lower end of an infeasible program, which its ray
-- shows to be infeasible all the same.
pub record IsShown (v : View) (report : Report) : Type 0 where
  pub counts : HasCounts v report
  pub truth : (report.finding ≡ Infeasible → report.lower ≡ None) → IsTrue v unchecked report
  pub ray : report.finding ≡ Infeasible → HasRay v report

-- what follows from the answer that all claims hold
abbrev pub IfHolds : Result Verdict Halt → Type 0 → Type 0
IfHolds (Ok Holds) P = P
IfHolds (Ok (Fails c)) P = Unit {0}
IfHolds (Err h) P = Unit {0}

-- The answer is what the claims come to, operation by operation; or, where that ends in an operation that passes, that all of them hold.
abbrev pub JudgedBy : Result Verdict Operation → Result Verdict Halt → Type 0
JudgedBy walk result = Answers walk result ⊎ ((result ≡ Ok Holds) × ((p : Operation) × (walk ≡ Err p)))
