-- A report that is true for some reasons is true for others that follow from them.
use Rattle.std.proofs.Common.{ℕ}
use Rattle.rationals.specs.Passes.{Operation}
use Rattle.scen_defs.specs.Program.{View}
use Rattle.scen_defs.specs.declared.report.Place.{Place}
use Rattle.scen_defs.specs.declared.report.Finding.{Finding}
use Rattle.scen_defs.specs.declared.report.Finding.TheVariants.{Optimal, Infeasible, Unbounded, OpenSolves, OpenPivots, OpenPassed}
use Rattle.scen_defs.specs.declared.report.Report.{Report}
use Rattle.report_defs.specs.Truth.{Reasons, Explains, IsTrue}

-- each reason gives one of the others
pub record Follow (why other : Reasons) : Type 0 where
  pub passes : (place : Place) (p : Operation) → why.passes place p → other.passes place p
  pub pivots : (k : ℕ) → why.pivots_end k → other.pivots_end k
  pub solves : (n : ℕ) → why.solves_end n → other.solves_end n

explains_for : (v : View) (why other : Reasons) (report : Report) (f : Finding) → Follow why other → Explains v why report f → Explains v other report f
explains_for v why other report Optimal h e = e
explains_for v why other report Infeasible h e = e
explains_for v why other report Unbounded h e = e
explains_for v why other report (OpenSolves n) h e = h.solves n e
explains_for v why other report (OpenPivots k) h e = h.pivots k e
explains_for v why other report (OpenPassed place p) h e = h.passes place p e

pub true_for : (v : View) (why other : Reasons) (report : Report) → Follow why other → IsTrue v why report → IsTrue v other report
true_for v why other report h t = record {
  lower = t.lower;
  upper = t.upper;
  finding = explains_for v why other report report.finding h t.finding;
  direction = t.direction;
  ray = t.ray;
  extra = t.extra;
}
