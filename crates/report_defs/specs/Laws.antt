-- What equal ends say of every feasible point.
use Rattle.std.specs.Prelude.{◌≡◌, ℕ, List, Some}
use Rattle.rationals.specs.Rational.{ℚ, ◌≤ℚ◌}
use Rattle.scen_defs.specs.Values.{At, at}
use Rattle.scen_defs.specs.Program.{View}
use Rattle.scen_defs.specs.Flat.{Feasible, cost}
use Rattle.scen_defs.specs.declared.report.Report.{Report}
use Rattle.report_defs.specs.Shows.{Together, ShowsLower, ShowsUpper}
use Rattle.report_defs.specs.Findings.{IsOptimal}

-- the report's policy is feasible and costs the upper end, and no feasible point costs less
pub record HasBest (v : View) (report : Report) : Type 0 where
  pub policy : List At
  pub there : report.policy ≡ Some policy
  pub feasible : Feasible v (at policy)
  pub costs : report.upper ≡ Some (cost v (at policy))
  pub least : (x : ℕ → ℕ → ℚ) → Feasible v x → cost v (at policy) ≤ℚ cost v x

abbrev pub EqualEndsAreBest : Type 0
EqualEndsAreBest = (v : View) (report : Report)
    → Together (ShowsLower v) report.lower report.dual → Together (ShowsUpper v) report.upper report.policy
    → IsOptimal report → HasBest v report
