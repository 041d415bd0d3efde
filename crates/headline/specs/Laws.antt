-- That true reports say what is so.
use Rattle.std.specs.Prelude.{◌≡◌, List, Some}
use Rattle.rationals.specs.Rational.{ℚ, ◌≤ℚ◌}
use Rattle.scen_defs.specs.Values.{At, at}
use Rattle.scen_defs.specs.Program.{View}
use Rattle.scen_defs.specs.Flat.{Feasible, cost}
use Rattle.scen_defs.specs.declared.report.Finding.{Finding}
use Rattle.scen_defs.specs.declared.report.Report.{Report}
use Rattle.report_defs.specs.Truth.{IsTrue}
use Rattle.report_defs.specs.Laws.{HasBest}
use Rattle.certificate_check.specs.Shown.{IsShown, unchecked}
use Rattle.headline.specs.Headline.{Policy, PolicyIsLeast, StatusIsSo}

-- of a report that is true, whatever may be said of why it is open
abbrev pub TrueReportsAreSo : Type 0
TrueReportsAreSo = (v : View) (report : Report) → IsTrue v unchecked report → StatusIsSo v (cost v) report report.finding

-- of a report all of whose claims hold
abbrev pub HeldReportsAreSo : Type 0
HeldReportsAreSo = (v : View) (report : Report) → IsShown v report → StatusIsSo v (cost v) report report.finding

-- What a feasible policy of the first program costs by this is what one of the second costs there; and each feasible policy of the second
-- is feasible for the first, and costs no more by this.
pub record CostsBy (first second : View) (cost_of : Policy → ℚ) : Type 0 where
  pub attained : (x : Policy) → Feasible first x → (y : Policy) × Feasible second y × (cost second y ≡ cost_of x)
  pub least : (y : Policy) → Feasible second y → Feasible first y × (cost_of y ≤ℚ cost second y)

-- what is so of the second is so of the first, with that cost
abbrev pub RisksAreLeast : Type 0
RisksAreLeast = (first second : View) (cost_of : Policy → ℚ) (report : Report) (finding : Finding) → CostsBy first second cost_of
    → StatusIsSo second (cost second) report finding → StatusIsSo first cost_of report finding

-- the report's policy is least, at the upper end
pub record HasLeast (v : View) (report : Report) : Type 0 where
  pub policy : List At
  pub there : report.policy ≡ Some policy
  pub upper : ℚ
  pub upper_is : report.upper ≡ Some upper
  pub least : PolicyIsLeast v (cost v) (at policy) upper

abbrev pub BestIsLeast : Type 0
BestIsLeast = (v : View) (report : Report) → (HasBest v report → HasLeast v report) × (HasLeast v report → HasBest v report)
