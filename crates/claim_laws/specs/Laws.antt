-- What is so is shown.
use Rattle.std.specs.Prelude.{ℕ}
use Rattle.rationals.specs.Rational.{ℚ, zero_ℚ, ◌<ℚ◌}
use Rattle.scen_defs.specs.Program.{View}
use Rattle.scen_defs.specs.Flat.{Feasible, cost, recession, IsDirection}
use Rattle.scen_defs.specs.declared.program.Program.{Program}
use Rattle.scen_defs.specs.declared.report.Place.{Place}
use Rattle.scen_defs.specs.declared.report.Report.{Report}
use Rattle.proved_report.specs.declared.open.Open.{Open}
use Rattle.proved_report.specs.declared.claim.Claim.{Claim}
use Rattle.proved_report.specs.Reports.{IsClaimed}
use Rattle.claim_laws.specs.Tells.{TellsClaim}

-- a point of the recession whose cost is below 0 is a direction
abbrev pub RecessionPointsAreDirections : Type 0
RecessionPointsAreDirections = (v : View) (d : ℕ → ℕ → ℚ) → Feasible (recession v) d → cost v d <ℚ zero_ℚ → IsDirection v d

-- whatever is claimed, so or not, its report tells it
abbrev pub ClaimsAreTold : Type 0
ClaimsAreTold = (program : Program) (number : ℕ) (place : Place) (why : Open) (solves : ℕ) (claim : Claim) (report : Report)
    → IsClaimed program number place why solves claim report → TellsClaim program place why solves claim report
