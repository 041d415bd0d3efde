-- How a command ends: by the finding of its report, or by whether something is left open.
use Rattle.std.specs.Prelude.{Bool, true, false}
use Rattle.scen_defs.specs.declared.report.Finding.{Finding}
use Rattle.scen_defs.specs.declared.report.Finding.TheVariants.{Optimal, Infeasible, Unbounded, OpenSolves, OpenPivots, OpenPassed}
use Rattle.exit_status.specs.declared.status.Status.{Status}
use Rattle.exit_status.specs.declared.status.Status.TheVariants.{Done, SomeOpen}

abbrev pub is_open_finding : Finding → Bool
is_open_finding Optimal = false
is_open_finding Infeasible = false
is_open_finding Unbounded = false
is_open_finding (OpenSolves n) = true
is_open_finding (OpenPivots k) = true
is_open_finding (OpenPassed place p) = true

-- by whether something is left open
abbrev pub open_status : Bool → Status
open_status true = SomeOpen
open_status false = Done

abbrev pub command_status : Finding → Status
command_status finding = open_status (is_open_finding finding)
