-- What is claimed of a program where a run shows its finding.
use Rattle.std.specs.Prelude.{◌≡◌, ◌⊎◌, Option, Some, None}
use Rattle.rationals.specs.Passes.{Operation}
use Rattle.scen_defs.specs.Program.{content}
use Rattle.scen_defs.specs.declared.program.Program.{Program}
use Rattle.scen_defs.specs.declared.report.Finding.{Finding}
use Rattle.scen_defs.specs.declared.report.Finding.TheVariants as findings
use Rattle.scen_defs.specs.declared.report.Place.TheVariants.{Dual}
use Rattle.proved_report.specs.declared.open.Open.TheVariants.{Passed}
use Rattle.claim_laws.specs.Held.{ClaimHolds, finding_for}
use Rattle.found_ends.specs.declared.ends.Ends.{Ends}
use Rattle.found_ends.specs.declared.claims.Closed.{Closed}
use Rattle.found_ends.specs.declared.settled.Settled.{Settled}
use Rattle.found_ends.specs.declared.settled.Settled.TheVariants.{Infeasible, Unbounded, Optimal, Stopped, Spent}
use Rattle.found_ends.specs.Claims.{EndsAssembly}
use Rattle.pass_core.specs.declared.state.State.{State}
use Rattle.nested_method.specs.Stands.{settled_in, closing}
use Rattle.progress_laws.specs.Courses.{IsRunTo}

-- the finding that a case shows; a method that is stopped, or has no solve left, shows none
abbrev pub finding_shown : Settled → Option Finding
finding_shown Infeasible = Some findings.Infeasible
finding_shown Unbounded = Some findings.Unbounded
finding_shown Optimal = Some findings.Optimal
finding_shown Stopped = None
finding_shown Spent = None

-- what is claimed holds, and asks for this finding
pub record ClaimsRightly (program : Program) (finding : Finding) (closed : Closed) : Type 0 where
  pub holds : ClaimHolds program closed.claim
  pub asks : finding_for closed.claim ≡ finding

-- an operation ends the assembly of the multipliers of a cut that the ends rest on, and is told
pub record TellsAssembly (e : Ends) (closed : Closed) : Type 0 where
  pub operation : Operation
  pub told : closed.why ≡ Passed Dual operation
  pub ends : EndsAssembly e operation

-- where a run that nothing stops shows a finding, what is claimed of the program holds, unless such an operation is told
abbrev pub SettledClaimsHold : Type 0
SettledClaimsHold = (program : Program) (s : State) (case : Settled) (finding : Finding) → IsRunTo (content program) s → s.stop ≡ None
    → settled_in s ≡ Some case → finding_shown case ≡ Some finding
    → ClaimsRightly program finding (closing s) ⊎ TellsAssembly s.ends (closing s)
