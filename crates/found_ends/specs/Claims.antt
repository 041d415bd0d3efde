-- What is claimed of a program where nothing is left to find.
use Rattle.std.specs.Prelude.{◌≡◌, ◌⊎◌, List, Option, Some, None, Result, Ok, Err}
use Rattle.rationals.specs.Passes.{Operation}
use Rattle.scen_defs.specs.Values.{At}
use Rattle.scen_defs.specs.declared.report.Place.TheVariants.{Dual}
use Rattle.cut_defs.specs.Stored.{Stored}
use Rattle.dual_assemble.specs.Values.{assembled}
use Rattle.proved_report.specs.declared.open.Open.{Open}
use Rattle.proved_report.specs.declared.open.Open.TheVariants.{Passed}
use Rattle.proved_report.specs.declared.claim.Claim.TheVariants as claims
use Rattle.found_ends.specs.declared.ends.Priced.{Priced}
use Rattle.found_ends.specs.declared.ends.Bounded.{Bounded}
use Rattle.found_ends.specs.declared.ends.Ends.{Ends}
use Rattle.found_ends.specs.declared.settled.Settled.{Settled}
use Rattle.found_ends.specs.declared.settled.Settled.TheVariants.{Infeasible, Unbounded, Optimal, Stopped, Spent}
use Rattle.found_ends.specs.declared.claims.Closed.{Closed}
use Rattle.found_ends.specs.declared.claims.Multipliers.{Multipliers}
use Rattle.found_ends.specs.declared.claims.Multipliers.TheVariants.{Found, Not}

-- the multipliers that `assemble` finds, or the operation in which it ends
abbrev pub found_or : Result (List At) Operation → Multipliers
found_or (Ok values) = Found (Some values)
found_or (Err p) = Not p

-- the multipliers of a cut, none without one
abbrev pub multipliers_of : Option Stored → Multipliers
multipliers_of None = Found None
multipliers_of (Some cut) = found_or (assembled cut)

abbrev pub policy_of : Option Priced → Option (List At)
policy_of None = None
policy_of (Some found) = Some found.policy

abbrev pub cut_of : Option Bounded → Option Stored
cut_of None = None
cut_of (Some found) = Some found.cut

abbrev pub ends_of : Option (List At) → Option (List At) → Open → Closed
ends_of policy dual why = record { claim = claims.Ends policy dual; why = why }

-- that no point is feasible, where there are multipliers that show it
abbrev pub by_ray : Multipliers → Open → Closed
by_ray (Found (Some ray)) why = record { claim = claims.Nowhere ray; why = why }
by_ray (Found None) why = ends_of None None why
by_ray (Not p) why = ends_of None None (Passed Dual p)

-- that the cost falls for ever, where there are a policy and a direction; else the policy, where that is there
abbrev pub by_direction : Option (List At) → Option (List At) → Open → Closed
by_direction (Some policy) (Some direction) why = record { claim = claims.Endless policy direction; why = why }
by_direction None (Some direction) why = ends_of None None why
by_direction policy None why = ends_of policy None why

-- the operation ends the assembly of the multipliers of a cut that the ends rest on
pub record EndsAssembly (e : Ends) (o : Operation) : Type 0 where
  pub cut : Stored
  pub rests : (e.nowhere ≡ Some cut) ⊎ (cut_of e.lower ≡ Some cut)
  pub passes : assembled cut ≡ Err o

-- what is told is this reason, or the operation in which such an assembly ends
abbrev pub IsReason : Ends → Open → Open → Type 0
IsReason e why told = (told ≡ why) ⊎ ((o : Operation) × (told ≡ Passed Dual o) × EndsAssembly e o)

-- the policy of the upper end and the multipliers of the lower one
abbrev pub by_ends : Option (List At) → Multipliers → Open → Closed
by_ends policy (Found dual) why = ends_of policy dual why
by_ends policy (Not p) why = ends_of policy None (Passed Dual p)

-- what is claimed, and why the report is open where that doesn't settle it
abbrev pub closed_by : Option Settled → Ends → Open → Closed
closed_by (Some Infeasible) e why = by_ray (multipliers_of e.nowhere) why
closed_by (Some Unbounded) e why = by_direction (policy_of e.upper) (policy_of e.direction) why
closed_by (Some Optimal) e why = by_ends (policy_of e.upper) (multipliers_of (cut_of e.lower)) why
closed_by (Some Stopped) e why = by_ends (policy_of e.upper) (multipliers_of (cut_of e.lower)) why
closed_by (Some Spent) e why = by_ends (policy_of e.upper) (multipliers_of (cut_of e.lower)) why
closed_by None e why = by_ends (policy_of e.upper) (multipliers_of (cut_of e.lower)) why
