-- Where a claim holds, and where a report tells an operation of its tests.
use Rattle.std.specs.Prelude.{◌≡◌, ◌⊎◌, true, false, List, [], Some, None, Err}
use Rattle.rationals.specs.Rational.{◌≤ℚ◌}
use Rattle.rationals.specs.Passes.{Operation}
use Rattle.scen_defs.specs.Values.{At, at}
use Rattle.scen_defs.specs.Program.{content}
use Rattle.scen_defs.specs.Flat.{Feasible, cost, IsGood, value, ShowsInfeasible, IsDirection}
use Rattle.scen_defs.specs.declared.program.Program.{Program}
use Rattle.scen_defs.specs.declared.report.Finding.{Finding}
use Rattle.scen_defs.specs.declared.report.Finding.TheVariants.{Optimal, Infeasible, Unbounded, OpenPassed}
use Rattle.scen_defs.specs.declared.report.Place.{Place}
use Rattle.scen_defs.specs.declared.report.Place.TheVariants.{Dual}
use Rattle.scen_defs.specs.declared.report.Report.{Report}
use Rattle.scen_model.specs.Derived.{all_fit}
use Rattle.report_defs.specs.Seen.{seen}
use Rattle.proved_report.specs.declared.claim.Claim.{Claim}
use Rattle.proved_report.specs.declared.claim.Claim.TheVariants.{Ends, Nowhere, Endless}
use Rattle.proved_report.specs.Tested.{by_cost, policy_test, direction_test, ray_test, some_policy_test, some_dual_test}

-- a list over columns, and one over rows, of live nodes and their stages
abbrev pub FitsColumns : Program → List At → Type 0
FitsColumns program values = all_fit (content program) false values ≡ true

abbrev pub FitsRows : Program → List At → Type 0
FitsRows program values = all_fit (content program) true values ≡ true

-- the policy is feasible, the dual is good, and the policy costs no more than the dual is worth
pub record OptimumHolds (program : Program) (policy dual : List At) : Type 0 where
  pub policy_fits : FitsColumns program policy
  pub dual_fits : FitsRows program dual
  pub feasible : Feasible (seen program) (at policy)
  pub good : IsGood (seen program) (at dual)
  pub meet : cost (seen program) (at policy) ≤ℚ value (seen program) (at dual)

-- the ray leaves no feasible policy
pub record RayHolds (program : Program) (ray : List At) : Type 0 where
  pub ray_fits : FitsRows program ray
  pub shows : ShowsInfeasible (seen program) (at ray)

-- from the policy the cost falls for ever along the direction
pub record CostFalls (program : Program) (policy direction : List At) : Type 0 where
  pub policy_fits : FitsColumns program policy
  pub direction_fits : FitsColumns program direction
  pub feasible : Feasible (seen program) (at policy)
  pub falls : IsDirection (seen program) (at direction)

-- what is claimed is there, and is so
abbrev pub ClaimHolds : Program → Claim → Type 0
ClaimHolds program (Ends (Some policy) (Some dual)) = OptimumHolds program policy dual
ClaimHolds program (Ends (Some policy) None) = ⊥
ClaimHolds program (Ends None dual) = ⊥
ClaimHolds program (Nowhere ray) = RayHolds program ray
ClaimHolds program (Endless policy direction) = CostFalls program policy direction

-- the finding that a claim asks for
abbrev pub finding_for : Claim → Finding
finding_for (Ends policy dual) = Optimal
finding_for (Nowhere ray) = Infeasible
finding_for (Endless policy direction) = Unbounded

-- The first operation that passes in the tests of a claim: in that of its policy or of its direction, which are tested at this place, or in
-- that of its dual or of its ray, which are tested at Dual. A policy is tested before the other list.
abbrev pub PassesInClaim : Program → Place → Claim → Place → Operation → Type 0
PassesInClaim program place (Ends policy dual) told o =
    ((told ≡ place) × (some_policy_test program policy ≡ by_cost [] (Err o)))
    ⊎ ((told ≡ Dual) × (some_dual_test program dual ≡ by_cost [] (Err o))
    × ((p : Operation) → some_policy_test program policy ≡ by_cost [] (Err p) → ⊥))
PassesInClaim program place (Nowhere ray) told o = (told ≡ Dual) × (ray_test program ray ≡ by_cost [] (Err o))
PassesInClaim program place (Endless policy direction) told o =
    (told ≡ place) × ((policy_test program policy ≡ by_cost [] (Err o))
    ⊎ ((direction_test program direction ≡ by_cost [] (Err o)) × ((p : Operation) → policy_test program policy ≡ by_cost [] (Err p) → ⊥)))

-- the report is open for such an operation
pub record TellsTest (program : Program) (place : Place) (claim : Claim) (report : Report) : Type 0 where
  pub told : Place
  pub operation : Operation
  pub finding : report.finding ≡ OpenPassed told operation
  pub passes : PassesInClaim program place claim told operation
