-- What the report of a claim tells.
use Rattle.std.specs.Prelude.{◌≡◌, ◌⊎◌, ℕ, false, List, [], Option, Some, None, Err}
use Rattle.rationals.specs.Passes.{Operation, passes}
use Rattle.scen_defs.specs.Values.{At, at}
use Rattle.scen_defs.specs.Flat.{Feasible, IsGood}
use Rattle.scen_defs.specs.declared.program.Program.{Program}
use Rattle.scen_defs.specs.declared.report.Finding.{Finding}
use Rattle.scen_defs.specs.declared.report.Finding.TheVariants.{Optimal, Infeasible, Unbounded, OpenSolves, OpenPivots, OpenPassed}
use Rattle.scen_defs.specs.declared.report.Place.{Place}
use Rattle.scen_defs.specs.declared.report.Report.{Report}
use Rattle.report_defs.specs.Seen.{seen}
use Rattle.proved_report.specs.declared.open.Open.{Open}
use Rattle.proved_report.specs.declared.open.Open.TheVariants.{Solves, Pivots, Passed}
use Rattle.proved_report.specs.declared.claim.Claim.{Claim}
use Rattle.proved_report.specs.declared.claim.Claim.TheVariants.{Ends, Nowhere, Endless}
use Rattle.proved_report.specs.Tested.{by_cost, policy_test, dual_test}
use Rattle.claim_laws.specs.Held.{FitsColumns, FitsRows, ClaimHolds, finding_for, PassesInClaim, TellsTest}

-- a reason is told as so many solves: it is this number of them, or an operation that doesn't pass, and this is the number that is given
abbrev pub IsForSolves : Open → ℕ → ℕ → Type 0
IsForSolves (Solves k) solves n = n ≡ k
IsForSolves (Pivots k) solves n = ⊥
IsForSolves (Passed place o) solves n = (passes o.op o.a o.b ≡ false) × (n ≡ solves)

-- What a report of the claim may find: where it isn't open, what the claim asks for. It is open by the reason, for the pivots of the solve
-- that this names or for so many solves, or for an operation: that of the reason, or the first that passes in the tests of the claim.
abbrev pub IsFindingOf : Program → Place → Open → ℕ → Claim → Finding → Type 0
IsFindingOf program place why solves claim Optimal = finding_for claim ≡ Optimal
IsFindingOf program place why solves claim Infeasible = finding_for claim ≡ Infeasible
IsFindingOf program place why solves claim Unbounded = finding_for claim ≡ Unbounded
IsFindingOf program place why solves claim (OpenSolves n) = IsForSolves why solves n
IsFindingOf program place why solves claim (OpenPivots k) = why ≡ Pivots k
IsFindingOf program place why solves claim (OpenPassed told o) = (why ≡ Passed told o) ⊎ PassesInClaim program place claim told o

-- the lists of a claim, each where it is claimed
abbrev pub claimed_policy : Claim → Option (List At)
claimed_policy (Ends policy dual) = policy
claimed_policy (Nowhere ray) = None
claimed_policy (Endless policy direction) = Some policy

abbrev pub claimed_dual : Claim → Option (List At)
claimed_dual (Ends policy dual) = dual
claimed_dual (Nowhere ray) = None
claimed_dual (Endless policy direction) = None

abbrev pub claimed_ray : Claim → Option (List At)
claimed_ray (Ends policy dual) = None
claimed_ray (Nowhere ray) = Some ray
claimed_ray (Endless policy direction) = None

abbrev pub claimed_direction : Claim → Option (List At)
claimed_direction (Ends policy dual) = None
claimed_direction (Nowhere ray) = None
claimed_direction (Endless policy direction) = Some direction

-- a list that is printed is the one that is claimed, and fits the program
abbrev pub PrintsOnly : (List At → Type 0) → Option (List At) → Option (List At) → Type 0
PrintsOnly Fits claimed printed = (values : List At) → printed ≡ Some values → (claimed ≡ Some values) × Fits values

-- The lists of the report are those of the claim.
pub record PrintsClaimed (program : Program) (claim : Claim) (report : Report) : Type 0 where
  pub policy : PrintsOnly (FitsColumns program) (claimed_policy claim) report.policy
  pub dual : PrintsOnly (FitsRows program) (claimed_dual claim) report.dual
  pub ray : PrintsOnly (FitsRows program) (claimed_ray claim) report.ray
  pub direction : PrintsOnly (FitsColumns program) (claimed_direction claim) report.direction
  -- a policy that is claimed, fits and is feasible is printed, unless an operation passes in its test
  pub feasible : (values : List At) → claimed_policy claim ≡ Some values → FitsColumns program values → Feasible (seen program) (at values)
      → (report.policy ≡ Some values) ⊎ ((o : Operation) × (policy_test program values ≡ by_cost [] (Err o)))
  -- so is a dual that is claimed, fits and is good
  pub good : (values : List At) → claimed_dual claim ≡ Some values → FitsRows program values → IsGood (seen program) (at values)
      → (report.dual ≡ Some values) ⊎ ((o : Operation) × (dual_test program values ≡ by_cost [] (Err o)))

-- The report tells what is claimed, beside a reason for which it may be left open.
pub record TellsClaim (program : Program) (place : Place) (why : Open) (solves : ℕ) (claim : Claim) (report : Report) : Type 0 where
  -- where the claim holds, the report finds what it asks for, or it tells an operation of the claim's tests
  pub holds : ClaimHolds program claim → (report.finding ≡ finding_for claim) ⊎ TellsTest program place claim report
  -- the first operation that passes in these tests is told, whatever the claim is; unless the ends are equal all the same
  pub tests : (told : Place) (o : Operation) → PassesInClaim program place claim told o
      → (report.finding ≡ OpenPassed told o) ⊎ (report.finding ≡ Optimal)
  -- whatever is found is the claim's, or it is by the reason or for such an operation
  pub finding : IsFindingOf program place why solves claim report.finding
  pub lists : PrintsClaimed program claim report
