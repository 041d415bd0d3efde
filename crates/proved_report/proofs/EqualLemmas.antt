-- A report of a claim isn't left open where its ends are equal.
use Rattle.std.proofs.Common.{◌≡◌, ℕ, Bool, true, Option, Some, None, Result, Ok, Err, IfOk, sym, ap, ap₂, subst, ◌∙◌}
use Rattle.report_defs.specs.Blank.{blank_report}
use Rattle.rationals.specs.Rational.{ℚ}
use Rattle.rationals.specs.Order.{same}
use Rattle.rationals.specs.Choices.{pick}
use Rattle.scen_defs.specs.declared.program.Program.{Program}
use Rattle.scen_defs.specs.declared.report.Finding.{Finding}
use Rattle.scen_defs.specs.declared.report.Finding.TheVariants.{Optimal}
use Rattle.scen_defs.specs.declared.report.Place.{Place}
use Rattle.scen_defs.specs.declared.report.Place.TheVariants.{Dual}
use Rattle.scen_defs.specs.declared.report.Report.{Report}
use Rattle.proved_report.specs.declared.tested.Tested.{Tested}
use Rattle.proved_report.specs.declared.tested.Tested.TheVariants.{Shows, Fails, Passes}
use Rattle.proved_report.specs.declared.open.Open.{Open}
use Rattle.proved_report.specs.declared.claim.Claim.{Claim}
use Rattle.proved_report.specs.declared.claim.Claim.TheVariants.{Ends, Nowhere, Endless}
use Rattle.proved_report.specs.Open.{finding_of}
use Rattle.proved_report.specs.Reports.{Rounds, ends_report, ray_report, falling_report, claimed_report, IsClaimed, EqualIsOptimal}
use Rattle.proved_report.specs.Tested.{or_before, policy_test, direction_test, ray_test, some_policy_test, some_dual_test}

none_some : {A : Type 0} (x : A) → ◌≡◌ {A = Option A} None (Some x) → ⊥
none_some x e = cc

same_some : {A : Type 0} (x y : A) → Some x ≡ Some y → x ≡ y
same_some x y e = cc

-- of both ends the finding is OPTIMAL where they are the same
both_equal : (value cost lower upper : ℚ) (finding : Finding) → Some value ≡ Some lower → Some cost ≡ Some upper → same lower upper ≡ true
    → pick (same value cost) Optimal finding ≡ Optimal
both_equal value cost lower upper finding a b s =
    ap (λ (t : Bool). pick t Optimal finding) (ap₂ same (same_some value lower a) (same_some cost upper b) ∙ s)

ends_equal : (number nodes scenarios : ℕ) (finding : Finding) (u l : Tested) → EqualIsOptimal (ends_report (blank_report number nodes scenarios finding) u l)
ends_equal number nodes scenarios finding (Shows cost policy) (Shows value dual) = λ lower upper a b s. both_equal value cost lower upper finding a b s
ends_equal number nodes scenarios finding Fails (Shows value dual) = λ lower upper a b s. absurd (none_some upper b)
ends_equal number nodes scenarios finding (Passes o) (Shows value dual) = λ lower upper a b s. absurd (none_some upper b)
ends_equal number nodes scenarios finding (Shows cost policy) Fails = λ lower upper a b s. absurd (none_some lower a)
ends_equal number nodes scenarios finding Fails Fails = λ lower upper a b s. absurd (none_some lower a)
ends_equal number nodes scenarios finding (Passes o) Fails = λ lower upper a b s. absurd (none_some lower a)
ends_equal number nodes scenarios finding (Shows cost policy) (Passes p) = λ lower upper a b s. absurd (none_some lower a)
ends_equal number nodes scenarios finding Fails (Passes p) = λ lower upper a b s. absurd (none_some lower a)
ends_equal number nodes scenarios finding (Passes o) (Passes p) = λ lower upper a b s. absurd (none_some lower a)

ray_equal : (number nodes scenarios : ℕ) (finding : Finding) (r : Tested) → EqualIsOptimal (ray_report (blank_report number nodes scenarios finding) r)
ray_equal number nodes scenarios finding (Shows value ray) = λ lower upper a b s. absurd (none_some lower a)
ray_equal number nodes scenarios finding Fails = λ lower upper a b s. absurd (none_some lower a)
ray_equal number nodes scenarios finding (Passes o) = λ lower upper a b s. absurd (none_some lower a)

falling_equal : (number nodes scenarios : ℕ) (finding : Finding) (u d : Tested) → EqualIsOptimal (falling_report (blank_report number nodes scenarios finding) u d)
falling_equal number nodes scenarios finding (Shows cost policy) (Shows slope direction) = λ lower upper a b s. absurd (none_some lower a)
falling_equal number nodes scenarios finding (Shows cost policy) Fails = λ lower upper a b s. absurd (none_some lower a)
falling_equal number nodes scenarios finding (Shows cost policy) (Passes o) = λ lower upper a b s. absurd (none_some lower a)
falling_equal number nodes scenarios finding Fails d = λ lower upper a b s. absurd (none_some lower a)
falling_equal number nodes scenarios finding (Passes o) d = λ lower upper a b s. absurd (none_some lower a)

claim_equal : (program : Program) (number nodes scenarios : ℕ) (place : Place) (why : Open) (solves : ℕ) (rounds : Rounds) (claim : Claim)
    → EqualIsOptimal (claimed_report program number nodes scenarios place why solves rounds claim)
claim_equal program number nodes scenarios place why solves rounds (Ends policy dual) =
    let u = some_policy_test program policy in
    let l = some_dual_test program dual in
    ends_equal number nodes scenarios (finding_of (or_before u place (or_before l Dual why)) solves) rounds.upper rounds.lower
claim_equal program number nodes scenarios place why solves rounds (Nowhere ray) =
    let r = ray_test program ray in
    ray_equal number nodes scenarios (finding_of (or_before r Dual why) solves) r
claim_equal program number nodes scenarios place why solves rounds (Endless policy direction) =
    let u = policy_test program policy in
    let d = direction_test program direction in
    falling_equal number nodes scenarios (finding_of (or_before u place (or_before d place why)) solves) u d

pub claimed_equal : {E : Type 0} (program : Program) (number : ℕ) (place : Place) (why : Open) (solves : ℕ) (claim : Claim) (r : Result Report E)
    → IfOk r (IsClaimed program number place why solves claim) → IfOk r EqualIsOptimal
claimed_equal program number place why solves claim (Ok report) h =
    subst EqualIsOptimal (sym h.is) (claim_equal program number report.nodes report.scenarios place why solves h.rounds claim)
claimed_equal program number place why solves claim (Err e) h = tt
