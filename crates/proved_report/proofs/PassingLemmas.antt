-- The finding of a report of a claim that is left open: where the operation that it tells stands.
use Rattle.std.proofs.Common.{◌≡◌, ◌⊎◌, ℕ, Bool, true, false, List, Option, Some, None, inl, inr, subst}
use Rattle.report_defs.specs.Blank.{blank_report}
use Rattle.rationals.specs.Order.{same}
use Rattle.rationals.specs.Passes.{Operation, passes}
use Rattle.rationals.specs.Choices.{pick}
use Rattle.scen_defs.specs.Values.{At}
use Rattle.scen_defs.specs.declared.program.Program.{Program}
use Rattle.scen_defs.specs.declared.report.Place.{Place}
use Rattle.scen_defs.specs.declared.report.Place.TheVariants.{Cost, Dual}
use Rattle.scen_defs.specs.declared.report.Finding.{Finding}
use Rattle.scen_defs.specs.declared.report.Finding.TheVariants.{Optimal, OpenSolves, OpenPassed}
use Rattle.scen_defs.specs.declared.report.Report.{Report}
use Rattle.proved_report.specs.declared.tested.Tested.{Tested}
use Rattle.proved_report.specs.declared.tested.Tested.TheVariants.{Shows, Fails, Passes}
use Rattle.proved_report.specs.declared.open.Open.{Open}
use Rattle.proved_report.specs.declared.open.Open.TheVariants.{Solves, Pivots, Passed}
use Rattle.proved_report.specs.declared.claim.Claim.{Claim}
use Rattle.proved_report.specs.declared.claim.Claim.TheVariants.{Ends, Nowhere, Endless}
use Rattle.proved_report.specs.Open.{finding_of}
use Rattle.proved_report.specs.Passing.{PassesInPoint, PassesInMultipliers, PassesInTest}
use Rattle.proved_report.specs.Tested.{or_before, policy_test, direction_test, ray_test, some_policy_test, some_dual_test}
use Rattle.proved_report.specs.Reports.{Rounds, ends_report, ray_report, falling_report, claimed_report}

-- ---- the finding of a report that is left open, and its reason
picked : (holds : Bool) (at place : Place) (p o : Operation) (solves : ℕ) → pick holds (OpenPassed at p) (OpenSolves solves) ≡ OpenPassed place o
    → Passed at p ≡ Passed place o
picked true at place p o solves h = cc
picked false at place p o solves h = cc

told_reason : (left : Open) (solves : ℕ) (place : Place) (o : Operation) → finding_of left solves ≡ OpenPassed place o → left ≡ Passed place o
told_reason (Solves n) solves place o h = cc
told_reason (Pivots k) solves place o h = cc
told_reason (Passed at p) solves place o h = picked (passes p.op p.a p.b) at place p o solves h

test_or_reason : (tested : Tested) (at : Place) (why : Open) (place : Place) (o : Operation) → or_before tested at why ≡ Passed place o
    → ((at ≡ place) × (tested ≡ Passes o)) ⊎ (why ≡ Passed place o)
test_or_reason (Passes p) at why place o h = inl (cc, cc)
test_or_reason (Shows number values) at why place o h = inr h
test_or_reason Fails at why place o h = inr h

-- ---- a report that is left open has the finding from which it was made
optimal_or : (equal : Bool) (f : Finding) (place : Place) (o : Operation) → pick equal Optimal f ≡ OpenPassed place o → f ≡ OpenPassed place o
optimal_or true f place o h = cc
optimal_or false f place o h = h

ends_left : (blank : Report) (upper lower : Tested) (place : Place) (o : Operation) → (ends_report blank upper lower).finding ≡ OpenPassed place o
    → blank.finding ≡ OpenPassed place o
ends_left blank (Shows cost policy) (Shows value dual) place o h = optimal_or (same value cost) blank.finding place o h
ends_left blank (Shows cost policy) Fails place o h = h
ends_left blank (Shows cost policy) (Passes p) place o h = h
ends_left blank Fails (Shows value dual) place o h = h
ends_left blank Fails Fails place o h = h
ends_left blank Fails (Passes p) place o h = h
ends_left blank (Passes q) (Shows value dual) place o h = h
ends_left blank (Passes q) Fails place o h = h
ends_left blank (Passes q) (Passes p) place o h = h

ray_left : (blank : Report) (shown : Tested) (place : Place) (o : Operation) → (ray_report blank shown).finding ≡ OpenPassed place o
    → blank.finding ≡ OpenPassed place o
ray_left blank (Shows number ray) place o h = cc
ray_left blank Fails place o h = h
ray_left blank (Passes p) place o h = h

falling_left : (blank : Report) (upper slope : Tested) (place : Place) (o : Operation) → (falling_report blank upper slope).finding ≡ OpenPassed place o
    → blank.finding ≡ OpenPassed place o
falling_left blank (Shows cost policy) (Shows number direction) place o h = cc
falling_left blank (Shows cost policy) Fails place o h = h
falling_left blank (Shows cost policy) (Passes p) place o h = h
falling_left blank Fails slope place o h = h
falling_left blank (Passes q) slope place o h = h

-- ---- where the operation that is told stands
module _ (program : Program) (o : Operation) where
  by_policy : (policy : Option (List At)) → some_policy_test program policy ≡ Passes o → PassesInPoint program o
  by_policy None h = absurd (cc)
  by_policy (Some policy) h = (policy, inl h)

  by_dual : (dual : Option (List At)) → some_dual_test program dual ≡ Passes o → PassesInMultipliers program o
  by_dual None h = absurd (cc)
  by_dual (Some dual) h = (dual, inl h)

  module _ (place : Place) (commits : ℕ) where
    at_cost : Cost commits ≡ place → PassesInPoint program o → PassesInTest program place o
    at_cost e h = subst (λ (at : Place). PassesInTest program at o) e h

    at_dual : Dual ≡ place → PassesInMultipliers program o → PassesInTest program place o
    at_dual e h = subst (λ (at : Place). PassesInTest program at o) e h

    abbrev pub Because : Open → Type 0
    Because why = (why ≡ Passed place o) ⊎ PassesInTest program place o

    by_lower : (dual : Option (List At)) (why : Open) → or_before (some_dual_test program dual) Dual why ≡ Passed place o → Because why
    by_lower dual why h = elim (test_or_reason (some_dual_test program dual) Dual why place o h) [
      | inl t ↦ inr (at_dual t.0 (by_dual dual t.1))
      | inr w ↦ inl w
    ]

    by_ends : (policy dual : Option (List At)) (why : Open)
        → or_before (some_policy_test program policy) (Cost commits) (or_before (some_dual_test program dual) Dual why) ≡ Passed place o → Because why
    by_ends policy dual why h =
        elim (test_or_reason (some_policy_test program policy) (Cost commits) (or_before (some_dual_test program dual) Dual why) place o h) [
          | inl t ↦ inr (at_cost t.0 (by_policy policy t.1))
          | inr w ↦ by_lower dual why w
        ]

    by_ray : (ray : List At) (why : Open) → or_before (ray_test program ray) Dual why ≡ Passed place o → Because why
    by_ray ray why h = elim (test_or_reason (ray_test program ray) Dual why place o h) [
      | inl t ↦ inr (at_dual t.0 (ray, inr t.1))
      | inr w ↦ inl w
    ]

    by_slope : (direction : List At) (why : Open) → or_before (direction_test program direction) (Cost commits) why ≡ Passed place o → Because why
    by_slope direction why h = elim (test_or_reason (direction_test program direction) (Cost commits) why place o h) [
      | inl t ↦ inr (at_cost t.0 (direction, inr t.1))
      | inr w ↦ inl w
    ]

    by_fall : (policy direction : List At) (why : Open)
        → or_before (policy_test program policy) (Cost commits) (or_before (direction_test program direction) (Cost commits) why) ≡ Passed place o
        → Because why
    by_fall policy direction why h =
        elim (test_or_reason (policy_test program policy) (Cost commits) (or_before (direction_test program direction) (Cost commits) why) place o h) [
          | inl t ↦ inr (at_cost t.0 (policy, inl t.1))
          | inr w ↦ by_slope direction why w
        ]

    module _ (number nodes scenarios solves : ℕ) (why : Open) where
      pub by_claim : (rounds : Rounds) (claim : Claim) → (claimed_report program number nodes scenarios (Cost commits) why solves rounds claim).finding ≡ OpenPassed place o → Because why
      by_claim rounds (Ends policy dual) h =
          let left : Open = or_before (some_policy_test program policy) (Cost commits) (or_before (some_dual_test program dual) Dual why) in
          by_ends policy dual why (told_reason left solves place o
          (ends_left (blank_report number nodes scenarios (finding_of left solves)) rounds.upper rounds.lower place o h))
      by_claim rounds (Nowhere ray) h =
          let left : Open = or_before (ray_test program ray) Dual why in
          by_ray ray why (told_reason left solves place o
          (ray_left (blank_report number nodes scenarios (finding_of left solves)) (ray_test program ray) place o h))
      by_claim rounds (Endless policy direction) h =
          let left : Open = or_before (policy_test program policy) (Cost commits) (or_before (direction_test program direction) (Cost commits) why) in
          by_fall policy direction why (told_reason left solves place o
          (falling_left (blank_report number nodes scenarios (finding_of left solves)) (policy_test program policy) (direction_test program direction) place o h))
