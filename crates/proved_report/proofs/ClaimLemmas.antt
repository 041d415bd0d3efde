-- The report of a claim is true, and its lists have names.
use Rattle.std.proofs.Common.{◌≡◌, ℕ, List, Option, refl, sym, ap, ◌∙◌}
use Rattle.scen_defs.specs.Values.{At}
use Rattle.scen_defs.specs.Fits.{ListsHaveNames}
use Rattle.scen_defs.specs.Program.{IsTree}
use Rattle.scen_defs.specs.declared.program.Program.{Program}
use Rattle.scen_defs.specs.declared.report.Finding.{Finding}
use Rattle.scen_defs.specs.declared.report.Place.{Place}
use Rattle.scen_defs.specs.declared.report.Place.TheVariants.{Dual}
use Rattle.scen_defs.specs.declared.report.Report.{Report}
use Rattle.report_defs.specs.Seen.{seen}
use Rattle.report_defs.specs.Truth.{IsTrue}
use Rattle.report_defs.specs.Blank.{blank_report}
use Rattle.proved_report.specs.declared.claim.Claim.{Claim}
use Rattle.proved_report.specs.declared.claim.Claim.TheVariants.{Ends, Nowhere, Endless}
use Rattle.proved_report.specs.declared.open.Open.{Open}
use Rattle.proved_report.specs.declared.tested.Tested.{Tested}
use Rattle.proved_report.specs.declared.tested.Tested.TheVariants.{Shows, Fails, Passes}
use Rattle.proved_report.specs.Open.{given, finding_of}
use Rattle.proved_report.specs.Tested.{or_before, policy_test, direction_test, ray_test, some_policy_test, some_dual_test}
use Rattle.report_defs.specs.Shows.{ShowsLower, ShowsUpper}
use Rattle.proved_report.specs.Rounded.{IsRounded}
use Rattle.proved_report.proofs.RoundLemmas.{rounded-shown, policy-rounded-names, dual-rounded-names}
use Rattle.proved_report.specs.Reports.{IsFilled, IsClaimed, Rounds, AreRounds, no_rounds, claimed_report, ends_report, ray_report, falling_report}
use Rattle.proved_report.proofs.ShownLemmas.{policy-shown, direction-shown, ray-shown, some-policy-shown, some-dual-shown, policy-names, direction-names, ray-names, some-policy-names, some-dual-names}
use Rattle.proved_report.proofs.ReportLemmas.{IsLeftOpen, left-open, before-given, ends_true, ends_names, nowhere_true, nowhere_names, endless_true, endless_names}

-- one test, and two, before the reason that was given
left-by-one : (t : Tested) (place : Place) (why : Open) (solves : ℕ) → IsLeftOpen (given why solves) (finding_of (or_before t place why) solves)
left-by-one t place why solves = before-given t place why solves (finding_of (or_before t place why) solves) (left-open (or_before t place why) solves)

left-by-two : (s t : Tested) (place other : Place) (why : Open) (solves : ℕ) → IsLeftOpen (given why solves) (finding_of (or_before s place (or_before t other why)) solves)
left-by-two s t place other why solves =
    before-given t other why solves (finding_of (or_before s place (or_before t other why)) solves) (left-by-one s place (or_before t other why) solves)

module _ (program : Program) (number nodes scenarios : ℕ) (place : Place) (why : Open) (solves : ℕ) where
  pub claimed_true : (rounds : Rounds) (claim : Claim) → AreRounds program claim rounds → IsTree (seen program)
      → IsTrue (seen program) (given why solves) (claimed_report program number nodes scenarios place why solves rounds claim)
  claimed_true rounds (Ends policy dual) are tree =
      ends_true (seen program) (given why solves) number nodes scenarios _ (left-by-two (some_policy_test program policy) (some_dual_test program dual) place Dual why solves)
      rounds.upper rounds.lower (rounded-shown (ShowsUpper (seen program)) policy (some_policy_test program policy) rounds.upper are.0 (some-policy-shown program tree policy))
      (rounded-shown (ShowsLower (seen program)) dual (some_dual_test program dual) rounds.lower are.1 (some-dual-shown program tree dual))
  claimed_true rounds (Nowhere ray) are tree =
      nowhere_true (seen program) (given why solves) number nodes scenarios _ (left-by-one (ray_test program ray) Dual why solves) (ray_test program ray) (ray-shown program tree ray)
  claimed_true rounds (Endless policy direction) are tree =
      endless_true (seen program) (given why solves) number nodes scenarios _ (left-by-two (policy_test program policy) (direction_test program direction) place place why solves)
      tree (policy_test program policy) (direction_test program direction) (policy-shown program tree policy) (direction-shown program tree direction)

  pub claimed_names : (rounds : Rounds) (claim : Claim) → AreRounds program claim rounds
      → ListsHaveNames program (claimed_report program number nodes scenarios place why solves rounds claim)
  claimed_names rounds (Ends policy dual) are =
      ends_names program number nodes scenarios _ rounds.upper rounds.lower (policy-rounded-names program policy rounds.upper are.0) (dual-rounded-names program dual rounds.lower are.1)
  claimed_names rounds (Nowhere ray) are = nowhere_names program number nodes scenarios _ (ray_test program ray) (ray-names program ray)
  claimed_names rounds (Endless policy direction) are =
      endless_names program number nodes scenarios _ (policy_test program policy) (direction_test program direction) (policy-names program policy) (direction-names program direction)

-- ---- the report that is made of tests
ends_counts : (b : Report) (upper lower : Tested) → ((ends_report b upper lower).number ≡ b.number) × ((ends_report b upper lower).nodes ≡ b.nodes) × ((ends_report b upper lower).scenarios ≡ b.scenarios)
ends_counts b (Shows u policy) (Shows l dual) = (refl, refl, refl)
ends_counts b (Shows u policy) Fails = (refl, refl, refl)
ends_counts b (Shows u policy) (Passes p) = (refl, refl, refl)
ends_counts b Fails (Shows l dual) = (refl, refl, refl)
ends_counts b Fails Fails = (refl, refl, refl)
ends_counts b Fails (Passes p) = (refl, refl, refl)
ends_counts b (Passes p) (Shows l dual) = (refl, refl, refl)
ends_counts b (Passes p) Fails = (refl, refl, refl)
ends_counts b (Passes p) (Passes q) = (refl, refl, refl)

nowhere_counts : (b : Report) (ray : Tested) → ((ray_report b ray).number ≡ b.number) × ((ray_report b ray).nodes ≡ b.nodes) × ((ray_report b ray).scenarios ≡ b.scenarios)
nowhere_counts b (Shows q ray) = (refl, refl, refl)
nowhere_counts b Fails = (refl, refl, refl)
nowhere_counts b (Passes p) = (refl, refl, refl)

endless_counts : (b : Report) (upper slope : Tested) → ((falling_report b upper slope).number ≡ b.number) × ((falling_report b upper slope).nodes ≡ b.nodes) × ((falling_report b upper slope).scenarios ≡ b.scenarios)
endless_counts b (Shows u policy) (Shows q direction) = (refl, refl, refl)
endless_counts b (Shows u policy) Fails = (refl, refl, refl)
endless_counts b (Shows u policy) (Passes p) = (refl, refl, refl)
endless_counts b Fails slope = (refl, refl, refl)
endless_counts b (Passes p) slope = (refl, refl, refl)

-- the blank report by the number and the counts of the whole
blank-by : (b r : Report) (number : ℕ) (finding : Finding) → b.number ≡ number → r.nodes ≡ b.nodes → r.scenarios ≡ b.scenarios → b ≡ blank_report b.number b.nodes b.scenarios finding → b ≡ blank_report number r.nodes r.scenarios finding
blank-by b r number finding e f g is =
    is ∙ ap (λ (n : ℕ). blank_report n b.nodes b.scenarios finding) e ∙ ap (λ (n : ℕ). blank_report number n b.scenarios finding) (sym f) ∙ ap (λ (n : ℕ). blank_report number r.nodes n finding) (sym g)

pub ends_claimed : (program : Program) (number : ℕ) (policy dual : Option (List At)) (place : Place) (why : Open) (solves : ℕ) (upper lower : Tested) (b r : Report)
    → IsRounded (ShowsUpper (seen program)) policy (some_policy_test program policy) upper → IsRounded (ShowsLower (seen program)) dual (some_dual_test program dual) lower → IsFilled program number b
    → b ≡ blank_report b.number b.nodes b.scenarios (finding_of (or_before (some_policy_test program policy) place (or_before (some_dual_test program dual) Dual why)) solves) → r ≡ ends_report b upper lower → IsClaimed program number place why solves (Ends policy dual) r
ends_claimed program number policy dual place why solves upper lower b r high low filled is e =
    let counts = ends_counts b upper lower in
    let nodes : r.nodes ≡ b.nodes = ap (λ (x : Report). x.nodes) e ∙ counts.1 in
    let scenarios : r.scenarios ≡ b.scenarios = ap (λ (x : Report). x.scenarios) e ∙ counts.2 in
    record {
      rounds = record { upper = upper; lower = lower };
      are = (high, low);
      is = e ∙ ap (λ (x : Report). ends_report x upper lower) (blank-by b r number _ filled.number_is nodes scenarios is);
    }

pub nowhere_claimed : (program : Program) (number : ℕ) (ray : List At) (why : Open) (solves : ℕ) (b r : Report) → IsFilled program number b
    → b ≡ blank_report b.number b.nodes b.scenarios (finding_of (or_before (ray_test program ray) Dual why) solves) → r ≡ ray_report b (ray_test program ray) → IsClaimed program number Dual why solves (Nowhere ray) r
nowhere_claimed program number ray why solves b r filled is e =
    let counts = nowhere_counts b (ray_test program ray) in
    let nodes : r.nodes ≡ b.nodes = ap (λ (x : Report). x.nodes) e ∙ counts.1 in
    let scenarios : r.scenarios ≡ b.scenarios = ap (λ (x : Report). x.scenarios) e ∙ counts.2 in
    record { rounds = no_rounds; are = tt; is = e ∙ ap (λ (x : Report). ray_report x (ray_test program ray)) (blank-by b r number _ filled.number_is nodes scenarios is) }

pub endless_claimed : (program : Program) (number : ℕ) (policy direction : List At) (place : Place) (why : Open) (solves : ℕ) (b r : Report) → IsFilled program number b
    → b ≡ blank_report b.number b.nodes b.scenarios (finding_of (or_before (policy_test program policy) place (or_before (direction_test program direction) place why)) solves) → r ≡ falling_report b (policy_test program policy) (direction_test program direction) → IsClaimed program number place why solves (Endless policy direction) r
endless_claimed program number policy direction place why solves b r filled is e =
    let counts = endless_counts b (policy_test program policy) (direction_test program direction) in
    let nodes : r.nodes ≡ b.nodes = ap (λ (x : Report). x.nodes) e ∙ counts.1 in
    let scenarios : r.scenarios ≡ b.scenarios = ap (λ (x : Report). x.scenarios) e ∙ counts.2 in
    record { rounds = no_rounds; are = tt; is = e ∙ ap (λ (x : Report). falling_report x (policy_test program policy) (direction_test program direction)) (blank-by b r number _ filled.number_is nodes scenarios is) }
