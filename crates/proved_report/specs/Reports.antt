-- The report of lists that were tested, from one that is left open without ends and lists.
use Rattle.std.specs.Prelude.{◌≡◌, ℕ, ◌<◌, ◌^◌, true, length, Option, Some, None}
use Rattle.report_defs.specs.Shows.{ShowsLower, ShowsUpper}
use Rattle.proved_report.specs.Rounded.{IsRounded}
use Rattle.rationals.specs.Rational.{ℚ}
use Rattle.rationals.specs.Order.{same}
use Rattle.rationals.specs.Choices.{pick}
use Rattle.scen_defs.specs.declared.program.Program.{Program}
use Rattle.scen_defs.specs.declared.report.Finding.{Finding}
use Rattle.scen_defs.specs.declared.report.Finding.TheVariants.{Optimal, Infeasible, Unbounded}
use Rattle.scen_defs.specs.declared.report.Place.{Place}
use Rattle.scen_defs.specs.declared.report.Place.TheVariants.{Dual}
use Rattle.scen_defs.specs.declared.report.Report.{Report}
use Rattle.proved_report.specs.declared.tested.Tested.{Tested}
use Rattle.proved_report.specs.declared.tested.Tested.TheVariants.{Shows, Fails, Passes}
use Rattle.report_defs.specs.Seen.{seen}
use Rattle.report_defs.specs.Blank.{blank_report}
use Rattle.proved_report.specs.Tested.{shown_number, or_before, policy_test, direction_test, ray_test, some_policy_test, some_dual_test}
use Rattle.proved_report.specs.declared.open.Open.{Open}
use Rattle.proved_report.specs.declared.claim.Claim.{Claim}
use Rattle.proved_report.specs.declared.claim.Claim.TheVariants.{Ends, Nowhere, Endless}
use Rattle.proved_report.specs.Open.{finding_of}

-- equal ends are OPTIMAL
abbrev pub ends_finding : Option ℚ → Option ℚ → Finding → Finding
ends_finding None upper finding = finding
ends_finding (Some lower) None finding = finding
ends_finding (Some lower) (Some upper) finding = pick (same lower upper) Optimal finding

-- a policy that shows its cost is the upper end, a dual that shows its value the lower one
abbrev pub upper_report : Report → Tested → Report
upper_report report (Shows cost policy) = record report { upper = Some cost; policy = Some policy }
upper_report report Fails = report
upper_report report (Passes operation) = report

abbrev pub lower_report : Report → Tested → Report
lower_report report (Shows value dual) = record report { lower = Some value; dual = Some dual }
lower_report report Fails = report
lower_report report (Passes operation) = report

abbrev pub ends_report : Report → Tested → Tested → Report
ends_report blank upper lower =
    let told = ends_finding (shown_number lower) (shown_number upper) blank.finding in
    lower_report (upper_report (record blank { finding = told }) upper) lower

-- a ray that shows its number is INFEASIBLE
abbrev pub ray_report : Report → Tested → Report
ray_report blank (Shows number ray) = record blank { finding = Infeasible; extra = Some number; ray = Some ray }
ray_report blank Fails = blank
ray_report blank (Passes operation) = blank

-- a direction that shows its cost is UNBOUNDED
abbrev pub direction_report : Report → Tested → Report
direction_report report (Shows slope direction) = record report { finding = Unbounded; extra = Some slope; direction = Some direction }
direction_report report Fails = report
direction_report report (Passes operation) = report

-- a policy and a direction, or a policy alone
abbrev pub falling_report : Report → Tested → Tested → Report
falling_report blank (Shows upper policy) slope = direction_report (record blank { upper = Some upper; policy = Some policy }) slope
falling_report blank Fails slope = blank
falling_report blank (Passes operation) slope = blank

-- what is printed of the policy and of the dual of ends
pub record Rounds : Type 0 where
  pub upper : Tested
  pub lower : Tested

abbrev pub no_rounds : Rounds
no_rounds = record { upper = Fails; lower = Fails }

-- That is what their tests come to. Only where an operation of a test passes 128 bits it may be a number that is rounded outward.
abbrev pub AreRounds : Program → Claim → Rounds → Type 0
AreRounds program (Ends policy dual) rounds =
    IsRounded (ShowsUpper (seen program)) policy (some_policy_test program policy) rounds.upper
    × IsRounded (ShowsLower (seen program)) dual (some_dual_test program dual) rounds.lower
AreRounds program (Nowhere ray) rounds = Unit {0}
AreRounds program (Endless policy direction) rounds = Unit {0}

-- The report of a claim, with these counts: ends that were tested; a ray; a policy and a direction. Where they leave it open, the
-- first operation that passes is told, of a dual or a ray at Dual.
abbrev pub claimed_report : Program → ℕ → ℕ → ℕ → Place → Open → ℕ → Rounds → Claim → Report
claimed_report program number nodes scenarios place why solves rounds (Ends policy dual) =
    let upper = some_policy_test program policy in
    let lower = some_dual_test program dual in
    let left = finding_of (or_before upper place (or_before lower Dual why)) solves in
    ends_report (blank_report number nodes scenarios left) rounds.upper rounds.lower
claimed_report program number nodes scenarios place why solves rounds (Nowhere ray) =
    let shown = ray_test program ray in
    ray_report (blank_report number nodes scenarios (finding_of (or_before shown Dual why) solves)) shown
claimed_report program number nodes scenarios place why solves rounds (Endless policy direction) =
    let upper = policy_test program policy in
    let slope = direction_test program direction in
    falling_report (blank_report number nodes scenarios (finding_of (or_before upper place (or_before slope place why)) solves)) upper slope

-- this is the report of the claim
pub record IsClaimed (program : Program) (number : ℕ) (place : Place) (why : Open) (solves : ℕ) (claim : Claim) (report : Report)
    : Type 0 where
  pub rounds : Rounds
  pub are : AreRounds program claim rounds
  pub is : report ≡ claimed_report program number report.nodes report.scenarios place why solves rounds claim

-- where both ends are there and equal, the finding is OPTIMAL
abbrev pub EqualIsOptimal : Report → Type 0
EqualIsOptimal report = (lower upper : ℚ) → report.lower ≡ Some lower → report.upper ≡ Some upper → same lower upper ≡ true
    → report.finding ≡ Optimal

-- the report has this number and the counts of the program
pub record IsFilled (program : Program) (number : ℕ) (report : Report) : Type 0 where
  pub number_is : report.number ≡ number
  pub nodes : length program.nodes.items < 2 ^ 32 → report.nodes ≡ length (seen program).live
  pub scenarios : length program.scenarios.items < 2 ^ 32 → report.scenarios ≡ length program.scenarios.items

pub record IsBlank (program : Program) (number : ℕ) (finding : Finding) (report : Report) : Type 0 where
  pub filled : IsFilled program number report
  pub is : report ≡ blank_report report.number report.nodes report.scenarios finding
