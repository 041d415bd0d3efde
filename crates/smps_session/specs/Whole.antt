-- An answer after the method has stopped: a report of the whole program, in place of the method's own one.
use Rattle.std.specs.Prelude.{◌≡◌, ◌⊎◌, ℕ, Bool, true, false, not, Option, Some, None}
use Rattle.rationals.specs.Rational.{ℚ, at_most}
use Rattle.scen_defs.specs.Fits.{ListsHaveNames}
use Rattle.scen_defs.specs.Program.{content, view_of}
use Rattle.scen_defs.specs.declared.program.Program.{Program}
use Rattle.scen_defs.specs.declared.report.Finding.{Finding}
use Rattle.scen_defs.specs.declared.report.Finding.TheVariants.{Optimal, Infeasible, Unbounded, OpenSolves, OpenPivots, OpenPassed}
use Rattle.scen_defs.specs.declared.report.Place.{Place}
use Rattle.scen_defs.specs.declared.report.Place.TheVariants.{Ground}
use Rattle.scen_defs.specs.declared.report.Report.{Report}
use Rattle.report_defs.specs.Truth.{IsTrue, HasCounts}
use Rattle.proved_report.specs.declared.claim.Claim.{Claim}
use Rattle.proved_report.specs.declared.open.Open.{Open}
use Rattle.proved_report.specs.declared.open.Open.TheVariants.{Solves}
use Rattle.proved_report.specs.Open.{given}
use Rattle.proved_report.specs.Reports.{EqualIsOptimal}
use Rattle.claim_laws.specs.Held.{finding_for}
use Rattle.claim_laws.specs.Tells.{TellsClaim}
use Rattle.pass_core.specs.declared.budget.Budget.{Budget}
use Rattle.smps_session.specs.Lists.{ListsAreOf}
use Rattle.smps_session.specs.Reasons.{told_reasons}
use Rattle.smps_session.specs.declared.whole.StatedLimits.{StatedLimits}

-- Where the method finds so much, the whole program is tried: an operation passed, or solves or pivots ended whose number isn't stated.
abbrev pub asks_whole : StatedLimits → Finding → Bool
asks_whole stated Optimal = false
asks_whole stated Infeasible = false
asks_whole stated Unbounded = false
asks_whole stated (OpenSolves n) = not stated.solves
asks_whole stated (OpenPivots k) = not stated.pivots
asks_whole stated (OpenPassed place o) = true

abbrev pub isnt_open : Finding → Bool
isnt_open Optimal = true
isnt_open Infeasible = true
isnt_open Unbounded = true
isnt_open (OpenSolves n) = false
isnt_open (OpenPivots k) = false
isnt_open (OpenPassed place o) = false

-- The report tells a claim, which was tested, and finds what the claim asks for: OPTIMAL, INFEASIBLE or UNBOUNDED.
pub record TellsWhole (program : Program) (report : Report) : Type 0 where
  pub claim : Claim
  pub finds : report.finding ≡ finding_for claim
  pub place : Place
  pub why : Open
  pub solves : ℕ
  pub tells : TellsClaim program place why solves claim report

-- a lower end that is there is kept, or a higher one takes its place
abbrev pub keeps_lower : Option ℚ → Option ℚ → Bool
keeps_lower None found = true
keeps_lower (Some own) None = false
keeps_lower (Some own) (Some found) = at_most own found

-- an upper end that is there is kept, or a lower one takes its place
abbrev pub keeps_upper : Option ℚ → Option ℚ → Bool
keeps_upper None found = true
keeps_upper (Some own) None = false
keeps_upper (Some own) (Some found) = at_most found own

-- the ends lie where those of the method's own report lie, or nearer to each other
pub record KeepsEnds (own report : Report) : Type 0 where
  pub lower : keeps_lower own.lower report.lower ≡ true
  pub upper : keeps_upper own.upper report.upper ≡ true

-- The method's own report is open, and so is this one, for the same reason, with ends that are no farther from each other. Their lists are
-- those of a claim that was tested.
pub record TellsNear (program : Program) (own report : Report) : Type 0 where
  pub left_open : isnt_open own.finding ≡ false
  pub tested : Report
  pub claim : Claim
  pub place : Place
  pub why : Open
  pub solves : ℕ
  pub tells : TellsClaim program place why solves claim tested
  pub same : report ≡ record tested { finding = own.finding }
  pub keeps : KeepsEnds own report

-- It isn't open, or it has the own reason and ends that are nearer.
abbrev pub IsOfWhole : Program → Report → Report → Type 0
IsOfWhole program own report = TellsWhole program report ⊎ TellsNear program own report

-- A report of a claim that was tested, with the number of the method's own one. It is true but for the reason for which it may be open.
pub record IsTestedFor (program : Program) (solves : ℕ) (own report : Report) : Type 0 where
  pub number_is : report.number ≡ own.number
  pub counts : HasCounts (view_of (content program)) report
  pub names : ListsHaveNames program report
  pub lists : ListsAreOf (content program) report
  pub shown : IsTrue (view_of (content program)) (given (Solves solves) solves) report
  pub equal : EqualIsOptimal report
  pub claim : Claim
  pub tells : TellsClaim program Ground (Solves solves) solves claim report

-- A report of the whole program, true of it, with the number of the method's own one.
pub record AnswersWhole (program : Program) (budget : Budget) (own report : Report) : Type 0 where
  pub number_is : report.number ≡ own.number
  pub counts : HasCounts (view_of (content program)) report
  pub names : ListsHaveNames program report
  pub lists : ListsAreOf (content program) report
  pub truth : IsTrue (view_of (content program)) (told_reasons program budget) report
  pub equal : EqualIsOptimal report
  pub whole : IsOfWhole program own report

-- The report is the method's own one; or it is one of the whole program, and for the method's own one the whole program is tried.
abbrev pub IsOwnOrWhole : Bool → StatedLimits → Program → Report → Report → Type 0
IsOwnOrWhole false stated program own report = report ≡ own
IsOwnOrWhole true stated program own report = (asks_whole stated own.finding ≡ true) × IsOfWhole program own report
