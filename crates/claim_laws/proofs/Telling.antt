-- The report of a claim tells what is claimed.
use Rattle.std.proofs.Common.{ℕ, sym, subst}
use Rattle.scen_defs.specs.Program.{content}
use Rattle.scen_defs.specs.declared.program.Program.{Program}
use Rattle.scen_defs.specs.declared.report.Place.{Place}
use Rattle.scen_defs.proofs.Valid.{programs_are_trees}
use Rattle.proved_report.specs.declared.open.Open.{Open}
use Rattle.proved_report.specs.declared.claim.Claim.{Claim}
use Rattle.proved_report.specs.Reports.{Rounds, AreRounds, claimed_report}
use Rattle.claim_laws.specs.Tells.{TellsClaim}
use Rattle.claim_laws.specs.Laws.{ClaimsAreTold}
use Rattle.claim_laws.proofs.Claims.{claim_shown}
use Rattle.claim_laws.proofs.Unsettled.{finding_so, test_told}
use Rattle.claim_laws.proofs.Printed.{lists_claimed}

tells_so : (program : Program) (number nodes scenarios : ℕ) (place : Place) (why : Open) (solves : ℕ) (rounds : Rounds) (claim : Claim) → AreRounds program claim rounds
    → TellsClaim program place why solves claim (claimed_report program number nodes scenarios place why solves rounds claim)
tells_so program number nodes scenarios place why solves rounds claim are = record {
  holds = claim_shown program number nodes scenarios place why solves (programs_are_trees (content program) program.keeps).0 rounds claim are;
  tests = test_told program number nodes scenarios place why solves rounds claim;
  finding = finding_so program number nodes scenarios place why solves rounds claim;
  lists = lists_claimed program number nodes scenarios place why solves rounds claim are;
}

pub claims_are_told : ClaimsAreTold
claims_are_told program number place why solves claim report claimed =
    subst (TellsClaim program place why solves claim) (sym claimed.is)
    (tells_so program number report.nodes report.scenarios place why solves claimed.rounds claim claimed.are)
