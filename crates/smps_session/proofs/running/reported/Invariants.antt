use Rattle.std.proofs.Common.{◌≡◌, ℕ}
use Rattle.scen_defs.specs.Fits.{ListsHaveNames}
use Rattle.scen_defs.specs.Program.{Program as Started, content, view_of}
use Rattle.report_defs.specs.Truth.{IsTrue, HasCounts}
use Rattle.proved_report.specs.Reports.{EqualIsOptimal}
use Rattle.nested_method.specs.Stands.{HasFewNodes, StandsOn}
use Rattle.smps_session.specs.Lists.{ListsAreOf}
use Rattle.smps_session.specs.Reasons.{told_reasons}
use Rattle.smps_session.proofs.ComeLemmas.{HasCounted}
use Rattle.smps_session.specs.Comes.{ShowsFound, IsUnderWay}
use Rattle.smps_session.proofs.running.reported.Given as goal

abbrev pub invariant-loop : goal.invariant-loop
invariant-loop g l = record {
  number : l.report.number ≡ l.number;
  counts : HasCounts (view_of (content l.program)) l.report;
  names : ListsHaveNames l.program l.report;
  lists : ListsAreOf (content l.program) l.report;
  truth : StandsOn (content l.program) l.budget l.fn.method
      → IsTrue (view_of (content l.program)) (told_reasons l.program l.budget) l.report;
  equal : EqualIsOptimal l.report;
  stands : StandsOn (content l.program) l.budget l.fn.method → StandsOn (content l.program) l.budget l.method;
  under_way : (start : Started) (came : ℕ) → HasFewNodes (content l.program)
      → StandsOn (content l.program) l.budget l.fn.method → IsUnderWay l.budget start came (content l.program) l.fn.method
      → ShowsFound l.budget start came l.program l.fn.method l.method l.report × HasCounted l.counter l.method;
}
