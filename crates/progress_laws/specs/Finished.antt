-- Where a report is left open for want of solves, they are spent.
use Rattle.std.specs.Prelude.{◌≡◌, ℕ, ◌≤◌}
use Rattle.scen_defs.specs.Program.{content}
use Rattle.scen_defs.specs.declared.program.Program.{Program}
use Rattle.scen_defs.specs.declared.report.Finding.TheVariants.{OpenSolves}
use Rattle.scen_defs.specs.declared.report.Place.{Place}
use Rattle.scen_defs.specs.declared.report.Report.{Report}
use Rattle.claim_laws.specs.Tells.{TellsClaim}
use Rattle.pass_core.specs.declared.state.State.{State}
use Rattle.pass_core.specs.Explained.{AreExplained}
use Rattle.pass_core.specs.Tabled.{IsTabled}
use Rattle.nested_method.specs.Stands.{IsAtEnd, closing}
use Rattle.progress_laws.specs.Courses.{IsRunTo, NumbersSuffice}

-- A program came to this state, where the method can't go on; there are numbers for all solves; each reason that it keeps is explained, and
-- its table fits a machine of the program.
pub record IsEndOfRun (program : Program) (s : State) : Type 0 where
  pub run : IsRunTo (content program) s
  pub numbers : NumbersSuffice (content program) s run
  pub ends : IsAtEnd (content program) s
  pub explained : AreExplained (content program) run.tree s
  pub tabled : IsTabled (content program) s

-- Where a report that tells what is claimed there is left open by the number of solves, so many were counted since the report before as
-- are allowed. So else it has a finding, or it is open for pivots or for an operation.
abbrev pub EndsAreFinished : Type 0
EndsAreFinished = (program : Program) (s : State) (place : Place) (solves : ℕ) (report : Report) (n : ℕ)
    → IsEndOfRun program s → TellsClaim program place (closing s).why solves (closing s).claim report
    → report.finding ≡ OpenSolves n
    → s.budget.solves ≤ s.counts.since_report
