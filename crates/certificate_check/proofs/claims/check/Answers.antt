use Rattle.std.proofs.Common.{Ok}
use Rattle.scen_defs.proofs.Valid.{programs_are_trees}
use Rattle.scen_defs.specs.Program.{content}
use Rattle.report_defs.specs.Seen.{seen}
use Rattle.certificate_check.specs.Verdicts.{verdict_of}
use Rattle.certificate_check.specs.Shown.{IsShown}
use Rattle.certificate_check.proofs.HoldsLemmas.{if_holds, shown}
use Rattle.certificate_check.proofs.claims.check.Goals as goal

pub returns-in-Ok-clause-shown : goal.returns-in-Ok-clause-shown
returns-in-Ok-clause-shown c =
    let tree = (programs_are_trees (content c.args.program.now) c.args.program.now.keeps).0 in
    let program = c.args.program.now in
    let report = c.args.report.now in
    if_holds (verdict_of program report) (Ok c.in-Ok.verdict) (IsShown (seen program) report) c.in-Ok.ensures (shown program report tree)
