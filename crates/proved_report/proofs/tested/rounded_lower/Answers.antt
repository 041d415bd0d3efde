use Rattle.std.proofs.Common.{IfSome}
use Rattle.std.proofs.lemmas.Result.{IfOk-weaker}
use Rattle.scen_defs.proofs.Valid.{programs_are_trees}
use Rattle.scen_defs.specs.Program.{content}
use Rattle.scen_defs.specs.Values.{at}
use Rattle.report_defs.specs.Seen.{seen}
use Rattle.report_defs.specs.Shows.{ShowsLower}
use Rattle.rounded_sums.specs.declared.side.Side.TheVariants.{Below}
use Rattle.rounded_ends.specs.Worths.{IsWorthAll}
use Rattle.proved_report.proofs.RoundLemmas.{lower_rounded}
use Rattle.proved_report.proofs.tested.rounded_lower.Goals as goal

pub returns : goal.returns
returns c =
    let v = seen c.args.program.now in
    IfOk-weaker c.worth_beside.result (λ found. IfSome found (IsWorthAll Below v (at c.args.dual.now))) (λ found. IfSome found (λ q. ShowsLower v q c.args.dual.now))
    (λ found h. lower_rounded v c.args.dual.now found (programs_are_trees (content c.args.program.now) c.args.program.now.keeps).0 h) c.worth_beside.ensures
