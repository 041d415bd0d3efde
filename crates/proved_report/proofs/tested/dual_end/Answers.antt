use Rattle.report_defs.specs.Seen.{seen}
use Rattle.report_defs.specs.Shows.{ShowsLower}
use Rattle.proved_report.specs.Tested.{dual_test}
use Rattle.proved_report.proofs.RoundLemmas.{end_rounded}
use Rattle.proved_report.proofs.tested.dual_end.Goals as goal

pub returns-in_ok-number-in-Err : goal.returns-in_ok-number-in-Err
returns-in_ok-number-in-Err c =
    end_rounded (ShowsLower (seen c.args.program.now)) c.args.dual (dual_test c.args.program.now c.args.dual) c.in-Err.halt c.in_ok-passed-in-Err.passed c.in_ok-number-in-Err.number c.rounded.result
    c.in-Err.ensures c.in_ok-passed-in-Err.ensures c.in_ok-number-in-Err.ensures c.rounded.ensures
