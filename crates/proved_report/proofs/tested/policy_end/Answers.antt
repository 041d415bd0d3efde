use Rattle.report_defs.specs.Seen.{seen}
use Rattle.report_defs.specs.Shows.{ShowsUpper}
use Rattle.proved_report.specs.Tested.{policy_test}
use Rattle.proved_report.proofs.RoundLemmas.{end_rounded}
use Rattle.proved_report.proofs.tested.policy_end.Goals as goal

pub returns-in_ok-number-in-Err : goal.returns-in_ok-number-in-Err
returns-in_ok-number-in-Err c =
    end_rounded (ShowsUpper (seen c.args.program.now)) c.args.policy (policy_test c.args.program.now c.args.policy) c.in-Err.halt c.in_ok-passed-in-Err.passed c.in_ok-number-in-Err.number c.rounded.result
    c.in-Err.ensures c.in_ok-passed-in-Err.ensures c.in_ok-number-in-Err.ensures c.rounded.ensures
