use Rattle.std.proofs.lemmas.Result.{IfOk-weaker}
use Rattle.input_files.specs.Unfetched.{texts_view}
use Rattle.smps_cli.specs.Found.{found_text}
use Rattle.smps_cli.specs.Risks.{MayBeRiskChecked}
use Rattle.smps_cli.proofs.EndLemmas.{program_refuses}
use Rattle.smps_cli.proofs.RiskLemmas.{risk_checked, risk_unchecked}
use Rattle.smps_cli.proofs.risk.checked_risk.Goals as goal

pub returns-in-Ok : goal.returns-in-Ok
returns-in-Ok c = IfOk-weaker c.checked_read.result _
    (λ answer. MayBeRiskChecked c.args.measure (texts_view c.args.texts.now) answer.status (found_text answer.found))
    (λ answer h. risk_checked c.args.measure (texts_view c.args.texts.now) answer.status (found_text answer.found) h)
    c.checked_read.ensures

pub returns-in-Err : goal.returns-in-Err
returns-in-Err c = IfOk-weaker c.stopped.result _
    (λ answer. MayBeRiskChecked c.args.measure (texts_view c.args.texts.now) answer.status (found_text answer.found))
    (λ answer h. risk_unchecked c.args.measure (texts_view c.args.texts.now) answer.status (found_text answer.found)
    c.in-Err.unread (program_refuses (texts_view c.args.texts.now) c.in-Err.unread c.in-Err.ensures) h)
    c.stopped.ensures
