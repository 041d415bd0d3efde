use Rattle.std.proofs.lemmas.Result.{IfOk-weaker}
use Rattle.input_files.specs.Unfetched.{texts_view}
use Rattle.smps_cli.specs.Found.{found_text}
use Rattle.smps_cli.specs.Risks.{IsRiskSolve, MayBeRiskSolved}
use Rattle.smps_cli.specs.Within.{ComesWithin}
use Rattle.smps_cli.proofs.EndLemmas.{program_refuses}
use Rattle.smps_cli.proofs.RiskLemmas.{risk_solved, risk_unsolved}
use Rattle.smps_cli.proofs.WithinLemmas.{within_words, within_more}
use Rattle.smps_cli.proofs.risk.solved_risk.Goals as goal

pub returns-in-Ok : goal.returns-in-Ok
returns-in-Ok g c =
    let texts = texts_view c.args.texts.now in
    IfOk-weaker c.solved_read.result _
    (λ answer. ComesWithin (λ kept. MayBeRiskSolved c.args.measure kept texts) c.args.budget answer.status (found_text answer.found))
    (λ answer h. within_more (λ kept. IsRiskSolve c.args.measure kept texts) (λ kept. MayBeRiskSolved c.args.measure kept texts) c.args.budget answer.status (found_text answer.found)
    (λ kept p. risk_solved c.args.measure kept texts answer.status (found_text answer.found) p) h)
    c.solved_read.ensures

pub returns-in-Err : goal.returns-in-Err
returns-in-Err g c =
    let texts = texts_view c.args.texts.now in
    IfOk-weaker c.stopped.result _
    (λ answer. ComesWithin (λ kept. MayBeRiskSolved c.args.measure kept texts) c.args.budget answer.status (found_text answer.found))
    (λ answer h. within_words (λ kept. MayBeRiskSolved c.args.measure kept texts) c.args.budget answer.status (found_text answer.found)
    (risk_unsolved c.args.measure c.args.budget texts answer.status (found_text answer.found)
    c.in-Err.unread (program_refuses texts c.in-Err.unread c.in-Err.ensures) h))
    c.stopped.ensures
