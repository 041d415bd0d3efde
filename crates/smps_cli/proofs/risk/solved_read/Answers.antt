use Rattle.std.proofs.lemmas.Result.{IfOk-weaker}
use Rattle.input_files.specs.Unfetched.{texts_view}
use Rattle.smps_cli.specs.Found.{found_text}
use Rattle.smps_cli.specs.Risks.{IsRiskSolve}
use Rattle.smps_cli.specs.Within.{ComesWithin}
use Rattle.smps_cli.proofs.WithinLemmas.{within_words}
use Rattle.smps_cli.proofs.risk.solved_read.Goals as goal

pub returns-else-goes_together : goal.returns-else-goes_together
returns-else-goes_together g c =
    let texts = texts_view c.args.texts.now in
    IfOk-weaker c.solved_by_method.result _
    (λ answer. ComesWithin (λ kept. IsRiskSolve c.args.measure.now kept texts) c.args.budget answer.status (found_text answer.found))
    (λ answer h. within_words (λ kept. IsRiskSolve c.args.measure.now kept texts) c.args.budget answer.status (found_text answer.found) h)
    c.solved_by_method.ensures
