use Rattle.std.proofs.lemmas.Result.{IfOk-weaker}
use Rattle.input_files.specs.Unfetched.{texts_view}
use Rattle.smps_cli.specs.Found.{found_text}
use Rattle.smps_cli.specs.Solved.{MayBeSolved, PrintsReports}
use Rattle.smps_cli.specs.Within.{ComesWithin}
use Rattle.smps_cli.proofs.EndLemmas.{may_refuse}
use Rattle.smps_cli.proofs.WithinLemmas.{within_words}
use Rattle.smps_cli.proofs.solve.solved.Goals as goal

pub returns-in-Err : goal.returns-in-Err
returns-in-Err g c =
    let texts = texts_view c.args.texts.now in
    IfOk-weaker c.stopped.result _
    (λ answer. ComesWithin (λ kept. MayBeSolved kept texts) c.args.budget answer.status (found_text answer.found))
    (λ answer h. within_words (λ kept. MayBeSolved kept texts) c.args.budget answer.status (found_text answer.found)
    (may_refuse (PrintsReports c.args.budget texts) texts (found_text answer.found) c.in-Err.unread c.in-Err.ensures.refused answer.status h))
    c.stopped.ensures
