use Rattle.std.proofs.lemmas.Result.{IfOk-weaker}
use Rattle.input_files.specs.Unfetched.{texts_view}
use Rattle.smps_cli.specs.Found.{found_text}
use Rattle.smps_cli.specs.Based.{MayBeBasisSolved}
use Rattle.smps_cli.specs.Within.{ComesWithin}
use Rattle.smps_cli.proofs.EndLemmas.{program_refuses}
use Rattle.smps_cli.proofs.WithinLemmas.{within_words}
use Rattle.smps_cli.proofs.BasedLemmas.{unread_may}
use Rattle.smps_cli.proofs.based.solved_unedited.Goals as goal

pub returns-in-Err : goal.returns-in-Err
returns-in-Err g c = IfOk-weaker c.stopped.result _
    (λ answer. ComesWithin (λ kept. MayBeBasisSolved kept (texts_view c.args.texts.now)) c.args.budget answer.status (found_text answer.found))
    (λ answer h. within_words (λ kept. MayBeBasisSolved kept (texts_view c.args.texts.now)) c.args.budget answer.status (found_text answer.found)
    (unread_may c.args.budget (texts_view c.args.texts.now) (found_text answer.found) c.in-Err.unread
    (program_refuses (texts_view c.args.texts.now) c.in-Err.unread c.in-Err.ensures) answer.status h))
    c.stopped.ensures
