use Rattle.std.proofs.lemmas.Result.{IfOk-weaker}
use Rattle.std.proofs.Common.{false}
use Rattle.input_files.specs.Unfetched.{texts_view}
use Rattle.smps_cli.specs.Found.{found_text}
use Rattle.smps_cli.specs.Shown.{MayBeShown, PrintsProgram}
use Rattle.smps_cli.proofs.EndLemmas.{may_print, may_refuse}
use Rattle.smps_cli.proofs.show.shown.Goals as goal

pub returns-in-Ok : goal.returns-in-Ok
returns-in-Ok c = IfOk-weaker c.edited.result _ (λ answer. MayBeShown (texts_view c.args.texts.now) answer.status (found_text answer.found))
    (λ answer h. may_print (PrintsProgram (texts_view c.args.texts.now)) (texts_view c.args.texts.now) (found_text answer.found) answer.status
    false h.done h)
    c.edited.ensures

pub returns-in-Err : goal.returns-in-Err
returns-in-Err c = IfOk-weaker c.stopped.result _ (λ answer. MayBeShown (texts_view c.args.texts.now) answer.status (found_text answer.found))
    (λ answer h. may_refuse (PrintsProgram (texts_view c.args.texts.now)) (texts_view c.args.texts.now) (found_text answer.found)
    c.in-Err.unread c.in-Err.ensures.refused answer.status h)
    c.stopped.ensures
