use Rattle.std.proofs.lemmas.Result.{IfOk-weaker}
use Rattle.input_files.specs.Unfetched.{texts_view}
use Rattle.smps_cli.specs.Found.{found_text}
use Rattle.smps_cli.specs.Checks.{MayBeChecked, PrintsChecks}
use Rattle.smps_cli.proofs.EndLemmas.{may_refuse}
use Rattle.smps_cli.proofs.check.checked.Goals as goal

pub returns-in-Err : goal.returns-in-Err
returns-in-Err c = IfOk-weaker c.stopped.result _ (λ answer. MayBeChecked (texts_view c.args.texts.now) answer.status (found_text answer.found))
    (λ answer h. may_refuse (PrintsChecks (texts_view c.args.texts.now)) (texts_view c.args.texts.now) (found_text answer.found)
    c.in-Err.unread c.in-Err.ensures.refused answer.status h)
    c.stopped.ensures
