use Rattle.std.proofs.lemmas.Result.{IfOk-weaker}
use Rattle.input_files.specs.Unfetched.{texts_view}
use Rattle.smps_cli.specs.Found.{found_text}
use Rattle.smps_cli.specs.Flat.{MayBeFlat}
use Rattle.smps_cli.proofs.FlatLemmas.{flat_may, flat_refused}
use Rattle.smps_cli.proofs.flat.flattened.Goals as goal

pub returns-in-Ok : goal.returns-in-Ok
returns-in-Ok c = IfOk-weaker c.edited.result _ (λ answer. MayBeFlat c.args.extent (texts_view c.args.texts.now) answer.status (found_text answer.found))
    (λ answer h. flat_may c.args.extent (texts_view c.args.texts.now) answer.status (found_text answer.found) h)
    c.edited.ensures

pub returns-in-Err : goal.returns-in-Err
returns-in-Err c = IfOk-weaker c.stopped.result _ (λ answer. MayBeFlat c.args.extent (texts_view c.args.texts.now) answer.status (found_text answer.found))
    (λ answer h. flat_refused c.args.extent (texts_view c.args.texts.now) answer.status (found_text answer.found) c.in-Err.unread c.in-Err.ensures.refused h)
    c.stopped.ensures
