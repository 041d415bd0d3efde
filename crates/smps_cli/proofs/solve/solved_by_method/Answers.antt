use Rattle.std.proofs.lemmas.Result.{IfOk-weaker}
use Rattle.input_files.specs.Unfetched.{texts_view}
use Rattle.smps_cli.specs.Found.{found_text}
use Rattle.smps_cli.specs.Solved.{MayBeSolved, PrintsReports, any_open}
use Rattle.smps_cli.proofs.EndLemmas.{may_print, may_refuse}
use Rattle.smps_cli.proofs.solve.solved_by_method.Goals as goal

pub returns-in-Ok : goal.returns-in-Ok
returns-in-Ok g c = IfOk-weaker c.solved_input.result _
    (λ answer. MayBeSolved c.args.budget (texts_view c.args.texts.now) answer.status (found_text answer.found))
    (λ answer h. may_print (PrintsReports c.args.budget (texts_view c.args.texts.now)) (texts_view c.args.texts.now) (found_text answer.found)
    answer.status (any_open h.tolds) h.ends h)
    c.solved_input.ensures

pub returns-in-Err : goal.returns-in-Err
returns-in-Err g c = IfOk-weaker c.stopped.result _
    (λ answer. MayBeSolved c.args.budget (texts_view c.args.texts.now) answer.status (found_text answer.found))
    (λ answer h. may_refuse (PrintsReports c.args.budget (texts_view c.args.texts.now)) (texts_view c.args.texts.now) (found_text answer.found)
    c.in-Err.unread c.in-Err.ensures.refused answer.status h)
    c.stopped.ensures
