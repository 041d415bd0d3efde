use Rattle.std.proofs.Common.{not}
use Rattle.std.proofs.lemmas.Result.{IfOk-weaker}
use Rattle.input_files.specs.Unfetched.{texts_view}
use Rattle.edit_script.specs.Solves.{solve_count}
use Rattle.script_checks.specs.Checked.{all_hold}
use Rattle.smps_cli.specs.Found.{found_text}
use Rattle.smps_cli.specs.Checks.{MayBeChecked, PrintsChecks}
use Rattle.smps_cli.proofs.EndLemmas.{may_print, may_refuse, reports_refuse}
use Rattle.smps_cli.proofs.check.checked_input.Goals as goal

pub returns-in-Ok : goal.returns-in-Ok
returns-in-Ok c = IfOk-weaker c.checked_reports.result _
    (λ answer. MayBeChecked (texts_view c.args.texts.now) answer.status (found_text answer.found))
    (λ answer h. may_print (PrintsChecks (texts_view c.args.texts.now)) (texts_view c.args.texts.now) (found_text answer.found)
    answer.status (not (all_hold h.checks)) h.ends h)
    c.checked_reports.ensures

pub returns-in-Err : goal.returns-in-Err
returns-in-Err c = IfOk-weaker c.stopped.result _ (λ answer. MayBeChecked (texts_view c.args.texts.now) answer.status (found_text answer.found))
    (λ answer h. may_refuse (PrintsChecks (texts_view c.args.texts.now)) (texts_view c.args.texts.now) (found_text answer.found)
    c.in-Err.unread (reports_refuse (texts_view c.args.texts.now) (solve_count c.args.input.now.script.items.items) c.args.input.now.program
    c.in-Err.unread c.in-Err.ensures) answer.status h)
    c.stopped.ensures
