use Rattle.std.proofs.Common.{subst}
use Rattle.std.proofs.lemmas.Result.{IfOk-weaker}
use Rattle.input_files.specs.Fetched.{Texts}
use Rattle.input_files.specs.Unfetched.{texts_view}
use Rattle.smps_cli.specs.Found.{found_text}
use Rattle.smps_cli.specs.Ends.{RefusesUnread}
use Rattle.exit_status.specs.Findings.{is_open_finding}
use Rattle.smps_cli.specs.Makes.{MaySumUp, PrintsSummary, texts_of, workload}
use Rattle.smps_cli.proofs.EndLemmas.{may_print, may_refuse, program_refuses}
use Rattle.smps_cli.proofs.make.summed_up.Goals as goal

pub returns-in-Ok : goal.returns-in-Ok
returns-in-Ok g c = IfOk-weaker c.solved.result _ (λ answer. MaySumUp c.args.plan answer.status (found_text answer.found))
    (λ answer h. may_print (PrintsSummary c.args.plan) (texts_of (workload c.args.plan)) (found_text answer.found) answer.status
    (is_open_finding h.report.finding) h.told h)
    c.solved.ensures

pub returns-in-Err : goal.returns-in-Err
returns-in-Err g c =
    let refuses : RefusesUnread (texts_of (workload c.args.plan)) c.in-Err.unread =
    subst (λ (texts : Texts). RefusesUnread texts c.in-Err.unread) c.requires
    (program_refuses (texts_view c.args.texts.now) c.in-Err.unread c.in-Err.ensures) in
    IfOk-weaker c.stopped.result _ (λ answer. MaySumUp c.args.plan answer.status (found_text answer.found))
    (λ answer h. may_refuse (PrintsSummary c.args.plan) (texts_of (workload c.args.plan)) (found_text answer.found)
    c.in-Err.unread refuses answer.status h)
    c.stopped.ensures
