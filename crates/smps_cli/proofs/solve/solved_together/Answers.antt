use Rattle.std.proofs.Common.{subst}
use Rattle.std.proofs.lemmas.Result.{IfOk-weaker}
use Rattle.command_words.specs.declared.command.Budget.{Budget}
use Rattle.input_files.specs.Unfetched.{texts_view}
use Rattle.smps_cli.specs.Found.{found_text}
use Rattle.smps_cli.specs.Solved.{MayBeSolved, PrintsReports, any_open}
use Rattle.smps_cli.specs.Within.{ComesWithin, without_solves}
use Rattle.smps_cli.proofs.EndLemmas.{may_print}
use Rattle.smps_cli.proofs.WithinLemmas.{within_words, within_none}
use Rattle.smps_cli.proofs.solve.solved_together.Goals as goal

pub returns-then-is_closed : goal.returns-then-is_closed
returns-then-is_closed g c =
    let texts = texts_view c.args.texts.now in
    let status = c.in_ok-answer.answer.status in
    let output = found_text c.in_ok-answer.answer.found in
    let h : PrintsReports (without_solves c.args.budget) texts status output =
    subst (λ (kept : Budget). PrintsReports kept texts status output) c.without_solves-none.ensures c.in_ok-answer.ensures in
    within_none (λ kept. MayBeSolved kept texts) c.args.budget status output c.requires.none (c.is_closed.ensures c.if-is_closed.true)
    (may_print (PrintsReports (without_solves c.args.budget) texts) texts output status (any_open h.tolds) h.ends h)

pub returns-else-is_closed : goal.returns-else-is_closed
returns-else-is_closed g c = IfOk-weaker c.solved_by_method.result _
    (λ answer. ComesWithin (λ kept. MayBeSolved kept (texts_view c.args.texts.now)) c.args.budget answer.status (found_text answer.found))
    (λ answer h. within_words (λ kept. MayBeSolved kept (texts_view c.args.texts.now)) c.args.budget answer.status (found_text answer.found) h)
    c.solved_by_method.ensures
