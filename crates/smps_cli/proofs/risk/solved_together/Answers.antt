use Rattle.std.proofs.Common.{subst}
use Rattle.std.proofs.lemmas.Result.{IfOk-weaker}
use Rattle.command_words.specs.declared.command.Budget.{Budget}
use Rattle.input_files.specs.Unfetched.{texts_view}
use Rattle.smps_cli.specs.Found.{found_text}
use Rattle.smps_cli.specs.Risks.{IsRiskSolve}
use Rattle.smps_cli.specs.Within.{ComesWithin}
use Rattle.smps_cli.proofs.WithinLemmas.{within_words, within_none}
use Rattle.smps_cli.proofs.risk.solved_together.Goals as goal

pub returns-then-is_closed : goal.returns-then-is_closed
returns-then-is_closed g c =
    let texts = texts_view c.args.texts.now in
    let status = c.in_ok-answer.answer.status in
    let output = found_text c.in_ok-answer.answer.found in
    within_none (λ kept. IsRiskSolve c.args.measure.now kept texts) c.args.budget status output c.requires.none (c.is_closed.ensures c.if-is_closed.true)
    (subst (λ (kept : Budget). IsRiskSolve c.args.measure.now kept texts status output) c.without_solves-none.ensures c.in_ok-answer.ensures)

pub returns-else-is_closed : goal.returns-else-is_closed
returns-else-is_closed g c =
    let texts = texts_view c.args.texts.now in
    IfOk-weaker c.solved_by_method.result _
    (λ answer. ComesWithin (λ kept. IsRiskSolve c.args.measure.now kept texts) c.args.budget answer.status (found_text answer.found))
    (λ answer h. within_words (λ kept. IsRiskSolve c.args.measure.now kept texts) c.args.budget answer.status (found_text answer.found) h)
    c.solved_by_method.ensures
