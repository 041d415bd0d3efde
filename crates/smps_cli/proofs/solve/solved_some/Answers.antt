use Rattle.std.proofs.lemmas.Result.{IfOk-weaker}
use Rattle.input_files.specs.Unfetched.{texts_view}
use Rattle.smps_cli.specs.Found.{found_text}
use Rattle.smps_cli.specs.Solved.{MayBeSolved, PrintsReports, any_open}
use Rattle.smps_cli.specs.Within.{ComesWithin}
use Rattle.smps_cli.proofs.EndLemmas.{may_print}
use Rattle.smps_cli.proofs.WithinLemmas.{within_words}
use Rattle.smps_cli.proofs.solve.solved_some.Goals as goal

pub returns-else-script_goes_together : goal.returns-else-script_goes_together
returns-else-script_goes_together g c =
    let texts = texts_view c.args.texts.now in
    IfOk-weaker c.solved_input.result _
    (λ answer. ComesWithin (λ kept. MayBeSolved kept texts) c.args.budget answer.status (found_text answer.found))
    (λ answer h. within_words (λ kept. MayBeSolved kept texts) c.args.budget answer.status (found_text answer.found)
    (may_print (PrintsReports c.args.budget texts) texts (found_text answer.found) answer.status (any_open h.tolds) h.ends h))
    c.solved_input.ensures
