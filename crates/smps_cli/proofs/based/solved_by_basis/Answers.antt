use Rattle.std.proofs.lemmas.Result.{IfOk-weaker}
use Rattle.input_files.specs.Unfetched.{texts_view}
use Rattle.smps_cli.specs.Found.{found_text}
use Rattle.smps_cli.specs.Based.{MayBeBasisSolved}
use Rattle.smps_cli.specs.Solved.{MayBeSolved}
use Rattle.smps_cli.specs.Within.{ComesWithin}
use Rattle.smps_cli.proofs.WithinLemmas.{within_more}
use Rattle.smps_cli.proofs.BasedLemmas.{without_may}
use Rattle.smps_cli.proofs.based.solved_by_basis.Goals as goal

pub returns-in-Some : goal.returns-in-Some
returns-in-Some g c = IfOk-weaker c.solved_without.result _
    (λ answer. ComesWithin (λ kept. MayBeBasisSolved kept (texts_view c.args.texts.now)) c.args.budget answer.status (found_text answer.found))
    (λ answer h. within_more (λ kept. MayBeSolved kept (texts_view c.args.texts.now)) (λ kept. MayBeBasisSolved kept (texts_view c.args.texts.now))
    c.args.budget answer.status (found_text answer.found)
    (λ kept may. without_may kept (texts_view c.args.texts.now) (found_text answer.found) answer.status may) h)
    c.solved_without.ensures
