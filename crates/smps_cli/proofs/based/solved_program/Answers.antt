use Rattle.std.proofs.Common.{◌<◌, ◌-◌, ◌^◌, List, ℕ, length, sym, subst}
use Rattle.std.proofs.lemmas.Result.{IfOk-weaker}
use Rattle.input_files.specs.Unfetched.{texts_view}
use Rattle.smps_cli.specs.Found.{found_text}
use Rattle.smps_cli.specs.Based.{MayBeBasisSolved}
use Rattle.smps_cli.specs.Within.{ComesWithin}
use Rattle.smps_cli.proofs.WithinLemmas.{within_words}
use Rattle.smps_cli.proofs.BasedLemmas.{basis_short, refused_may}
use Rattle.smps_cli.proofs.based.solved_program.Goals as goal

pub read_basis-requires : goal.read_basis-requires
read_basis-requires g c =
    subst (λ (bytes : List ℕ). length bytes < 2 ^ 32 - 1) (sym c.basis_bytes.ensures) (basis_short (texts_view c.args.texts.now) c.requires.within)

pub returns-in-Err : goal.returns-in-Err
returns-in-Err g c = IfOk-weaker c.refused.result _
    (λ answer. ComesWithin (λ kept. MayBeBasisSolved kept (texts_view c.args.texts.now)) c.args.budget answer.status (found_text answer.found))
    (λ answer h. within_words (λ kept. MayBeBasisSolved kept (texts_view c.args.texts.now)) c.args.budget answer.status (found_text answer.found)
    (refused_may c.args.budget (texts_view c.args.texts.now) (found_text answer.found) c.in-Err.fault answer.status h))
    c.refused.ensures
