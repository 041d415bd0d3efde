use Rattle.std.proofs.Common.{Option, subst}
use Rattle.std.specs.Prelude.{IfSome}
use Rattle.std.proofs.lemmas.Result.{IfOk-weaker}
use Rattle.scen_defs.specs.Program.{content}
use Rattle.input_files.specs.Unfetched.{texts_view}
use Rattle.smps_session.specs.declared.told.Told.{Told}
use Rattle.smps_session.specs.Based.{TellsBasis}
use Rattle.smps_cli.specs.Found.{found_text}
use Rattle.smps_cli.specs.Based.{MayBeBasisSolved}
use Rattle.smps_cli.specs.Within.{ComesWithin}
use Rattle.smps_cli.specs.Solved.{MayBeSolved}
use Rattle.smps_cli.proofs.WithinLemmas.{within_words, within_more}
use Rattle.smps_cli.proofs.BasedLemmas.{unedited_means, shown_may, without_may}
use Rattle.smps_cli.proofs.based.solved_given.Goals as goal

pub returns-in-Some : goal.returns-in-Some
returns-in-Some g c = IfOk-weaker c.shown.result _
    (λ answer. ComesWithin (λ kept. MayBeBasisSolved kept (texts_view c.args.texts.now)) c.args.budget answer.status (found_text answer.found))
    (λ answer h. within_words (λ kept. MayBeBasisSolved kept (texts_view c.args.texts.now)) c.args.budget answer.status (found_text answer.found)
    (shown_may c.args.budget (texts_view c.args.texts.now) (found_text answer.found) answer.status (record {
      program = content c.args.program;
      means = c.requires.means;
      script = unedited_means (texts_view c.args.texts.now) (content c.args.program) c.requires.unedited;
      told = c.in-Some.told;
      tells = subst (λ (o : Option Told). IfSome o (TellsBasis (record { solves = c.args.budget.solves; pivots = c.args.budget.pivots }) (content c.args.program)))
          c.in-Some.is c.in_ok-told.ensures;
      text = h.1;
      ends = h.0;
    })))
    c.shown.ensures

pub returns : goal.returns
returns g c = IfOk-weaker c.solved_without.result _
    (λ answer. ComesWithin (λ kept. MayBeBasisSolved kept (texts_view c.args.texts.now)) c.args.budget answer.status (found_text answer.found))
    (λ answer h. within_more (λ kept. MayBeSolved kept (texts_view c.args.texts.now)) (λ kept. MayBeBasisSolved kept (texts_view c.args.texts.now))
    c.args.budget answer.status (found_text answer.found)
    (λ kept may. without_may kept (texts_view c.args.texts.now) (found_text answer.found) answer.status may) h)
    c.solved_without.ensures
