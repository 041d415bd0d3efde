-- A line that is refused.
use Rattle.std.proofs.Common.{◌∙◌, ◌∷◌, List, Result, Err, ap, sym, subst}
use Rattle.smps_words.specs.Line.{TextLine}
use Rattle.smps_words.specs.Seen.{seen}
use Rattle.refusals.specs.declared.cause.Refusal.{Refusal}
use Rattle.refusals.specs.declared.cause.ReadFail.{ReadFail}
use Rattle.reader_defs.specs.Reader.{read_from}
use Rattle.stoch_defs.specs.File.{stoch_file}
use Rattle.stoch_defs.specs.Random.{Random}
use Rattle.stoch_defs.specs.Step.{step}
use Rattle.time_defs.specs.Periods.{stages}
use Rattle.smps_stoch.specs.View.{filed, Reads}
use Rattle.smps_stoch.proofs.TextLemmas.{refused_there}
use Rattle.smps_stoch.proofs.reading.read_behind.Goals as goal

pub returns-in-Err : goal.returns-in-Err
returns-in-Err c =
    let p = stages c.args.periods.now in
    let file = stoch_file c.args.core.now p in
    subst (λ (given : Result Random Refusal). Reads (Err c.refused.result) given)
    (ap (λ (lines : List TextLine). read_from file c.loop-line.lines.end_line (filed c.loop-line.draft) lines) (sym c.in-Some.ensures.found) ∙ c.loop-line.invariant)
    (subst (λ (fail : ReadFail). Reads (Err fail) (read_from file c.loop-line.lines.end_line (filed c.loop-line.draft) (seen c.in-Some.line ∷ c.next.new.self.lines))) (sym c.refused.ensures)
    (refused_there c.step.new.self c.in-Err.stop c.in-Some.line.number (step c.args.core.now p (filed c.loop-line.draft) (seen c.in-Some.line)) _ c.in-Err.ensures))
