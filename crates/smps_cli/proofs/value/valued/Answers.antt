use Rattle.std.proofs.Common.{not}
use Rattle.std.proofs.lemmas.Result.{IfOk-weaker}
use Rattle.input_files.specs.Unfetched.{texts_view}
use Rattle.value_measures.specs.Numbers.{all_known}
use Rattle.smps_cli.specs.Found.{found_text}
use Rattle.smps_cli.specs.Measured.{MayBeMeasured, PrintsMeasuresWithin}
use Rattle.smps_cli.proofs.EndLemmas.{may_print, may_refuse, program_refuses}
use Rattle.smps_cli.proofs.value.valued.Goals as goal

pub returns-in-Ok : goal.returns-in-Ok
returns-in-Ok g c =
    let texts = texts_view c.args.texts.now in
    IfOk-weaker c.valued_read.result _
    (λ answer. MayBeMeasured c.args.budget texts answer.status (found_text answer.found))
    (λ answer h. may_print (PrintsMeasuresWithin c.args.budget texts) texts (found_text answer.found) answer.status
    (not (all_known h.prints.measures.numbers)) h.prints.ends h)
    c.valued_read.ensures

pub returns-in-Err : goal.returns-in-Err
returns-in-Err g c =
    let texts = texts_view c.args.texts.now in
    IfOk-weaker c.stopped.result _
    (λ answer. MayBeMeasured c.args.budget texts answer.status (found_text answer.found))
    (λ answer h. may_refuse (PrintsMeasuresWithin c.args.budget texts) texts (found_text answer.found)
    c.in-Err.unread (program_refuses texts c.in-Err.unread c.in-Err.ensures) answer.status h)
    c.stopped.ensures
