use Rattle.std.proofs.lemmas.Result.{IfOk-weaker}
use Rattle.input_files.specs.Unfetched.{texts_view}
use Rattle.smps_cli.specs.Found.{found_text}
use Rattle.smps_cli.specs.Tables.{MayBeTable}
use Rattle.smps_cli.proofs.TableLemmas.{table_refused}
use Rattle.smps_cli.proofs.table.tabled.Goals as goal

pub returns-in-Err : goal.returns-in-Err
returns-in-Err c = IfOk-weaker c.stopped.result _ (λ answer. MayBeTable c.args.sheet (texts_view c.args.texts.now) answer.status (found_text answer.found))
    (λ answer h. table_refused c.args.sheet (texts_view c.args.texts.now) answer.status (found_text answer.found)
    c.in-Err.unread c.in-Err.ensures.refused h)
    c.stopped.ensures
