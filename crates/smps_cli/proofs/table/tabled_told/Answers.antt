use Rattle.std.proofs.lemmas.Result.{IfOk-weaker}
use Rattle.input_files.specs.Unfetched.{texts_view}
use Rattle.smps_cli.specs.Found.{found_text}
use Rattle.smps_cli.specs.Tables.{MayBeTable}
use Rattle.smps_cli.proofs.TableLemmas.{table_may, table_unmeasured}
use Rattle.smps_cli.proofs.table.tabled_told.Goals as goal

pub returns-in-Ok : goal.returns-in-Ok
returns-in-Ok c = IfOk-weaker c.tabled_report.result _
    (λ answer. MayBeTable c.args.sheet (texts_view c.args.texts.now) answer.status (found_text answer.found))
    (λ answer h. table_may c.args.sheet (texts_view c.args.texts.now) answer.status (found_text answer.found) h)
    c.tabled_report.ensures

pub returns-in-Err : goal.returns-in-Err
returns-in-Err c = IfOk-weaker c.unmeasured.result _
    (λ answer. MayBeTable c.args.sheet (texts_view c.args.texts.now) answer.status (found_text answer.found))
    (λ answer h. table_unmeasured c.args.sheet (texts_view c.args.texts.now) answer.status (found_text answer.found) c.in-Err.ensures h)
    c.unmeasured.ensures
