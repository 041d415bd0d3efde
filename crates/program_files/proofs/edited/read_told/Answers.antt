use Rattle.std.proofs.Common.{ℕ, List, Err, sym, subst}
use Rattle.edit_script.specs.Solves.{solve_count}
use Rattle.report_reader.specs.Reports.{reports_of, FailOf}
use Rattle.input_files.specs.Unfetched.{texts_view}
use Rattle.program_files.specs.declared.reading.Unread.{Unread}
use Rattle.program_files.specs.Views.{GivesReports}
use Rattle.program_files.proofs.EditedLemmas.{stops_report}
use Rattle.program_files.proofs.edited.read_told.Goals as goal

pub returns-in-Err : goal.returns-in-Err
returns-in-Err c =
    let most = solve_count c.args.script.now.items.items in
    subst (λ (u : Unread). GivesReports (texts_view c.args.texts.now) most c.args.program.now (Err u)) (sym c.stopped.ensures)
    (stops_report c.args.texts.now c.args.program.now c.requires.means c.args.script.now.items.items c.requires.script c.in-Err.fail
    (subst (λ (bytes : List ℕ). FailOf (reports_of most c.args.program.now bytes) c.in-Err.fail) c.or_empty.ensures
    (subst (λ (count : ℕ). FailOf (reports_of count c.args.program.now c.or_empty.result.now) c.in-Err.fail) c.solves.ensures c.in-Err.ensures.exact)))
