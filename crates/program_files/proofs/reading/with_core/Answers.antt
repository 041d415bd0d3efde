use Rattle.std.proofs.Common.{Err, sym, subst}
use Rattle.input_files.specs.Unfetched.{texts_view}
use Rattle.program_files.specs.declared.reading.Unread.{Unread}
use Rattle.program_files.specs.Views.{MeansOrRefused}
use Rattle.program_files.proofs.RefusedLemmas.{stops_time}
use Rattle.program_files.proofs.reading.with_core.Goals as goal

pub returns-in-Err : goal.returns-in-Err
returns-in-Err c = subst (λ (u : Unread). MeansOrRefused (texts_view c.args.texts.now) (Err u)) (sym c.stopped.ensures)
    (stops_time c.args.texts.now c.args.core c.requires.core c.in-Err.fail c.in-Err.ensures)
