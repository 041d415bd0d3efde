use Rattle.std.proofs.Common.{Err, sym, subst}
use Rattle.input_files.specs.Unfetched.{texts_view}
use Rattle.program_files.specs.declared.reading.Unread.{Unread}
use Rattle.program_files.specs.Views.{MeansOrRefused}
use Rattle.time_defs.specs.Periods.{stages}
use Rattle.program_files.proofs.RefusedLemmas.{stops_stoch}
use Rattle.program_files.proofs.reading.with_periods.Goals as goal

pub returns-in-Err : goal.returns-in-Err
returns-in-Err c = subst (λ (u : Unread). MeansOrRefused (texts_view c.args.texts.now) (Err u)) (sym c.stopped.ensures)
    (stops_stoch c.args.texts.now c.args.core c.requires.core (stages c.args.periods.now) c.requires.periods c.in-Err.fail c.in-Err.ensures)
