use Rattle.std.proofs.Common.{ℕ, List, Err, sym, subst}
use Rattle.core_defs.specs.Fault.{IsReadOrRefused}
use Rattle.core_defs.specs.declared.program.Core.{Core}
use Rattle.input_files.specs.Unfetched.{texts_view}
use Rattle.program_files.specs.declared.reading.Unread.{Unread}
use Rattle.program_files.specs.Views.{MeansOrRefused}
use Rattle.program_files.proofs.RefusedLemmas.{stops_core}
use Rattle.program_files.proofs.reading.read_program.Goals as goal

pub returns-in-Err : goal.returns-in-Err
returns-in-Err c = subst (λ (u : Unread). MeansOrRefused (texts_view c.args.texts.now) (Err u)) (sym c.stopped.ensures)
    (stops_core c.args.texts.now c.in-Err.fail (subst (λ (bytes : List ℕ). IsReadOrRefused {X = Core} bytes (Err c.in-Err.fail)) c.deref.ensures.value c.in-Err.ensures.faults))
