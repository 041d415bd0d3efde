use Rattle.std.proofs.Common.{ℕ, List, Err, sym, subst}
use Rattle.scen_defs.specs.Program.{content}
use Rattle.edit_script.specs.Script.{script_of}
use Rattle.edit_script.specs.Drafts.{Means}
use Rattle.input_files.specs.Unfetched.{texts_view}
use Rattle.program_files.specs.declared.reading.Unread.{Unread}
use Rattle.program_files.specs.Views.{GivesScript}
use Rattle.program_files.proofs.EditedLemmas.{stops_edits}
use Rattle.program_files.proofs.edited.read_list.Goals as goal

pub returns-in-Err-clause-script : goal.returns-in-Err-clause-script
returns-in-Err-clause-script c =
    subst (λ (u : Unread). GivesScript (texts_view c.args.texts.now) (content c.args.program.now) (Err u)) (sym c.stopped.ensures)
    (stops_edits c.args.texts.now c.args.program.now c.requires.means c.in-Err.fail
    (subst (λ (bytes : List ℕ). Means (Err c.in-Err.fail) (script_of bytes (content c.args.program.now))) c.or_empty.ensures c.in-Err.ensures.exact))
