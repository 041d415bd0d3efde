-- What the faults of the edit list and of the report file refuse.
use Rattle.std.proofs.Common.{◌≡◌, ℕ, List, Option, Some, None, Err, refl}
use Rattle.refusals.specs.declared.cause.ReadFail.{ReadFail}
use Rattle.refusals.specs.declared.cause.ReadFail.TheVariants as fail
use Rattle.scen_defs.specs.Program.{content}
use Rattle.scen_defs.specs.declared.program.Program.{Program as ProgramOf}
use Rattle.edit_defs.specs.declared.edit.Item.{Item}
use Rattle.edit_script.specs.Script.{script_of}
use Rattle.edit_script.specs.Drafts.{Means}
use Rattle.edit_script.specs.Solves.{solve_count}
use Rattle.report_reader.specs.Reports.{reports_of, FailOf}
use Rattle.input_files.specs.declared.kind.FileKind.TheVariants as kind
use Rattle.input_files.specs.declared.fetch.Texts.{Texts as TextsOf}
use Rattle.input_files.specs.Unfetched.{texts_view, given_bytes}
use Rattle.program_files.specs.Meant.{MeansProgram}
use Rattle.program_files.specs.Edited.{or_empty, MeansScript}
use Rattle.program_files.specs.Views.{GivesScript, GivesReports, unread_of}

module _ (texts : TextsOf) (program : ProgramOf) (means : MeansProgram (texts_view texts) (content program)) where
  by_edits : (told : Option (List ℕ)) → (texts_view texts).edits ≡ told → (f : ReadFail) → Means (Err f) (script_of (or_empty told) (content program)) →
      GivesScript (texts_view texts) (content program) (Err (unread_of kind.Edits f None))
  by_edits None e (fail.Refused refusal) h = absurd (cc)
  by_edits (Some text) e (fail.Refused refusal) h =
      record { file_is = refl; known_is = refl; program = content program; program_means = means; text = text; text_is = e; fault = h }
  by_edits told e fail.Memory h = tt

  pub stops_edits : (f : ReadFail) → Means (Err f) (script_of (or_empty (given_bytes texts.edits)) (content program)) →
      GivesScript (texts_view texts) (content program) (Err (unread_of kind.Edits f None))
  stops_edits f h = by_edits (given_bytes texts.edits) refl f h

  module _ (items : List Item) (script_means : MeansScript (texts_view texts) (content program) items) where
    by_report : (told : Option (List ℕ)) → (texts_view texts).report ≡ told → (f : ReadFail) → FailOf (reports_of (solve_count items) program (or_empty told)) f →
        GivesReports (texts_view texts) (solve_count items) program (Err (unread_of kind.Report f None))
    by_report None e (fail.Refused refusal) h = absurd (cc)
    by_report (Some text) e (fail.Refused refusal) h =
        record {
          file_is = refl;
          known_is = refl;
          program = program;
          program_means = means;
          items = items;
          script_means = script_means;
          text = text;
          text_is = e;
          fault = h;
        }
    by_report told e fail.Memory h = tt

    pub stops_report : (f : ReadFail) → FailOf (reports_of (solve_count items) program (or_empty (given_bytes texts.report))) f →
        GivesReports (texts_view texts) (solve_count items) program (Err (unread_of kind.Report f None))
    stops_report f h = by_report (given_bytes texts.report) refl f h
