-- The script and the reports that two further texts mean for the program, and why they mean none.
use Rattle.std.specs.Prelude.{◌≡◌, ◌⊎◌, ℕ, List, [], Option, Some, None, Result, Ok, Err}
use Rattle.refusals.specs.declared.cause.Refusal.{Refusal}
use Rattle.core_defs.specs.declared.program.Core.{Core}
use Rattle.scen_defs.specs.Program.{Program, content}
use Rattle.scen_defs.specs.Names.{column_names, row_names}
use Rattle.scen_defs.specs.declared.program.Program.{Program as ProgramOf}
use Rattle.scen_defs.specs.declared.report.Report.{Report}
use Rattle.edit_defs.specs.declared.edit.Item.{Item}
use Rattle.edit_script.specs.Script.{script_of}
use Rattle.edit_script.specs.Solves.{solve_count}
use Rattle.report_reader.specs.Reports.{read_text, reports_of}
use Rattle.report_reader.specs.Stated.{IsStated}
use Rattle.input_files.specs.declared.kind.FileKind.{FileKind}
use Rattle.input_files.specs.declared.kind.FileKind.TheVariants as kind
use Rattle.input_files.specs.Fetched.{Texts}
use Rattle.program_files.specs.Meant.{MeansProgram}
use Rattle.program_files.specs.Refused.{RefusesProgram}

-- a text that isn't there is read as an empty one
abbrev pub or_empty : Option (List ℕ) → List ℕ
or_empty None = []
or_empty (Some text) = text

-- The edit list means this script for the program; no edit list means what an empty one does.
abbrev pub MeansScript : Texts → Program → List Item → Type 0
MeansScript texts p items = script_of (or_empty texts.edits) p ≡ Ok items

-- The report file states these reports, so many at most, with the names of the program; where there is none, these are none.
pub record MeansReports (texts : Texts) (most : ℕ) (program : ProgramOf) (reports : List Report) : Type 0 where
  pub read : reports_of most program (or_empty texts.report) ≡ Ok reports
  pub stated : IsStated program (or_empty texts.report) reports

-- the reports of a report file, so many at most, with the names of the program's columns and rows; where there is none, these are none
abbrev pub reports_for : ℕ → Program → Option (List ℕ) → Result (List Report) Refusal
reports_for most p text = read_text (record {
  columns = column_names p.columns;
  rows = row_names p.rows;
  most = most;
}) (or_empty text)

-- The texts mean a program, the edit list a script for it, and the report file is read as reports, at most one for each SOLVE.
pub record AreMeant (texts : Texts) : Type 0 where
  pub program : Program
  pub means : MeansProgram texts program
  pub items : List Item
  pub script : MeansScript texts program items
  pub reports : List Report
  pub read : reports_for (solve_count items) program texts.report ≡ Ok reports

-- The edit list has this fault, for the program that the texts mean.
pub record RefusesEdits (texts : Texts) (file : FileKind) (refusal : Refusal) (known : Option Core) : Type 0 where
  pub file_is : file ≡ kind.Edits
  pub known_is : known ≡ None
  pub program : Program
  pub program_means : MeansProgram texts program
  pub text : List ℕ
  pub text_is : texts.edits ≡ Some text
  pub fault : script_of text program ≡ Err refusal

-- The report file has this fault, for the program that the texts mean, and at most as many reports as the script has SOLVEs.
pub record RefusesReports (texts : Texts) (file : FileKind) (refusal : Refusal) (known : Option Core) : Type 0 where
  pub file_is : file ≡ kind.Report
  pub known_is : known ≡ None
  pub program : ProgramOf
  pub program_means : MeansProgram texts (content program)
  pub items : List Item
  pub script_means : MeansScript texts (content program) items
  pub text : List ℕ
  pub text_is : texts.report ≡ Some text
  pub fault : reports_of (solve_count items) program text ≡ Err refusal

-- The first fault of all texts: that of the program, of the edit list, or of the report file.
abbrev pub RefusesFiles : Texts → FileKind → Refusal → Option Core → Type 0
RefusesFiles texts file refusal known = RefusesProgram texts file refusal known ⊎ RefusesEdits texts file refusal known
    ⊎ RefusesReports texts file refusal known
