-- What `table` prints.
use Rattle.std.specs.Prelude.{◌≡◌, ◌⊎◌, ℕ, ◌+◌, true, List, [], Option, None, Result, Ok, Err, nat_eq}
use Rattle.std.specs.List.{count_by}
use Rattle.refusals.specs.declared.cause.Cause.{Cause}
use Rattle.refusals.specs.declared.cause.Cause.TheVariants.{ReportBad}
use Rattle.scen_defs.specs.Program.{Program, content}
use Rattle.scen_defs.specs.declared.program.Program.{Program as ProgramOf}
use Rattle.scen_defs.specs.declared.report.Report.{Report as ReportOf}
use Rattle.edit_defs.specs.declared.edit.Item.{Item}
use Rattle.command_words.specs.declared.command.Sheet.{Sheet}
use Rattle.input_files.specs.declared.kind.FileKind.{FileKind}
use Rattle.input_files.specs.declared.kind.FileKind.TheVariants.{Report, Measures}
use Rattle.input_files.specs.Fetched.{Texts}
use Rattle.program_files.specs.Meant.{MeansProgram}
use Rattle.program_files.specs.Edited.{MeansScript, MeansReports, or_empty}
use Rattle.edit_script.specs.Solves.{solve_count}
use Rattle.report_sheets.specs.Sheets.{HoldsAsAsked, TellsWhyNot}
use Rattle.report_sheets.specs.declared.sheet.NoSheet.{NoSheet}
use Rattle.report_sheets.specs.declared.sheet.NoSheet.TheVariants.{Missing, Unproved, Memory}
use Rattle.exit_status.specs.declared.status.Status.{Status}
use Rattle.exit_status.specs.declared.status.Status.TheVariants.{Done, SomeOpen, Refused}
use Rattle.exit_status.specs.Lines.{refused_text}
use Rattle.smps_cli.specs.Ends.{MayEnd, RefusesTexts}

-- the number of the line after the last one of a text
abbrev pub line_after : List ℕ → ℕ
line_after text = count_by (λ byte. nat_eq byte 10) text + 1

-- the report file is refused at this line, since it has no such report, and the line says so
abbrev pub RefusesReport : ℕ → Status → List ℕ → Type 0
RefusesReport line status output = (status ≡ Refused Report line ReportBad) × (output ≡ refused_text None Report line ReportBad)

-- The output is the page; nothing where the test of the report doesn't come to that it holds; or the report file is refused, at this line.
abbrev pub TableComes : ℕ → Result (List ℕ) NoSheet → Status → List ℕ → Type 0
TableComes line (Ok page) status output = (status ≡ Done) × (output ≡ page)
TableComes line (Err (Missing count)) status output = RefusesReport line status output
TableComes line (Err (Unproved check)) status output = (status ≡ SomeOpen) × (output ≡ [])
TableComes line (Err Memory) status output = ⊥

-- There is a page where the report that is asked for is there, and all that it claims holds; else it is so why there is none.
abbrev pub TellsSheet : Program → List Item → List ReportOf → Option ℕ → Result (List ℕ) NoSheet → Type 0
TellsSheet p items reports number (Ok page) = HoldsAsAsked p items reports number
TellsSheet p items reports number (Err why) = TellsWhyNot p items reports number why

-- The answer is that of the report with this number, or of the last one, among those that the report file states. What a page says isn't
-- defined: it is what `report_sheets` makes of a report that holds.
pub record IsTable (number : Option ℕ) (texts : Texts) (status : Status) (output : List ℕ) : Type 0 where
  -- the program that the texts mean, and what the edit list means for it
  pub program : ProgramOf
  pub means : MeansProgram texts (content program)
  pub items : List Item
  pub script : MeansScript texts (content program) items
  -- the reports that are stated, at most as many as there are SOLVEs
  pub reports : List ReportOf
  pub stated : MeansReports texts (solve_count items) program reports
  -- the page, or why there is none
  pub end : Result (List ℕ) NoSheet
  pub told : TellsSheet (content program) items reports number end
  pub comes : TableComes (line_after (or_empty texts.report)) end status output

-- the file that `value` printed is refused at a line, and the line says so
abbrev pub RefusesMeasures : Status → List ℕ → Type 0
RefusesMeasures status output =
    (line : ℕ) × (cause : Cause) × (status ≡ Refused Measures line cause) × (output ≡ refused_text None Measures line cause)

-- The texts have a first fault; or the report file has no such report; or the file that `value` printed is refused, where it is asked for.
abbrev pub RefusesTable : Sheet → Texts → FileKind → ℕ → Cause → List ℕ → Type 0
RefusesTable sheet texts file line cause output =
    RefusesTexts texts file line cause output ⊎ IsTable sheet.number texts (Refused file line cause) output
    ⊎ ((sheet.with_measures ≡ true) × RefusesMeasures (Refused file line cause) output)

-- What the texts of the files may come to.
abbrev pub MayBeTable : Sheet → Texts → Status → List ℕ → Type 0
MayBeTable sheet texts = MayEnd (IsTable sheet.number texts) (RefusesTable sheet texts)
