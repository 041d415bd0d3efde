-- The one line that a status prints, and the exit status of the program.
use Rattle.std.specs.Prelude.{ℕ, List, [], ◌∷◌, ◌++◌, Option, Some, None, get_or, codes}
use Rattle.std.specs.Fmt.{decimal}
use Rattle.refusals.specs.declared.cause.Cause.{Cause}
use Rattle.refusals.specs.declared.cause.Cause.TheVariants as cause
use Rattle.refusals.specs.Cause.{number_of_cause}
use Rattle.core_defs.specs.Core.{row_names, column_names}
use Rattle.core_defs.specs.declared.program.Core.{Core as CoreOf}
use Rattle.frac128.specs.Text.{text_of}
use Rattle.report_text.specs.Text.{operation_text}
use Rattle.input_files.specs.declared.kind.FileKind.{FileKind}
use Rattle.input_files.specs.declared.kind.FileKind.TheVariants.{Core, Time, Stoch, Edits, Report, Basis, Measures}
use Rattle.exit_status.specs.declared.status.Status.{Status}
use Rattle.exit_status.specs.declared.status.Status.TheVariants.{Done, SomeOpen, Words, Refused, TooLong, ReadFault, WriteFault, Memory}

abbrev pub file_word : FileKind → List ℕ
file_word Core = codes "core"
file_word Time = codes "time"
file_word Stoch = codes "stoch"
file_word Edits = codes "edits"
file_word Report = codes "report"
file_word Basis = codes "basis"
file_word Measures = codes "value"

-- the names of a row and of a column, where the core is known
abbrev pub row_name : Option CoreOf → ℕ → List ℕ
row_name None row = []
row_name (Some core) row = get_or (row_names core.rows.items) row []

abbrev pub column_name : Option CoreOf → ℕ → List ℕ
column_name None column = []
column_name (Some core) column = get_or (column_names core.columns.items) column []

-- what stands behind the number of a cause: names, a sum, or the operation that passes
abbrev pub values_text : Option CoreOf → Cause → List ℕ
values_text known (cause.NotTriangular row column) = 32 ∷ row_name known row ++ 32 ∷ column_name known column
values_text known (cause.RowMissing row) = 32 ∷ row_name known row
values_text known (cause.ColumnMissing column) = 32 ∷ column_name known column
values_text known (cause.ProbabilitySum sum) = 32 ∷ text_of sum
values_text known (cause.Passes p) = 32 ∷ operation_text p
values_text known _ = []

-- a file, by its word, is refused at this line for the cause of this number
abbrev pub numbered_text : List ℕ → ℕ → ℕ → List ℕ
numbered_text word line number = codes "refused " ++ word ++ codes " line " ++ decimal line ++ codes ": " ++ decimal number

-- a file is refused at this line for this cause; its names are those of the core, where that is known
abbrev pub refused_text : Option CoreOf → FileKind → ℕ → Cause → List ℕ
refused_text known file line cause = numbered_text (file_word file) line (number_of_cause cause) ++ values_text known cause ++ codes "\n"

-- nothing for a command that ended, for a fault of the output and for want of memory; a refusal has names of the core, where that is known
abbrev pub line_with : Option CoreOf → Status → List ℕ
line_with known Done = []
line_with known SomeOpen = []
line_with known Words = codes "words refused\n"
line_with known (Refused file line cause) = refused_text known file line cause
line_with known (TooLong file) = codes "refused " ++ file_word file ++ codes ": too long\n"
line_with known (ReadFault file) = codes "read failed: " ++ file_word file ++ codes "\n"
line_with known WriteFault = []
line_with known Memory = []

abbrev pub status_line : Status → List ℕ
status_line = line_with None

abbrev pub status_number : Status → ℕ
status_number Done = 0
status_number SomeOpen = 1
status_number Words = 2
status_number (Refused file line cause) = 3
status_number (TooLong file) = 3
status_number (ReadFault file) = 4
status_number WriteFault = 4
status_number Memory = 5
