-- The reports that a text states, line by line.
use Rattle.std.specs.Prelude.{◌≡◌, ℕ, ◌+◌, Bool, true, false, List, [], ◌∷◌, ◌++◌, length, Result, Ok, Err}
use Rattle.rationals.specs.Replies.{Reply, IsReply}
use Rattle.rationals.specs.Replies.Reply.{Says, Silent}
use Rattle.rationals.specs.Choices.{pick}
use Rattle.scen_defs.specs.declared.program.Program.{Program}
use Rattle.scen_defs.specs.declared.report.Report.{Report}
use Rattle.scen_defs.specs.Names.{column_names, row_names}
use Rattle.refusals.specs.declared.cause.Cause.{Cause}
use Rattle.refusals.specs.declared.cause.Cause.TheVariants as cause
use Rattle.refusals.specs.declared.cause.Refusal.{Refusal}
use Rattle.refusals.specs.declared.cause.ReadFail.{ReadFail}
use Rattle.refusals.specs.declared.cause.ReadFail.TheVariants.{Refused, Memory}
use Rattle.refusals.specs.Results.{on_line}
use Rattle.report_reader.specs.declared.fault.Fault.{Fault}
use Rattle.report_reader.specs.declared.fault.Fault.TheVariants as fault
use Rattle.report_reader.specs.declared.draft.Next.{Next}
use Rattle.report_reader.specs.declared.draft.Next.TheVariants as next
use Rattle.report_reader.specs.declared.draft.Draft.{Draft}
use Rattle.report_reader.specs.declared.tables.Tables.{Tables}
use Rattle.report_reader.specs.Pieces.{lines_of}
use Rattle.report_reader.specs.Lines.{fresh, step}

abbrev pub is_head : Next → Bool
is_head next.Head = true
is_head next.Status = false
is_head next.Lower = false
is_head next.Upper = false
is_head next.Extra = false
is_head (next.Count kind) = false
is_head (next.Value kind left) = false
is_head next.End = false

-- the reports that are done behind a line, where the one that it stands in may be done
abbrev pub done_behind : List Report → Draft → List Report
done_behind done draft = pick (is_head draft.next) (done ++ draft.report ∷ []) done

-- and the report that is read on
abbrev pub draft_behind : List Report → Draft → Draft
draft_behind done draft = pick (is_head draft.next) (fresh (length done + 2)) draft

abbrev pub refusal : {X : Type 0} → ℕ → Cause → Result X Refusal
refusal number c = Err (record { line = number; cause = c })

-- the text ends in a line, or in a report that is cut off
abbrev pub finish : List Report → Draft → ℕ → List ℕ → Result (List Report) Refusal
finish done draft number [] = pick (is_head draft.next) (Ok done) (refusal number cause.ReportBad)
finish done draft number (byte ∷ rest) = refusal number cause.ReportBad

-- what the lines say from one on that has this number; the first that is refused is named
abbrev pub reads : Tables → List Report → Draft → ℕ → List (List ℕ) → List ℕ → Result (List Report) Refusal
reads tables done draft number [] rest = finish done draft number rest
reads tables done draft number (line ∷ lines) rest =
    on_line number (step tables draft line) (λ next. reads tables (done_behind done next) (draft_behind done next) (number + 1) lines rest)

-- the names of a program, and how many reports there may be
abbrev pub tables_of : ℕ → Program → Tables
tables_of most program = record { columns = column_names program.columns.items; rows = row_names program.rows.items; most = most }

-- the reports of a text with these names
abbrev pub read_text : Tables → List ℕ → Result (List Report) Refusal
read_text tables text = reads tables [] (fresh 1) 1 (lines_of text).ended (lines_of text).rest

-- The reports of a text, so many at most, with the names of the program; else the first line that isn't of the grammar, and why.
abbrev pub reports_of : ℕ → Program → List ℕ → Result (List Report) Refusal
reports_of most program text = read_text (tables_of most program) text

-- what a failed call says: the refusal
abbrev pub refusal_says : {X : Type 0} → ReadFail → Reply (Result X Refusal)
refusal_says (Refused r) = Says (Err r)
refusal_says Memory = Silent

-- what a failed call says of what is read
abbrev pub FailOf : {X : Type 0} → Result X Refusal → ReadFail → Type 0
FailOf read fail = IsReply read (refusal_says fail)

-- why the text isn't read because of a line
abbrev pub fail_at : ℕ → Fault → ReadFail
fail_at number (fault.Refused c) = Refused (record { line = number; cause = c })
fail_at number fault.Memory = Memory
