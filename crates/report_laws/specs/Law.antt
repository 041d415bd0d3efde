-- The printed text of reports is read again as the same reports.
use Rattle.std.specs.Prelude.{◌≡◌, ℕ, ◌<◌, ◌≤◌, ◌^◌, List, length, Ok}
use Rattle.std.specs.List.{flat_map}
use Rattle.scen_defs.specs.Valid.{AreNames}
use Rattle.scen_defs.specs.declared.program.Program.{Program}
use Rattle.scen_defs.specs.declared.report.Report.{Report}
use Rattle.scen_defs.specs.Names.{column_names, row_names}
use Rattle.report_text.specs.Text.{report_text}
use Rattle.report_reader.specs.Reports.{reports_of}
use Rattle.report_laws.specs.Printable.{ArePrintable}

-- the names of columns differ, as do those of rows, and each is a field; the reports are numbered from 1 on
abbrev pub PrintedAreRead : Type 0
PrintedAreRead = (most : ℕ) (program : Program) (reports : List Report)
    → AreNames (column_names program.columns.items) → AreNames (row_names program.rows.items)
    → ArePrintable program 1 reports → length reports ≤ most → length reports < 2 ^ 32
    → reports_of most program (flat_map (report_text program) reports) ≡ Ok reports
