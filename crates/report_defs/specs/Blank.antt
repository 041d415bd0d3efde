-- A report of which nothing is known.
use Rattle.std.specs.Prelude.{ℕ, None}
use Rattle.scen_defs.specs.declared.report.Finding.{Finding}
use Rattle.scen_defs.specs.declared.report.Report.{Report}

-- a report without ends and lists
abbrev pub blank_report : ℕ → ℕ → ℕ → Finding → Report
blank_report number nodes scenarios finding = record {
  number = number;
  nodes = nodes;
  scenarios = scenarios;
  finding = finding;
  lower = None;
  upper = None;
  extra = None;
  policy = None;
  direction = None;
  dual = None;
  ray = None;
}
