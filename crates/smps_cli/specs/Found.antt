-- What was found, as text.
use Rattle.std.specs.Prelude.{ℕ, List, []}
use Rattle.std.specs.List.{flat_map}
use Rattle.scen_defs.specs.Program.{content}
use Rattle.report_text.specs.Shown.{program_text}
use Rattle.script_checks.specs.Checked.{line_of}
use Rattle.smps_cli.specs.declared.found.Found.{Found}
use Rattle.smps_cli.specs.declared.found.Found.TheVariants.{Reports, Checks, Table, Unproved, Lacking, Shown, Flat, Measures, Summary, Page}
use Rattle.smps_cli.specs.declared.found.Found.TheVariants.{Nothing, Together, MeasuredTogether, WithoutBasis}
use Rattle.value_measures.specs.Text.{measures_text}
use Rattle.smps_cli.specs.Solved.{told_text}
use Rattle.smps_cli.specs.Makes.{summary_text}

-- the whole output
abbrev pub found_text : Found → List ℕ
found_text (Reports tolds) = flat_map told_text tolds.items
found_text (Together tolds) = flat_map told_text tolds.items
found_text (WithoutBasis tolds) = flat_map told_text tolds.items
found_text (Checks c) = flat_map line_of c.checks.items
found_text (Table page) = page.items
found_text (Unproved check) = []
found_text (Lacking lack) = lack.line.items
found_text (Shown program) = program_text (content program)
found_text (Flat text) = text.items
found_text (Measures m) = measures_text m
found_text (MeasuredTogether m) = measures_text m
found_text (Summary s) = summary_text s.plan s.program s.report
found_text (Page text) = text.items
found_text (Nothing line) = line.items
