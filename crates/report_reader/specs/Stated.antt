-- Reports that a text states.
use Rattle.std.specs.Prelude.{◌≡◌, ℕ, is_some, List}
use Rattle.std.specs.List.{flat_map}
use Rattle.scen_defs.specs.Lists.{Each}
use Rattle.scen_defs.specs.declared.program.Program.{Program}
use Rattle.scen_defs.specs.declared.report.Report.{Report}
use Rattle.report_defs.specs.Findings.{has_direction, has_ray, has_extra}
use Rattle.report_text.specs.Text.{report_text}

-- each part stands there exactly where the ends and the finding ask for it
pub record HasParts (report : Report) : Type 0 where
  pub extra : is_some report.extra ≡ has_extra report.finding
  pub policy : is_some report.policy ≡ is_some report.upper
  pub direction : is_some report.direction ≡ has_direction report.finding
  pub dual : is_some report.dual ≡ is_some report.lower
  pub ray : is_some report.ray ≡ has_ray report.finding

-- The text is that of the reports, each of which has its parts.
pub record IsStated (program : Program) (text : List ℕ) (reports : List Report) : Type 0 where
  pub text_is : text ≡ flat_map (report_text program) reports
  pub parts : Each HasParts reports
