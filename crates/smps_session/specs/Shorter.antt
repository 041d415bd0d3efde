-- A report of INFEASIBLE by fewer lines.
use Rattle.std.specs.Prelude.{◌≡◌, ◌⊎◌, ◌<◌, ℕ, Bool, true, List, Option, Some, None, length}
use Rattle.scen_defs.specs.Values.{At}
use Rattle.scen_defs.specs.declared.program.Program.{Program}
use Rattle.scen_defs.specs.declared.report.Report.{Report}
use Rattle.report_defs.specs.Findings.{has_ray}
use Rattle.smps_session.specs.declared.whole.StatedLimits.{StatedLimits}
use Rattle.smps_session.specs.Whole.{IsOwnOrWhole}

-- how many lines a ray has
abbrev pub line_count : Option (List At) → ℕ
line_count None = 0
line_count (Some ray) = length ray

-- both reports are INFEASIBLE, and the second one's ray has fewer lines
pub record IsShorter (found tested : Report) : Type 0 where
  pub infeasible : has_ray found.finding ≡ true
  pub so : has_ray tested.finding ≡ true
  pub fewer : line_count tested.ray < line_count found.ray

-- What was found is INFEASIBLE, and the report is the same but for a ray with fewer lines, and for what that is worth.
pub record HasShorterRay (found report : Report) : Type 0 where
  pub infeasible : has_ray found.finding ≡ true
  pub same : report ≡ record found { extra = report.extra; ray = report.ray }
  pub fewer : line_count report.ray < line_count found.ray

-- What is printed is the report that was found, the method's own one or one of the whole program, or it has a shorter ray than that.
pub record IsPrinted (by_whole : Bool) (stated : StatedLimits) (program : Program) (own report : Report) : Type 0 where
  pub found : Report
  pub whole : IsOwnOrWhole by_whole stated program own found
  pub ray : (report ≡ found) ⊎ HasShorterRay found report
