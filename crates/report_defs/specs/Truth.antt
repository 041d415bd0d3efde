-- What makes a report of a program true, however it was found.
use Rattle.std.specs.Prelude.{◌≡◌, ℕ, length, is_some}
use Rattle.rationals.specs.Passes.{Operation}
use Rattle.scen_defs.specs.Program.{View}
use Rattle.scen_defs.specs.declared.report.Place.{Place}
use Rattle.scen_defs.specs.declared.report.Finding.{Finding}
use Rattle.scen_defs.specs.declared.report.Finding.TheVariants.{Optimal, Infeasible, Unbounded, OpenSolves, OpenPivots, OpenPassed}
use Rattle.scen_defs.specs.declared.report.Report.{Report}
use Rattle.report_defs.specs.Shows.{Together, ShowsLower, ShowsUpper}
use Rattle.report_defs.specs.Findings.{IsOptimal, IsUnbounded, IsInfeasible, has_direction, has_ray, has_extra}

-- The reasons for which a method leaves a report open: each method says for itself what they mean.
pub record Reasons : Type 1 where
  -- at this place the operation passes 128 bits
  pub passes : Place → Operation → Type 0
  -- a solve came to the end of its pivots; the number is that of the report
  pub pivots_end : ℕ → Type 0
  -- no more solves than so many were allowed
  pub solves_end : ℕ → Type 0

-- What a finding says: OPTIMAL, UNBOUNDED and INFEASIBLE of the program, OPEN by the reasons of the method.
abbrev pub Explains : View → Reasons → Report → Finding → Type 0
Explains v why report Optimal = IsOptimal report
Explains v why report Unbounded = IsUnbounded v report
Explains v why report Infeasible = IsInfeasible v report
Explains v why report (OpenSolves n) = why.solves_end n
Explains v why report (OpenPivots k) = why.pivots_end k
Explains v why report (OpenPassed place p) = why.passes place p

pub record IsTrue (v : View) (why : Reasons) (report : Report) : Type 0 where
  -- a lower end is there exactly with a dual, which shows it
  pub lower : Together (ShowsLower v) report.lower report.dual
  -- an upper end is there exactly with a policy, which shows it
  pub upper : Together (ShowsUpper v) report.upper report.policy
  -- OPTIMAL has equal ends, UNBOUNDED its direction, INFEASIBLE its ray; OPEN says why
  pub finding : Explains v why report report.finding
  -- a direction, a ray and their number stand there exactly where the finding has them
  pub direction : is_some report.direction ≡ has_direction report.finding
  pub ray : is_some report.ray ≡ has_ray report.finding
  pub extra : is_some report.extra ≡ has_extra report.finding

-- The report tells how many live nodes and scenarios the program has.
pub record HasCounts (v : View) (report : Report) : Type 0 where
  pub nodes : report.nodes ≡ length v.live
  pub scenarios : report.scenarios ≡ length v.scenarios
