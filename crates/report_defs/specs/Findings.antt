-- What a finding says of the parts of its report.
use Rattle.std.specs.Prelude.{◌≡◌, Bool, true, false, List, Some, None}
use Rattle.rationals.specs.Rational.{ℚ}
use Rattle.scen_defs.specs.Values.{At}
use Rattle.scen_defs.specs.Program.{View}
use Rattle.scen_defs.specs.declared.report.Finding.{Finding}
use Rattle.scen_defs.specs.declared.report.Finding.TheVariants.{Infeasible, Unbounded}
use Rattle.scen_defs.specs.declared.report.Report.{Report}
use Rattle.report_defs.specs.Shows.{ShowsSlope, ShowsNothing}

-- both ends are there, and equal
pub record IsOptimal (report : Report) : Type 0 where
  pub cost : ℚ
  pub lower : report.lower ≡ Some cost
  pub upper : report.upper ≡ Some cost

-- the upper end and the direction are there
pub record IsUnbounded (v : View) (report : Report) : Type 0 where
  pub upper : ℚ
  pub upper_is : report.upper ≡ Some upper
  pub lower_is : report.lower ≡ None
  pub slope : ℚ
  pub slope_is : report.extra ≡ Some slope
  pub direction : List At
  pub direction_is : report.direction ≡ Some direction
  pub shows : ShowsSlope v slope direction

-- neither end is there, and the ray and its value are
pub record IsInfeasible (v : View) (report : Report) : Type 0 where
  pub lower_is : report.lower ≡ None
  pub upper_is : report.upper ≡ None
  pub value : ℚ
  pub value_is : report.extra ≡ Some value
  pub ray : List At
  pub ray_is : report.ray ≡ Some ray
  pub shows : ShowsNothing v value ray

-- ---- which parts a finding has

-- a ray shows INFEASIBLE
abbrev pub has_ray : Finding → Bool
has_ray Infeasible = true
has_ray finding = false

-- a direction shows UNBOUNDED
abbrev pub has_direction : Finding → Bool
has_direction Unbounded = true
has_direction finding = false

-- the value of the ray, the cost of the direction
abbrev pub has_extra : Finding → Bool
has_extra Infeasible = true
has_extra Unbounded = true
has_extra finding = false
