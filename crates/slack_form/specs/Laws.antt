-- What the standard form of rows of three kinds says of the rows themselves.
use Rattle.std.specs.Prelude.{◌≡◌, ℕ, ◌<◌, List}
use Rattle.rationals.specs.Rational.{ℚ}
use Rattle.rationals.specs.Sums.{dot}
use Rattle.lp_defs.specs.Program as lp
use Rattle.lp_defs.specs.Certificates as lp_shows
use Rattle.slack_form.specs.declared.limits.Limits.{Limits}
use Rattle.slack_form.specs.Limits.{IsLimits}
use Rattle.slack_form.specs.Standard.{standard_of, signed}
use Rattle.slack_form.specs.Certificates.{IsPoint, IsRay, IsDual, IsFarkas, worth}

pub record SlackFormLaws : Type 0 where
  pub program : (limits : Limits) → IsLimits limits → lp.IsProgram (standard_of limits)
  -- both have one cost
  pub cost : (limits : Limits) → (standard_of limits).cost ≡ limits.cost
  -- a point of the equations is one of the rows
  pub point : (limits : Limits) (x : ℕ → ℚ) → IsLimits limits → lp_shows.IsFeasible (standard_of limits) x → IsPoint limits x
  -- and each point of the rows comes from one of the equations
  pub no_point_is_lost : (limits : Limits) (x : ℕ → ℚ) → IsLimits limits → IsPoint limits x
      → (z : ℕ → ℚ) × lp_shows.IsFeasible (standard_of limits) z × ((j : ℕ) → j < limits.columns → z j ≡ x j)
  pub ray : (limits : Limits) (d : ℕ → ℚ) → IsLimits limits → lp_shows.IsRay (standard_of limits) d → IsRay limits d
  -- multipliers of the equations, their signs undone, are multipliers of the rows
  pub dual : (limits : Limits) (duals : List ℚ) → IsLimits limits → lp_shows.IsDual (standard_of limits) duals
      → IsDual limits (signed limits duals)
  pub farkas : (limits : Limits) (duals : List ℚ) → IsLimits limits → lp_shows.IsInfeasible (standard_of limits) duals
      → IsFarkas limits (signed limits duals)
  -- and of equal worth
  pub worth : (limits : Limits) (duals : List ℚ) → worth limits (signed limits duals) ≡ dot duals (standard_of limits).right
