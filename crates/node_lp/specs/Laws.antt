-- What the ends of the path of a node's program show.
use Rattle.std.specs.Prelude.{◌≡◌, ℕ, false, List, []}
use Rattle.rationals.specs.Rational.{ℚ}
use Rattle.lp_defs.specs.Certificates as lp_shows
use Rattle.slack_form.specs.declared.limits.Limits.{Limits}
use Rattle.slack_form.specs.Standard.{standard_of, signed}
use Rattle.interval_form.specs.Values.{place_value}
use Rattle.interval_form.specs.Plain.{IsPlain, parts_of, IsWritten}
use Rattle.node_lp.specs.Problem.{Problem, IsProblem}
use Rattle.node_lp.specs.Plain.{plain_of}
use Rattle.node_lp.specs.Records.{IsPointOf, ShowsNoPoint, HasNoLeast, cost_at}
use Rattle.node_lp.specs.Points.{point_of, costs_of, own_of, weights_of}
use Rattle.node_lp.specs.Cone.{IsHeld}

pub record NodeLaws : Type 0 where
  -- a node's program is one over places
  pub plain : (p : Problem) → IsProblem p → IsPlain (plain_of p)
  -- an optimum makes a point, and a good Bound record whose cut has the point's value at the trial
  pub point : (p : Problem) (limits : Limits) (x : ℕ → ℚ) (y : List ℚ) → IsProblem p → IsWritten (plain_of p) limits
      → lp_shows.IsOptimal (standard_of limits) x y
      → IsPointOf p (point_of p (place_value (parts_of (plain_of p)) x))
      (cost_at p (point_of p (place_value (parts_of (plain_of p)) x)) (costs_of p (place_value (parts_of (plain_of p)) x)))
      (own_of p (signed limits y)) (weights_of p (signed limits y))
  -- an infeasible end makes a good Ray record whose cut is above 0 at the trial
  pub no_point : (p : Problem) (limits : Limits) (y : List ℚ) → IsProblem p → IsWritten (plain_of p) limits
      → lp_shows.IsInfeasible (standard_of limits) y
      → ShowsNoPoint p (own_of p (signed limits y)) (weights_of p (signed limits y))
  -- an unbounded end says that there is no least cost
  pub loose : (p : Problem) (limits : Limits) (x d : ℕ → ℚ) → IsProblem p → IsWritten (plain_of p) limits
      → lp_shows.IsUnbounded (standard_of limits) x d → HasNoLeast p
  -- it never comes where nothing has a cost
  pub costless : (p : Problem) (limits : Limits) (x d : ℕ → ℚ) → IsProblem p → p.priced ≡ false → p.cost ≡ []
      → IsWritten (plain_of p) limits → lp_shows.IsUnbounded (standard_of limits) x d → ⊥
  -- and never where all own columns and all children's costs are bounded
  pub held : (p : Problem) (limits : Limits) (x d : ℕ → ℚ) → IsProblem p → IsHeld p → IsWritten (plain_of p) limits
      → lp_shows.IsUnbounded (standard_of limits) x d → ⊥
