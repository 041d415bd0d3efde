-- What the rows of three kinds of a program over places mean, and what the ends of the path of their standard form show.
use Rattle.std.specs.Prelude.{◌≡◌, ℕ, List, [], ◌++◌, Ok}
use Rattle.rationals.specs.Rational.{ℚ}
use Rattle.rationals.specs.Sparse.{Entry}
use Rattle.lp_defs.specs.Certificates as lp_shows
use Rattle.slack_form.specs.declared.limits.Limit.{Limit}
use Rattle.slack_form.specs.declared.limits.Limits.{Limits}
use Rattle.slack_form.specs.Standard.{standard_of, signed}
use Rattle.scen_defs.specs.declared.program.NodeRow.{NodeRow}
use Rattle.cut_defs.specs.declared.datum.ColumnBounds.{ColumnBounds}
use Rattle.interval_form.specs.declared.part.Part.{Part}
use Rattle.interval_form.specs.Rows.{own_limits_from, bound_limits_from}
use Rattle.interval_form.specs.Spans.{span_limits, span_sums, bound_limits}
use Rattle.interval_form.specs.Trial.{spans_at}
use Rattle.interval_form.specs.Plain.{Plain, IsPlain, parts_of, IsWritten}
use Rattle.interval_form.specs.PlainShows.{IsPlainBest, IsPlainFarkas, IsPlainEndless}
use Rattle.interval_form.specs.Values.{place_value, place_move}

-- the walks give the rows of three kinds
pub record RowLaws : Type 0 where
  pub rows : (bs : List ColumnBounds) (parts : List Part) (trial : List Entry) (rows : List NodeRow) (all : List Limit)
      → own_limits_from bs parts trial [] rows ≡ Ok all → all ≡ span_limits parts (spans_at bs trial rows)
  pub bounds : (made : List Limit) (bs : List ColumnBounds) (all : List Limit)
      → bound_limits_from 0 made bs ≡ Ok all → all ≡ made ++ bound_limits 0 bs

pub record PlainLaws : Type 0 where
  -- an optimum makes a point, and multipliers that are worth what it costs
  pub best : (p : Plain) (limits : Limits) (x : ℕ → ℚ) (y : List ℚ) → IsPlain p → IsWritten p limits
      → lp_shows.IsOptimal (standard_of limits) x y → IsPlainBest p (place_value (parts_of p) x) (span_sums p.spans (signed limits y))
  -- an infeasible end makes multipliers that are worth more than 0 where all costs are 0
  pub farkas : (p : Plain) (limits : Limits) (y : List ℚ) → IsPlain p → IsWritten p limits
      → lp_shows.IsInfeasible (standard_of limits) y → IsPlainFarkas p (span_sums p.spans (signed limits y))
  -- an unbounded end makes a point and a direction in which the cost falls
  pub endless : (p : Plain) (limits : Limits) (x d : ℕ → ℚ) → IsPlain p → IsWritten p limits
      → lp_shows.IsUnbounded (standard_of limits) x d → IsPlainEndless p (place_value (parts_of p) x) (place_move (parts_of p) d)
