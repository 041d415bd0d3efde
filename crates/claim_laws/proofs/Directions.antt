-- Points of the recession are feasible where each finite end is 0.
use Rattle.std.proofs.Common.{Option, Some, None}
use Rattle.rationals.specs.Rational.{ℚ, zero_ℚ, one_ℚ, neg_ℚ}
use Rattle.rationals.specs.Intervals.{AtLeast, AtMost, Between}
use Rattle.scen_defs.specs.Flat.{FeasibleAt, zero_end, with_zero_ends, recession}
use Rattle.scen_defs.proofs.SumLaws.{each-map}
use Rattle.claim_laws.specs.Laws.{RecessionPointsAreDirections}

above_zero_end : (low : Option ℚ) (x : ℚ) → AtLeast (Some (elim low [ None ↦ neg_ℚ one_ℚ | Some e ↦ zero_ℚ ])) x → AtLeast (zero_end low) x
above_zero_end None x h = tt
above_zero_end (Some e) x h = h

below_zero_end : (high : Option ℚ) (x : ℚ) → AtMost (Some (elim high [ None ↦ one_ℚ | Some e ↦ zero_ℚ ])) x → AtMost (zero_end high) x
below_zero_end None x h = tt
below_zero_end (Some e) x h = h

pub recession_points_are_directions : RecessionPointsAreDirections
recession_points_are_directions v d f h = record {
  feasible = each-map {Q = FeasibleAt (with_zero_ends v) d} (λ n (k : FeasibleAt (recession v) d n). record {
    rows = k.rows;
    bounds = each-map {Q = λ j. Between (zero_end (v.lower j)) (zero_end (v.upper j)) (d n j)} (λ j b. record {
      above = above_zero_end (v.lower j) (d n j) b.above;
      below = below_zero_end (v.upper j) (d n j) b.below;
    }) (v.columns (v.stage n)) k.bounds;
  }) v.live f;
  falls = h;
}
