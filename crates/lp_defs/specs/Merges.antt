-- The two ways in which sparse rows are put together.
use Rattle.std.specs.Prelude.{◌≡◌, List, [], Ok}
use Rattle.rationals.specs.Rational.{ℚ, neg_ℚ}
use Rattle.rationals.specs.Sparse.{Entry}
use Rattle.rationals.specs.Forms.{add_scaled_walk}
use Rattle.lp_defs.specs.Lines.{less_entries}

-- a row less f times another, and the row plus that multiple with the other sign: one comes to its end exactly where the other does, with
-- the same entries
pub record MergesAgree : Type 0 where
  pub less_is_added : (f : ℚ) (row other result : List Entry) → less_entries f row other [] ≡ Ok result
      → add_scaled_walk row (neg_ℚ f) other ≡ Ok result
  pub added_is_less : (f : ℚ) (row other result : List Entry) → add_scaled_walk row (neg_ℚ f) other ≡ Ok result
      → less_entries f row other [] ≡ Ok result
