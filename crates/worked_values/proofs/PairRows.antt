-- The rows of BoundPairs, computed.
use Rattle.std.proofs.Common.{refl}
use Rattle.rationals.specs.Rational.{◌÷◌, ◌+ℚ◌, neg_ℚ, zero_ℚ, reduce, smaller, divides, nat_divides}
use Rattle.worked_values.specs.BoundPairs.{BoundPairsAreAsDocumented}

pub bound_pairs : BoundPairsAreAsDocumented
unfolding ◌÷◌ ◌+ℚ◌ neg_ℚ zero_ℚ reduce smaller divides nat_divides
bound_pairs = record {
  lo_lo = refl;
  up_lo = refl;
  fx_lo = refl;
  fr_lo = refl;
  mi_lo = refl;
  pl_lo = refl;
  lo_up = refl;
  up_up = refl;
  fx_up = refl;
  fr_up = refl;
  mi_up = refl;
  pl_up = refl;
  lo_fx = refl;
  up_fx = refl;
  fx_fx = refl;
  fr_fx = refl;
  mi_fx = refl;
  pl_fx = refl;
  lo_fr = refl;
  up_fr = refl;
  fx_fr = refl;
  fr_fr = refl;
  mi_fr = refl;
  pl_fr = refl;
  lo_mi = refl;
  up_mi = refl;
  fx_mi = refl;
  fr_mi = refl;
  mi_mi = refl;
  pl_mi = refl;
  lo_pl = refl;
  up_pl = refl;
  fx_pl = refl;
  fr_pl = refl;
  mi_pl = refl;
  pl_pl = refl;
}
