-- BOUNDS: each kind of line behind each: a line sets what it says over what earlier lines set.
use Rattle.std.specs.Prelude.{◌≡◌}
use Rattle.worked_values.specs.Told.{whole_ℚ}
use Rattle.worked_values.specs.BoundValues.{column_behind, bounded_by, at_least, up_to, unbounded}

pub record BoundPairsAreAsDocumented : Type 0 where
  -- LO sets the lower bound; the upper stays
  pub lo_lo : column_behind " LO BND A 4\n" " LO BND A 1" ≡ at_least (whole_ℚ 1)
  pub up_lo : column_behind " UP BND A 5\n" " LO BND A 1" ≡ bounded_by (whole_ℚ 1) (whole_ℚ 5)
  pub fx_lo : column_behind " FX BND A 2\n" " LO BND A 1" ≡ bounded_by (whole_ℚ 1) (whole_ℚ 2)
  pub fr_lo : column_behind " FR BND A\n" " LO BND A 1" ≡ at_least (whole_ℚ 1)
  pub mi_lo : column_behind " MI BND A\n" " LO BND A 1" ≡ at_least (whole_ℚ 1)
  pub pl_lo : column_behind " PL BND A\n" " LO BND A 1" ≡ at_least (whole_ℚ 1)
  -- UP sets the upper bound; the lower stays
  pub lo_up : column_behind " LO BND A 1\n" " UP BND A 5" ≡ bounded_by (whole_ℚ 1) (whole_ℚ 5)
  pub up_up : column_behind " UP BND A 7\n" " UP BND A 5" ≡ bounded_by (whole_ℚ 0) (whole_ℚ 5)
  pub fx_up : column_behind " FX BND A 2\n" " UP BND A 5" ≡ bounded_by (whole_ℚ 2) (whole_ℚ 5)
  pub fr_up : column_behind " FR BND A\n" " UP BND A 5" ≡ up_to (whole_ℚ 5)
  pub mi_up : column_behind " MI BND A\n" " UP BND A 5" ≡ up_to (whole_ℚ 5)
  pub pl_up : column_behind " PL BND A\n" " UP BND A 5" ≡ bounded_by (whole_ℚ 0) (whole_ℚ 5)
  -- FX sets both
  pub lo_fx : column_behind " LO BND A 1\n" " FX BND A 2" ≡ bounded_by (whole_ℚ 2) (whole_ℚ 2)
  pub up_fx : column_behind " UP BND A 5\n" " FX BND A 2" ≡ bounded_by (whole_ℚ 2) (whole_ℚ 2)
  pub fx_fx : column_behind " FX BND A 3\n" " FX BND A 2" ≡ bounded_by (whole_ℚ 2) (whole_ℚ 2)
  pub fr_fx : column_behind " FR BND A\n" " FX BND A 2" ≡ bounded_by (whole_ℚ 2) (whole_ℚ 2)
  pub mi_fx : column_behind " MI BND A\n" " FX BND A 2" ≡ bounded_by (whole_ℚ 2) (whole_ℚ 2)
  pub pl_fx : column_behind " PL BND A\n" " FX BND A 2" ≡ bounded_by (whole_ℚ 2) (whole_ℚ 2)
  -- FR removes both
  pub lo_fr : column_behind " LO BND A 1\n" " FR BND A" ≡ unbounded
  pub up_fr : column_behind " UP BND A 5\n" " FR BND A" ≡ unbounded
  pub fx_fr : column_behind " FX BND A 2\n" " FR BND A" ≡ unbounded
  pub fr_fr : column_behind " FR BND A\n" " FR BND A" ≡ unbounded
  pub mi_fr : column_behind " MI BND A\n" " FR BND A" ≡ unbounded
  pub pl_fr : column_behind " PL BND A\n" " FR BND A" ≡ unbounded
  -- MI removes the lower bound; the upper stays
  pub lo_mi : column_behind " LO BND A 1\n" " MI BND A" ≡ unbounded
  pub up_mi : column_behind " UP BND A 5\n" " MI BND A" ≡ up_to (whole_ℚ 5)
  pub fx_mi : column_behind " FX BND A 2\n" " MI BND A" ≡ up_to (whole_ℚ 2)
  pub fr_mi : column_behind " FR BND A\n" " MI BND A" ≡ unbounded
  pub mi_mi : column_behind " MI BND A\n" " MI BND A" ≡ unbounded
  pub pl_mi : column_behind " PL BND A\n" " MI BND A" ≡ unbounded
  -- PL removes the upper bound; the lower stays
  pub lo_pl : column_behind " LO BND A 1\n" " PL BND A" ≡ at_least (whole_ℚ 1)
  pub up_pl : column_behind " UP BND A 5\n" " PL BND A" ≡ at_least (whole_ℚ 0)
  pub fx_pl : column_behind " FX BND A 2\n" " PL BND A" ≡ at_least (whole_ℚ 2)
  pub fr_pl : column_behind " FR BND A\n" " PL BND A" ≡ unbounded
  pub mi_pl : column_behind " MI BND A\n" " PL BND A" ≡ unbounded
  pub pl_pl : column_behind " PL BND A\n" " PL BND A" ≡ at_least (whole_ℚ 0)
