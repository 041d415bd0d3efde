-- The rows of LineValues, computed.
use Rattle.std.proofs.Common.{refl}
use Rattle.rationals.specs.Rational.{◌÷◌, ◌+ℚ◌, neg_ℚ, zero_ℚ, reduce, smaller, divides, nat_divides}
use Rattle.worked_values.specs.LineValues.{LinesAreAsDocumented}

pub lines : LinesAreAsDocumented
unfolding ◌÷◌ ◌+ℚ◌ neg_ℚ zero_ℚ reduce smaller divides nat_divides
lines = record {
  two = refl;
  ended = refl;
  empty_between = refl;
  no_text = refl;
  fields = refl;
  any_field = refl;
  blanks_alone = refl;
  comment = refl;
  star_alone = refl;
  star_behind_blank = refl;
  blank_line = refl;
  empty_line = refl;
  header_kept = refl;
  data_kept = refl;
  header = refl;
  behind_space = refl;
  behind_tab = refl;
  behind_return = refl;
  numbered = refl;
  behind_last = refl;
}
