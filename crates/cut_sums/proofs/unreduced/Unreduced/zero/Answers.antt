use Rattle.std.proofs.Common.{refl}
use Rattle.rationals.specs.Rational.{zero_ℚ}
use Rattle.cut_sums.proofs.unreduced.Unreduced.zero.Goals as goal

pub returns : goal.returns
unfolding zero_ℚ
returns c = refl
