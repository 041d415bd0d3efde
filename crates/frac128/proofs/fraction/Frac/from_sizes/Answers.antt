use Rattle.std.proofs.Common.{sym}
use Rattle.ratio128.specs.Ratio.{signed}
use Rattle.frac128.proofs.Bridge.{lowest_value}
use Rattle.frac128.proofs.fraction.Frac.from_sizes.Goals as goal

pub returns : goal.returns
returns c = rw (c.from_parts.ensures, c.in-Some.ensures.1) (sym (lowest_value (signed c.args.is_negative c.args.num) c.args.den c.requires.above_zero))
