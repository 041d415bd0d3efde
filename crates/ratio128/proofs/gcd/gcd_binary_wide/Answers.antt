use Rattle.std.proofs.Common.{arith}
use Rattle.std.specs.Int.{w128}
use Rattle.rationals.proofs.GcdLemmas.{gcd_by_twos, odd_part}
use Rattle.ratio128.proofs.gcd.gcd_binary_wide.Goals as goal

pub returns : goal.returns
returns c = gcd_by_twos w128 c.args.a c.args.b _ _ c.requires.first (omega arith) c.requires.second (omega arith) c.gcd_odd_wide.ensures c.min.ensures

pub gcd_odd_wide-requires-clause-first : goal.gcd_odd_wide-requires-clause-first
gcd_odd_wide-requires-clause-first c = odd_part w128 c.args.a c.requires.first (omega arith)

pub gcd_odd_wide-requires-clause-second : goal.gcd_odd_wide-requires-clause-second
gcd_odd_wide-requires-clause-second c = odd_part w128 c.args.b c.requires.second (omega arith)
