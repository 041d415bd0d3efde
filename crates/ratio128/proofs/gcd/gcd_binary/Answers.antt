use Rattle.std.proofs.Common.{arith}
use Rattle.std.specs.Int.{w64}
use Rattle.rationals.proofs.GcdLemmas.{gcd_by_twos, odd_part}
use Rattle.ratio128.proofs.gcd.gcd_binary.Goals as goal

pub returns : goal.returns
returns c = gcd_by_twos w64 c.args.a c.args.b _ _ c.requires.first (omega arith) c.requires.second (omega arith) c.gcd_odd.ensures c.min.ensures

pub gcd_odd-requires-clause-first : goal.gcd_odd-requires-clause-first
gcd_odd-requires-clause-first c = odd_part w64 c.args.a c.requires.first (omega arith)

pub gcd_odd-requires-clause-second : goal.gcd_odd-requires-clause-second
gcd_odd-requires-clause-second c = odd_part w64 c.args.b c.requires.second (omega arith)
