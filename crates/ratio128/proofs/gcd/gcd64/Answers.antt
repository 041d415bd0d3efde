use Rattle.std.proofs.Common.{sym}
use Rattle.rationals.proofs.GcdLemmas.{gcd-zero, zero-gcd}
use Rattle.ratio128.proofs.gcd.gcd64.Goals as goal

pub returns-then-a-eq0 : goal.returns-then-a-eq0
returns-then-a-eq0 c = rw c.if-a-eq0.true (sym (zero-gcd _))

pub returns-then-b-eq0 : goal.returns-then-b-eq0
returns-then-b-eq0 c = rw c.if-b-eq0.true (sym (gcd-zero _))
