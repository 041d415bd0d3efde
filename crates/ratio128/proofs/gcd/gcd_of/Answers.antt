use Rattle.std.proofs.Common.{sym, ◌∙◌}
use Rattle.rationals.proofs.GcdLemmas.{one-gcd, gcd-one, same_gcd, gcd-zero, zero-gcd, gcd-mod, gcd_comm}
use Rattle.ratio128.proofs.gcd.gcd_of.Goals as goal

pub returns-then-a-eq0 : goal.returns-then-a-eq0
returns-then-a-eq0 c = rw c.if-a-eq0.true (sym (zero-gcd _))

pub returns-then-b-eq0 : goal.returns-then-b-eq0
returns-then-b-eq0 c = rw c.if-b-eq0.true (sym (gcd-zero _))

pub returns-else-b-le-LOW : goal.returns-else-b-le-LOW
returns-else-b-le-LOW c = c.gcd64.ensures ∙ sym (gcd-mod _ _) ∙ gcd_comm _ _

pub returns-then-b-le-LOW-2 : goal.returns-then-b-le-LOW-2
returns-then-b-le-LOW-2 c = c.gcd64-then-b-le-LOW-2.ensures ∙ sym (gcd-mod _ _)

pub returns-then-a-eq1 : goal.returns-then-a-eq1
returns-then-a-eq1 c = rw c.if-a-eq1.true (sym (one-gcd _))

pub returns-then-b-eq1 : goal.returns-then-b-eq1
returns-then-b-eq1 c = rw c.if-b-eq1.true (sym (gcd-one _))

pub returns-then-a-b : goal.returns-then-a-b
returns-then-a-b c = sym (same_gcd _ _ c.if-a-b.true)
