use Rattle.std.proofs.Common.{sym}
use Rattle.proved_report.proofs.PassLemmas.{by_zero}
use Rattle.proved_report.proofs.open.is_wide_quotient.Goals as goal

pub returns-then-is_zero : goal.returns-then-is_zero
returns-then-is_zero c = sym (by_zero c.args.a c.args.b (c.is_zero.ensures.0 c.if-is_zero.true))
