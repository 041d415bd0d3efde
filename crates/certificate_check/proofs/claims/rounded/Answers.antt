use Rattle.std.proofs.Common.{inr, refl}
use Rattle.certificate_check.proofs.HoldsLemmas.{halted}
use Rattle.certificate_check.proofs.claims.rounded.Goals as goal

pub returns-in-Ok-true-clause-exact : goal.returns-in-Ok-true-clause-exact
returns-in-Ok-true-clause-exact c = inr (refl, (c.in-Passed.passed, halted _ c.args.halt c.in-Passed.place c.in-Passed.passed c.requires.halt c.in-Passed.is))
