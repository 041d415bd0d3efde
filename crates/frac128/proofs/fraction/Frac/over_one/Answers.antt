use Rattle.frac128.proofs.Bridge.{div_one}
use Rattle.frac128.proofs.fraction.Frac.over_one.Goals as goal

pub returns-clause-quotient : goal.returns-clause-quotient
returns-clause-quotient c = div_one c.args.self c.self.inside.num c.self.inside.den c.self.view_is c.self.invariant
