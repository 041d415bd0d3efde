use Rattle.std.proofs.Common.{refl}
use Rattle.pass_core.proofs.Tabling.{closed_tabled}
use Rattle.pass_core.proofs.state.State.close.Goals as goal

pub returns-clause-tabled : goal.returns-clause-tabled
returns-clause-tabled c = λ p m h. closed_tabled p m c.args.self.now _ h refl
