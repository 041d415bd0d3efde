use Rattle.std.proofs.Common.{ap}
use Rattle.pass_core.specs.declared.state.State.{State}
use Rattle.pass_core.proofs.Tabling.{drop_by}
use Rattle.pass_core.proofs.state.State.left_open.Goals as goal

pub returns-clause-drops : goal.returns-clause-drops
returns-clause-drops c = drop_by c.args.worker c.args.self.now.table c.stop_at.new.self.table c.forget.new.self (ap (λ (s : State). s.table) c.stop_at.ensures) c.forget.ensures.fits
