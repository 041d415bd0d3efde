use Rattle.pass_core.proofs.Desks.{begins_on}
use Rattle.pass_core.proofs.state.State.begin.Goals as goal

pub returns-clause-begins : goal.returns-clause-begins
returns-clause-begins c = λ p m i frame begun d free low.
    begins_on p c.args.self.now m c.args.worker i frame begun d free c.begin.new.self c.begin.result
    (c.begin.ensures.fits d.fits.flying d.fits.valid d.fits.fits free low)
