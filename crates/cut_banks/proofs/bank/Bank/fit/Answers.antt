use Rattle.cut_banks.proofs.Fitting.{fit_done}
use Rattle.cut_banks.proofs.bank.Bank.fit.Goals as goal

pub returns : goal.returns
returns c = fit_done c.args.nodes.now c.loop-index.index c.args.self.now c.loop-index.self c.loop-index-test.false c.loop-index.invariant.fitted
