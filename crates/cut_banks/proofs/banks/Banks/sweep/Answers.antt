use Rattle.std.proofs.lemmas.Result.{on_ok_weaker}
use Rattle.cut_banks.proofs.Sweeps.{sweeps_plain, sweeps_cone}
use Rattle.cut_banks.proofs.banks.Banks.sweep.Goals as goal

pub returns-in-Plain-clause-ok : goal.returns-in-Plain-clause-ok
returns-in-Plain-clause-ok c = on_ok_weaker c.sweep.result (λ e. sweeps_plain c.args.due.now c.args.self.now c.sweep.new.self c.in-Plain.is e) c.sweep.ensures.ok

pub returns-in-Cone-clause-ok : goal.returns-in-Cone-clause-ok
returns-in-Cone-clause-ok c = on_ok_weaker c.sweep-in-Cone.result (λ e. sweeps_cone c.args.due.now c.args.self.now c.sweep-in-Cone.new.self c.in-Cone.is e) c.sweep-in-Cone.ensures.ok
