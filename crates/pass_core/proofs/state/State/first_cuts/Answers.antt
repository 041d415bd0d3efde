use Rattle.scen_defs.specs.Program.{content}
use Rattle.pass_core.proofs.FirstCuts.{fault_before, first_before}
use Rattle.pass_core.proofs.state.State.first_cuts.Goals as goal

pub returns-in-Ok-clause-faults : goal.returns-in-Ok-clause-faults
returns-in-Ok-clause-faults c = λ walk frame k.
    first_before (content c.args.program.now) c.args.tree.now c.args.self.now c.args.kind c.in-Ok.dual c.ground_cuts.result k
    c.in-Ok.ensures.dual (c.ground_cuts.ensures.faults walk frame)

pub returns-in-Err-clause-faults : goal.returns-in-Err-clause-faults
returns-in-Err-clause-faults c = λ walk frame k.
    fault_before (content c.args.program.now) c.args.tree.now c.args.self.now c.in-Err.fault c.in-Err.ensures.faults
