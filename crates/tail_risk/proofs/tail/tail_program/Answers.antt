use Rattle.scen_defs.specs.Program.{content}
use Rattle.tail_risk.proofs.Parts.{walk_is}
use Rattle.tail_risk.proofs.tail.tail_program.Goals as goal

pub returns-clause-program : goal.returns-clause-program
returns-clause-program c = walk_is (content c.args.program.now) c.args.level c.args.weight (content c.in_ok-made.made) c.in_ok-made.ensures
