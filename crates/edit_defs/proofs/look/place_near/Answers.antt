use Rattle.std.proofs.Common.{sym}
use Rattle.scen_defs.specs.Program.{scenarios_content}
use Rattle.edit_defs.proofs.Finds.{known_there}
use Rattle.edit_defs.proofs.look.place_near.Goals as goal

pub returns-in-Some-clause-known : goal.returns-in-Some-clause-known
returns-in-Some-clause-known c = sym (known_there c.args.name.now (scenarios_content c.args.scenarios.now) c.in-Some.place c.in-Some.ensures.here)
