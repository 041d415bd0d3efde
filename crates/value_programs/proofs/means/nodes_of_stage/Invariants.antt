use Rattle.std.proofs.Common.{◌≡◌, ◌++◌, drop}
use Rattle.scen_defs.specs.Lists.{places}
use Rattle.scen_defs.specs.Program.{nodes_content}
use Rattle.value_programs.specs.Mean.{is_of_stage, nodes_of_stage}
use Rattle.value_programs.proofs.means.nodes_of_stage.Given as goal

abbrev pub invariant-loop-number : goal.invariant-loop-number
invariant-loop-number l = l.all.items ++ places (is_of_stage l.stage) l.number (nodes_content (drop l.number l.nodes)) ≡ nodes_of_stage (nodes_content l.nodes) l.stage
