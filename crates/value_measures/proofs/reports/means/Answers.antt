use Rattle.std.proofs.Common.{arith}
use Rattle.scen_defs.proofs.Contents.{nodes_length}
use Rattle.value_measures.proofs.reports.means.Goals as goal

pub of-requires : goal.of-requires
of-requires c = omega (arith, c.requires, nodes_length c.args.program.now.nodes.items)
