use Rattle.scen_defs.specs.Values.{at}
use Rattle.rationals.specs.Sparse.{product}
use Rattle.rounded_ends.proofs.RunLemmas.{factor_step}
use Rattle.rounded_ends.proofs.costs.add_node.Goals as goal

pub returns-in-Some : goal.returns-in-Some
returns-in-Some c =
    factor_step c.args.side c.args.total (product c.args.costs.now (at c.args.values.now c.args.node)) c.args.sum c.in-Some.cost c.side_of_factor.result c.add_times.result
    c.side_of_factor.ensures c.in-Some.ensures c.add_times.ensures
