use Rattle.std.proofs.Common.{◌≡◌, [], drop}
use Rattle.scen_tree.specs.Chances.{shares_from, gathered_from}
use Rattle.scen_tree.proofs.shares.shares.Given as goal

abbrev pub invariant-loop-node : goal.invariant-loop-node
invariant-loop-node l = gathered_from l.shares.items (shares_from l.totals l.node (drop l.node l.positions)) ≡ gathered_from [] (shares_from l.totals 0 l.positions)
