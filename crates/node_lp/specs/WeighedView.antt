-- The multipliers and weights of the code as lists.
use Rattle.node_lp.specs.Weighed.{Weighed}
use Rattle.node_lp.specs.declared.found.Multipliers.TheInside.{Inside}

abbrev pub weighed : Inside → Weighed
weighed m = record { rows = m.rows; weights = m.weights.items }
