use Rattle.std.proofs.Common.{drop}
use Rattle.rationals.specs.Rational.{zero_ℚ}
use Rattle.scen_defs.specs.Values.{at}
use Rattle.rounded_ends.specs.Runs.{Runs}
use Rattle.rounded_ends.proofs.RunLemmas.{Free, part}
use Rattle.rounded_ends.proofs.costs.node_cost.Given as goal

abbrev pub invariant-loop-term : goal.invariant-loop-term
invariant-loop-term l = Runs l.side Free (part (at l.values l.node)) zero_ℚ l.costs l.sum (drop l.term-index l.costs)
