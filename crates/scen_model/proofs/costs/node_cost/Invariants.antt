use Rattle.std.proofs.Common.{◌≡◌, drop}
use Rattle.rationals.specs.Rational.{zero_ℚ}
use Rattle.scen_defs.specs.Values.{at}
use Rattle.rationals.specs.Forms.{product_from}
use Rattle.scen_model.proofs.costs.node_cost.Given as goal

abbrev pub invariant-loop-term : goal.invariant-loop-term
invariant-loop-term l = product_from (at l.values l.node) l.sum (drop l.term-index l.costs) ≡ product_from (at l.values l.node) zero_ℚ l.costs
