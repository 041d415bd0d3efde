use Rattle.std.proofs.Common.{◌≡◌, ◌++◌, drop}
use Rattle.rationals.specs.Passes.{then_value}
use Rattle.tail_risk.specs.TailWalk.{scaled_form_walk}
use Rattle.tail_risk.proofs.costs.scaled_terms.Given as goal

abbrev pub invariant-loop-term : goal.invariant-loop-term
invariant-loop-term l = then_value (λ r. l.all.items ++ r) (scaled_form_walk l.factor (drop l.term-index l.terms)) ≡ scaled_form_walk l.factor l.terms
