use Rattle.std.proofs.Common.{◌≡◌, drop}
use Rattle.cut_sums.specs.Checks.{costs_hold}
use Rattle.cut_sums.proofs.checks.costs_hold.Given as goal

abbrev pub invariant-loop-term : goal.invariant-loop-term
invariant-loop-term l = costs_hold l.bounds (drop l.term-index l.cost) ≡ costs_hold l.bounds l.cost
