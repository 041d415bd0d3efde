use Rattle.std.proofs.Common.{◌≡◌, drop}
use Rattle.simplex_core.specs.Checks.{none_negative}
use Rattle.simplex_core.proofs.standard.are_not_negative.Given as goal

abbrev pub invariant-loop-value : goal.invariant-loop-value
invariant-loop-value l = none_negative (drop l.value-index l.values) ≡ none_negative l.values
