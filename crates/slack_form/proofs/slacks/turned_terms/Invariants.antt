use Rattle.std.proofs.Common.{◌≡◌, ◌++◌, drop}
use Rattle.slack_form.specs.Standard.{turned_form}
use Rattle.slack_form.proofs.slacks.turned_terms.Given as goal

abbrev pub invariant-loop-entry : goal.invariant-loop-entry
invariant-loop-entry l = l.terms.items ++ turned_form l.is_turned (drop l.entry-index l.entries) ≡ turned_form l.is_turned l.entries
