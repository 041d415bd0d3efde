use Rattle.edit_entries.proofs.Entries.{Splits}
use Rattle.edit_entries.proofs.entry.before.Given as goal

abbrev pub invariant-loop-place : goal.invariant-loop-place
invariant-loop-place l = Splits l.column l.terms l.place
