use Rattle.std.proofs.Common.{◌≡◌, ℕ, ◌<◌, Some, None, slice_index_or}
use Rattle.pass_table.specs.declared.table.Underway.{Underway}
use Rattle.pass_table.proofs.flights.is_under_way.Given as goal

abbrev pub invariant-loop-flight : goal.invariant-loop-flight
invariant-loop-flight l = (w : ℕ) (u : Underway) → w < l.flight-index → slice_index_or l.flights w None ≡ Some u → u.run ≡ l.run → ⊥
