use Rattle.std.proofs.Common.{◌≡◌, None, replicate}
use Rattle.found_ends.proofs.last.Lasts.none.Given as goal

abbrev pub invariant-loop : goal.invariant-loop
invariant-loop l = l.all.items ≡ replicate l.counter None
