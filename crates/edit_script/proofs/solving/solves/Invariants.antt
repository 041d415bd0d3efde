-- What is counted, and what is left to count.
use Rattle.std.proofs.Common.{◌≡◌, ◌+◌, ◌≤◌, length}
use Rattle.edit_script.specs.Solves.{solve_count}
use Rattle.edit_script.proofs.solving.solves.Given as goal

abbrev pub invariant-loop-rest : goal.invariant-loop-rest
invariant-loop-rest l = record {
  counted : l.solves + solve_count l.rest ≡ solve_count l.script.items.items;
  few : l.solves + length l.rest ≤ length l.script.items.items;
}

abbrev pub decreases-loop-rest : goal.decreases-loop-rest
decreases-loop-rest l = length l.rest
