-- Each list is empty.
use Rattle.std.proofs.Common.{◌≡◌, ◌≤◌, ◌-◌, ℕ, [], get_or, length, map}
use Rattle.smps_stoch.specs.View.{cases_in}
use Rattle.smps_stoch.proofs.finish.no_cases.Given as goal

abbrev pub invariant-loop-alloc : goal.invariant-loop-alloc
invariant-loop-alloc l = record {
  within : length l.all.items ≤ length l.stages;
  empty : (n : ℕ) → get_or (map cases_in l.all.items) n [] ≡ [];
}

abbrev pub decreases-loop-alloc : goal.decreases-loop-alloc
decreases-loop-alloc l = length l.stages - length l.all.items
