-- What is left goes behind the cases that the blocks have.
use Rattle.std.proofs.Common.{◌≡◌, ◌<◌, ◌++◌, ℕ, [], get_or, length, map}
use Rattle.stoch_defs.specs.Finish.{own}
use Rattle.stoch_defs.specs.Random.{case_content}
use Rattle.smps_stoch.specs.View.{cases_in}
use Rattle.smps_stoch.proofs.finish.by_block.Given as goal

abbrev pub invariant-loop-case : goal.invariant-loop-case
invariant-loop-case l = record {
  count : length l.all.items ≡ length l.stages;
  cases : (n : ℕ) → n < length l.stages →
      get_or (map cases_in l.all.items) n [] ++ own n l.rest (map case_content l.case-iterator.rest.items) ≡ own n l.heads (cases_in l.fn.cases);
}
