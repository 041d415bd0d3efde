use Rattle.std.proofs.Common.{drop}
use Rattle.cut_proof.specs.View.{uses_content}
use Rattle.cut_sums.specs.Tallies.{UsesAscend}
use Rattle.cut_proof.proofs.gathered.keep_use_orders.Given as goal

abbrev pub invariant-loop-one : goal.invariant-loop-one
invariant-loop-one l = UsesAscend (uses_content (drop l.one-index l.used)) → UsesAscend (uses_content l.used)
