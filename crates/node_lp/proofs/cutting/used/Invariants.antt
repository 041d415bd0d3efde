use Rattle.std.proofs.Common.{◌≡◌, drop}
use Rattle.cut_proof.specs.View.{uses_content}
use Rattle.node_lp.specs.Stored.{stored_uses}
use Rattle.node_lp.specs.Uses.{uses_joined}
use Rattle.node_lp.proofs.cutting.used.Given as goal

abbrev pub invariant-loop-cut : goal.invariant-loop-cut
invariant-loop-cut l = uses_joined (uses_content l.used.items) (stored_uses l.left (drop l.cut-index l.cuts)) ≡ stored_uses l.weights l.cuts
