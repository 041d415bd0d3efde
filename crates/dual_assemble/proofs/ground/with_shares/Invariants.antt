use Rattle.std.proofs.Common.{◌≡◌, drop}
use Rattle.cut_defs.specs.Stored.StoredUses.{No_stored}
use Rattle.cut_proof.specs.View.{uses_content}
use Rattle.dual_assemble.specs.Ground.{uses_of_children}
use Rattle.dual_assemble.proofs.ground.with_shares.Given as goal

abbrev pub invariant-loop-place : goal.invariant-loop-place
invariant-loop-place l = uses_of_children (uses_content l.used.items) (drop l.place l.shares) (drop l.place l.children) ≡ uses_of_children No_stored l.shares l.children
