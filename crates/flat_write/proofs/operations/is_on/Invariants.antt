use Rattle.std.proofs.Common.{◌≡◌, drop}
use Rattle.scen_defs.specs.Lists.{is_in}
use Rattle.flat_write.proofs.operations.is_on.Given as goal

abbrev pub invariant-loop-place : goal.invariant-loop-place
invariant-loop-place l =
    is_in l.node (drop l.place-index l.path) ≡ is_in l.node l.path
