use Rattle.edit_defs.proofs.Finds.{Goes}
use Rattle.edit_defs.proofs.look.place_anywhere.Given as goal

abbrev pub invariant-loop-place : goal.invariant-loop-place
invariant-loop-place l = Goes l.name l.scenarios l.place
