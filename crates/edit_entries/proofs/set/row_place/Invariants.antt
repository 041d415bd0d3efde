use Rattle.std.proofs.Common.{drop, map}
use Rattle.scen_defs.specs.Lists.{Once}
use Rattle.scen_defs.specs.declared.program.NodeRow.{NodeRow}
use Rattle.edit_entries.proofs.set.row_place.Given as goal

abbrev pub invariant-loop-place : goal.invariant-loop-place
invariant-loop-place l = Once l.row (map (λ (r : NodeRow). r.row) (drop l.place l.rows))
