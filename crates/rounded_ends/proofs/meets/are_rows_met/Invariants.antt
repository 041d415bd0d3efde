use Rattle.std.proofs.Common.{drop}
use Rattle.scen_defs.specs.Values.{at}
use Rattle.scen_defs.specs.Flat.{along}
use Rattle.scen_defs.specs.Program.{content, view_of}
use Rattle.rounded_ends.specs.Met.{RowsMet}
use Rattle.rounded_ends.proofs.meets.are_rows_met.Given as goal

abbrev pub invariant-loop-row : goal.invariant-loop-row
invariant-loop-row l =
    let x = along (view_of (content l.program)) (at l.values) l.node in
    RowsMet x (drop l.row-index l.rows) → RowsMet x l.rows
