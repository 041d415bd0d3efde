use Rattle.std.proofs.Common.{◌≡◌, drop}
use Rattle.scen_defs.specs.Values.{at}
use Rattle.scen_defs.specs.Flat.{along}
use Rattle.scen_defs.specs.Program.{content, view_of}
use Rattle.scen_model.specs.Walks.{end_of, rows_test}
use Rattle.scen_model.proofs.feasibility.test_rows.Given as goal

abbrev pub invariant-loop-row : goal.invariant-loop-row
invariant-loop-row l =
    let x = along (view_of (content l.program)) (at l.values) l.node in
    rows_test (end_of l.ends) x (drop l.row-index l.rows) ≡ rows_test (end_of l.ends) x l.rows
