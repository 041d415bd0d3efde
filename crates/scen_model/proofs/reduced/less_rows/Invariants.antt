use Rattle.std.proofs.Common.{drop}
use Rattle.scen_defs.specs.Values.{at}
use Rattle.scen_defs.specs.Program.{content, view_of}
use Rattle.scen_defs.specs.Walks.{less_from}
use Rattle.scen_model.specs.Gathered.{lists_in}
use Rattle.scen_model.proofs.Homes.{AllSame, home_walk}
use Rattle.scen_model.proofs.reduced.less_rows.Given as goal

abbrev pub invariant-loop-row : goal.invariant-loop-row
invariant-loop-row l =
    let v = view_of (content l.program) in
    AllSame v l.program.columns.items l.seats (home_walk v l.node (λ j. less_from j (at l.values l.node))) (lists_in l.numbers) (drop l.row-index l.rows) (lists_in l.initial.numbers) l.rows
