use Rattle.std.proofs.Common.{drop}
use Rattle.scen_defs.specs.Program.{content, view_of}
use Rattle.scen_model.specs.Gathered.{lists_in, entries_from}
use Rattle.scen_model.proofs.Homes.{AllSame, home_walk}
use Rattle.scen_model.proofs.reduced.less_entries.Given as goal

abbrev pub invariant-loop-entry : goal.invariant-loop-entry
invariant-loop-entry l =
    let v = view_of (content l.program) in
    AllSame v l.program.columns.items l.seats (home_walk v l.node (entries_from l.multiplier)) (lists_in l.numbers) (drop l.entry-index l.entries) (lists_in l.initial.numbers) l.entries
