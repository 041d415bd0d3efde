use Rattle.std.proofs.Common.{◌≡◌}
use Rattle.scen_defs.specs.Program.{content, view_of}
use Rattle.scen_model.specs.Walks.{fold_walk}
use Rattle.scen_model.specs.Gathered.{lists_in, column_number, columns_with}
use Rattle.scen_model.proofs.NodeSteps.{live_from}
use Rattle.scen_model.proofs.quick.add_all_reduced.Given as goal

abbrev pub invariant-loop-place : goal.invariant-loop-place
invariant-loop-place l =
    let v = view_of (content l.program) in
    fold_walk (λ s n. columns_with v (column_number (lists_in l.numbers) l.seats n) s n) l.sum (live_from l.place l.program.nodes.items)
    ≡ fold_walk (λ s n. columns_with v (column_number (lists_in l.numbers) l.seats n) s n) l.fn.start v.live
