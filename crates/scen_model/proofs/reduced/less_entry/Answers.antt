use Rattle.std.proofs.Common.{get_or, subst}
use Rattle.rationals.specs.Sparse.{Entry}
use Rattle.scen_defs.specs.Program.{content, view_of}
use Rattle.scen_model.specs.Gathered.{lists_in, if_home, entry_from, AllMove}
use Rattle.scen_model.proofs.Homes.{entry_moves}
use Rattle.scen_model.proofs.reduced.less_entry.Goals as goal

pub returns : goal.returns
returns c =
    let p = c.args.program.now in
    subst (λ (e : Entry). AllMove (view_of (content p)) p.columns.items c.args.seats.now (λ k j s. if_home (view_of (content p)) c.args.node k j s (entry_from e c.args.multiplier j s)) (lists_in c.args.numbers.now) (lists_in c.less_in.new.numbers)) c.entry.view_is
    (entry_moves p c.args.seats.now c.args.node (get_or c.args.stages.now c.entry.inside.column 0) c.in_ok-at.at c.seat_at-seat.result _ c.args.multiplier (lists_in c.args.numbers.now) (lists_in c.less_in.new.numbers)
    c.requires.apart (c.requires.stages c.entry.inside.column c.if-place-stages.false) c.in_ok-at.ensures c.seat_at-seat.ensures c.in_ok-less_in.ensures)
