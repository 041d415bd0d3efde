use Rattle.std.proofs.Common.{List, subst}
use Rattle.rationals.specs.Sparse.{Entry}
use Rattle.scen_defs.specs.Program.{content, view_of}
use Rattle.scen_model.specs.Gathered.{AllMove, lists_in, if_home, entries_from}
use Rattle.scen_model.proofs.Homes.{row_moves, row_stays}
use Rattle.scen_model.proofs.reduced.less_row.Goals as goal

pub returns-then-is_zero : goal.returns-then-is_zero
returns-then-is_zero c =
    row_stays (view_of (content c.args.program.now)) c.args.program.now.columns.items c.args.seats.now c.args.node c.args.multiplier c.args.row.now.entries (lists_in c.args.numbers.now) (c.is_zero.ensures.0 c.if-is_zero.true)

pub returns : goal.returns
returns c =
    let v = view_of (content c.args.program.now) in
    row_moves v c.args.program.now.columns.items c.args.seats.now c.args.node c.args.multiplier c.args.row.now.entries (lists_in c.args.numbers.now) (lists_in c.less_entries.new.numbers) c.keeps_order.ensures.rises
    (subst (λ (es : List Entry). AllMove v c.args.program.now.columns.items c.args.seats.now (λ k j s. if_home v c.args.node k j s (entries_from c.args.multiplier j s es)) (lists_in c.args.numbers.now) (lists_in c.less_entries.new.numbers))
    c.terms.ensures c.in_ok-less_entries.ensures)
