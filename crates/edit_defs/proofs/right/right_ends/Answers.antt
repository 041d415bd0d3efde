use Rattle.std.proofs.Common.{◌≡◌, IfOk, sym, subst}
use Rattle.scen_defs.specs.declared.program.Row.{Row}
use Rattle.edit_defs.specs.Intervals.{right_side, right_walk}
use Rattle.edit_defs.proofs.IntervalLaws.{right-is}
use Rattle.edit_defs.proofs.RowReads.{row_read}
use Rattle.edit_defs.proofs.right.right_ends.Goals as goal

pub returns-clause-walk : goal.returns-clause-walk
returns-clause-walk c = subst (λ (r : Row). c.interval.result ≡ right_walk r c.args.rhs)
    (sym (row_read c.args.rows.now c.args.row c.index-rows-row.result c.requires c.index-rows-row.is)) c.interval.ensures

pub returns-clause-ends : goal.returns-clause-ends
returns-clause-ends c = subst (λ (r : Row). IfOk c.interval.result (λ ends. ends ≡ right_side r c.args.rhs))
    (sym (row_read c.args.rows.now c.args.row c.index-rows-row.result c.requires c.index-rows-row.is))
    (right-is c.index-rows-row.result c.args.rhs c.interval.result c.interval.ensures)
