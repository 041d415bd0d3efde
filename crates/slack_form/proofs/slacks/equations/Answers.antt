use Rattle.std.proofs.Common.{arith}
use Rattle.slack_form.proofs.Equations.{form_below_more, below_at}
use Rattle.slack_form.proofs.slacks.equations.Goals as goal

pub equation-requires : goal.equation-requires
equation-requires c = form_below_more c.args.columns c.loop-row.slack c.row-item.result.entries (omega arith)
    (below_at c.args.columns c.loop-row.row-index c.args.rows.now c.row-item.result (omega arith) c.row-item.is c.loop-row.invariant.3)
