use Rattle.cut_sums.proofs.TallyLaws.{on_ok, row_moves, row_stays}
use Rattle.cut_sums.proofs.gathered.less_row.Goals as goal

pub returns-then-is_zero-clause-moved : goal.returns-then-is_zero-clause-moved
returns-then-is_zero-clause-moved c = row_stays c.args.multiplier c.args.row.now.entries c.args.tally.now (c.is_zero.ensures.0 c.if-is_zero.true)

pub returns-clause-moved : goal.returns-clause-moved
returns-clause-moved c = on_ok c.add_form.result (row_moves c.neg.result c.args.multiplier c.args.row.now.entries c.args.tally.now c.add_form.new.tally c.neg.ensures) c.add_form.ensures.moved
