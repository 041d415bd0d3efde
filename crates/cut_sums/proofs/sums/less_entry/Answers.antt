use Rattle.rationals.specs.Sparse.{coefficient}
use Rattle.cut_sums.proofs.Steps.{unchanged}
use Rattle.cut_sums.proofs.sums.less_entry.Goals as goal

pub returns-then-is_zero : goal.returns-then-is_zero
returns-then-is_zero c = unchanged c.args.start c.args.entry (coefficient c.args.multipliers.now c.args.row) c.over_one.result
    c.over_one.ensures.same c.over_one.ensures.quotient (c.is_zero.ensures.0 c.if-is_zero.true)
