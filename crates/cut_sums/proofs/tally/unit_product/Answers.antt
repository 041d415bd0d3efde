use Rattle.std.proofs.Common.{sym, ◌∙◌}
use Rattle.cut_sums.proofs.TallyLaws.{times_one, one_times, times_minus_one}
use Rattle.cut_sums.proofs.tally.unit_product.Goals as goal

pub returns-then-is_one : goal.returns-then-is_one
returns-then-is_one c = one_times c.args.a c.args.b (c.is_one.ensures.0 c.if-is_one.true)

pub returns-then-is_one-2 : goal.returns-then-is_one-2
returns-then-is_one-2 c = times_one c.args.a c.args.b (c.is_one-else-is_one.ensures.0 c.if-is_one-2.true)

pub returns-then-is_one-3 : goal.returns-then-is_one-3
returns-then-is_one-3 c = c.neg-then-is_one-3.ensures ∙ times_minus_one c.args.a c.args.b (sym c.neg.ensures ∙ c.is_one-else-is_one-2.ensures.0 c.if-is_one-3.true)
