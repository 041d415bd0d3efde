use Rattle.std.proofs.Common.{sym, ◌∙◌, arith}
use Rattle.rationals.specs.Rational.{zero_lt_one_ℚ, ne_of_gt_ℚ}
use Rattle.scen_defs.specs.Program.{content}
use Rattle.tail_risk.proofs.Steps.{row_ends, ends_pushed}
use Rattle.tail_risk.proofs.row.tail_row.Goals as goal

pub push-requires-clause-rises : goal.push-requires-clause-rises
push-requires-clause-rises c = row_ends (content c.args.program.now) c.args.program.now.keeps c.args.node c.requires c.in_ok-entries.entries c.in_ok-costs.costs c.len-behind.result
    c.in_ok-entries.ensures c.in_ok-costs.ensures (omega (arith, c.len-behind.ensures))

pub push-requires-clause-nonzero : goal.push-requires-clause-nonzero
push-requires-clause-nonzero c = λ e. ne_of_gt_ℚ zero_lt_one_ℚ (sym c.one.ensures ∙ e)

pub push-requires-2-clause-rises : goal.push-requires-2-clause-rises
push-requires-2-clause-rises c = ends_pushed c.len-behind.result c.in_ok-entries.entries c.push.new.self c.one.result
    (row_ends (content c.args.program.now) c.args.program.now.keeps c.args.node c.requires c.in_ok-entries.entries c.in_ok-costs.costs c.len-behind.result
    c.in_ok-entries.ensures c.in_ok-costs.ensures (omega (arith, c.len-behind.ensures))) c.in_ok-push.ensures.ok

pub push-requires-2-clause-nonzero : goal.push-requires-2-clause-nonzero
push-requires-2-clause-nonzero c = λ e. ne_of_gt_ℚ zero_lt_one_ℚ (sym c.one-2.ensures ∙ e)
