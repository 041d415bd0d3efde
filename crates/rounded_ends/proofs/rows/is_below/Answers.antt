use Rattle.std.proofs.Common.{sym, subst, Option}
use Rattle.rationals.specs.Rational.{ℚ}
use Rattle.rationals.specs.Sparse.{product}
use Rattle.rationals.specs.Intervals.{AtMost}
use Rattle.scen_defs.specs.Values.{at}
use Rattle.scen_defs.specs.Flat.{along}
use Rattle.scen_defs.specs.Program.{content, view_of}
use Rattle.rounded_ends.proofs.RunLemmas.{is_below}
use Rattle.rounded_ends.proofs.rows.is_below.Goals as goal

pub returns-in-Some-row_sum : goal.returns-in-Some-row_sum
returns-in-Some-row_sum c = λ yes.
    let q = product c.args.entries.now (along (view_of (content c.args.program.now)) (at c.args.values.now) c.args.node) in
    subst (λ (o : Option ℚ). AtMost o q) (sym c.in-Some.is) (is_below c.in-Some.high q c.in-Some-row_sum.sum c.is_at_most.result c.is_at_most.ensures yes c.in-Some-row_sum.ensures)
