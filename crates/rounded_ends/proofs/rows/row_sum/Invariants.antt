use Rattle.std.proofs.Common.{drop}
use Rattle.rationals.specs.Rational.{zero_ℚ}
use Rattle.scen_defs.specs.Values.{at}
use Rattle.scen_defs.specs.Flat.{along}
use Rattle.scen_defs.specs.Program.{content, view_of}
use Rattle.rounded_ends.specs.Runs.{Runs}
use Rattle.rounded_ends.proofs.RunLemmas.{Free, part}
use Rattle.rounded_ends.proofs.rows.row_sum.Given as goal

abbrev pub invariant-loop-term : goal.invariant-loop-term
invariant-loop-term l = Runs l.side Free (part (along (view_of (content l.program)) (at l.values) l.node)) zero_ℚ l.entries l.sum (drop l.term-index l.entries)
