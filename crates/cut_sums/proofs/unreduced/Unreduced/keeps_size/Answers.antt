use Rattle.std.proofs.Common.{subst}
use Rattle.rationals.specs.Passes.{IsNarrow}
use Rattle.cut_sums.proofs.UnreducedLaws.{lowest_fits}
use Rattle.cut_sums.proofs.unreduced.Unreduced.keeps_size.Goals as goal

pub returns : goal.returns
returns c = subst IsNarrow c.self.view_is (lowest_fits c.self.inside.num c.self.inside.den c.self.invariant)
