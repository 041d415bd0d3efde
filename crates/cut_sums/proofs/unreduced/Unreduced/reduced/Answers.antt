use Rattle.std.proofs.Common.{pos}
use Rattle.ratio128.proofs.RatioLemmas.{passed}
use Rattle.cut_sums.proofs.UnreducedLaws.{never_none}
use Rattle.cut_sums.proofs.unreduced.Unreduced.reduced.Goals as goal

pub unreachable-requires : goal.unreachable-requires
unreachable-requires c =
    let h = rw (passed _ c.self.invariant.num_fits, passed (pos c.self.inside.den) c.self.invariant.den_fits) at c.new.ensures in
    never_none c.self.inside.num c.self.inside.den c.new.result c.self.invariant h c.in-None.is
