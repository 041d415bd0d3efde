use Rattle.std.proofs.Common.{sym, arith}
use Rattle.rounded_sums.proofs.SplitLemmas.{put_is}
use Rattle.rounded_sums.proofs.split.SplitSum.put.Goals as goal

pub returns-in-Some : goal.returns-in-Some
returns-in-Some c =
    put_is c.args.self.now c.self.inside.whole c.args.number c.index-self-place.result _ _ _ _ c.self.inside.parts _ c.args.place
    (omega (arith, c.requires, c.self.told)) (sym c.self.view_is) c.in-Some.ensures c.settled-whole.ensures c.with_part-parts.ensures
