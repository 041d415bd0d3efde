use Rattle.std.proofs.lemmas.Bool.{ltb-true}
use Rattle.cut_sums.proofs.TallyLaws.{ends_below}
use Rattle.cut_sums.proofs.tally.is_above.Goals as goal

pub returns : goal.returns
returns c above = ends_below c.args.column c.args.tally.now c.index-tally-len.result _ c.requires c.if-len-eq0.false c.index-tally-len.is c.last.view_is (ltb-true _ _ above)
