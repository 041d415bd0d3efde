use Rattle.std.proofs.Common.{List, subst}
use Rattle.rationals.specs.Sparse.{Entry}
use Rattle.rationals.specs.Forms.{EndsBelow}
use Rattle.cut_sums.proofs.TallyLaws.{pushed}
use Rattle.cut_sums.proofs.tally.push_column.Goals as goal

pub returns-in_ok-push : goal.returns-in_ok-push
returns-in_ok-push c =
    let B : List Entry → Type 0 = λ l. EndsBelow c.args.column l in
    pushed c.args.column c.zero.result c.args.tally.now.items c.push.new.self.items c.requires (subst B c.as_slice.ensures.value (c.is_above.ensures c.if-is_above.true)) c.zero.ensures c.in_ok-push.ensures.items
