use Rattle.cut_sums.proofs.TallyLaws.{read_at}
use Rattle.cut_sums.proofs.tally.near.Goals as goal

pub returns-then-term-column : goal.returns-then-term-column
returns-then-term-column c = read_at c.args.terms.now c.args.guess c.index-terms-guess.result _ c.args.column c.requires c.if-guess-terms.true c.index-terms-guess.is c.term.view_is c.if-term-column.true
