use Rattle.report_reader.proofs.PieceLemmas.{lines_by}
use Rattle.report_reader.proofs.reading.next_line.Goals as goal

pub returns-clause-lines : goal.returns-clause-lines
returns-clause-lines c = lines_by c.args.text.now c.cut.result (λ p. p.0.now) (λ p. p.1.now) c.cut.ensures.cut
