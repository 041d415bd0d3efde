use Rattle.report_reader.proofs.StatedLemmas.{stated_by}
use Rattle.report_reader.proofs.reading.read_reports.Goals as goal

pub returns-clause-stated : goal.returns-clause-stated
returns-clause-stated c = stated_by c.args.most c.args.program.now c.args.text.now c.read_exactly.result (λ reports. reports.items) c.read_exactly.ensures
