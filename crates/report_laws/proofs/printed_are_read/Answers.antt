use Rattle.report_laws.proofs.ReportLemmas.{printed_are_read}
use Rattle.report_laws.proofs.printed_are_read.Goals as goal

pub returns : goal.returns
returns c = printed_are_read
