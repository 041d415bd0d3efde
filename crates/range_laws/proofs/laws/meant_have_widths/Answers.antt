use Rattle.range_laws.proofs.Widths.{meant_have_widths}
use Rattle.range_laws.proofs.laws.meant_have_widths.Goals as goal

pub returns : goal.returns
returns c = meant_have_widths
