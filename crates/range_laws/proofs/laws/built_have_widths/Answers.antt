use Rattle.range_laws.proofs.Widths.{built_have_widths}
use Rattle.range_laws.proofs.laws.built_have_widths.Goals as goal

pub returns : goal.returns
returns c = built_have_widths
