use Rattle.time_defs.specs.Periods.{stages}
use Rattle.smps_stoch.proofs.TextLemmas.{told}
use Rattle.smps_stoch.proofs.reading.read_stoch.Goals as goal

pub returns : goal.returns
returns c = told c.args.core.now (stages c.args.periods.now) c.args.text.now c.read_lines.result c.read_lines.ensures.read
