-- It fits.
use Rattle.std.proofs.Common.{◌∙◌, sym}
use Rattle.smps_stoch.proofs.FinishLemmas.{greatest_fits}
use Rattle.smps_stoch.proofs.finish.greatest_sum.Goals as goal

pub returns-in-None : goal.returns-in-None
returns-in-None c = absurd (greatest_fits (sym c.new.ensures ∙ c.in-None.is))
