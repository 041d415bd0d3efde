use Rattle.joined_laws.proofs.Multipliers.{multipliers_fit}
use Rattle.joined_laws.proofs.fits.multipliers_fit.Goals as goal

pub returns : goal.returns
returns c = multipliers_fit
