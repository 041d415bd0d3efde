use Rattle.joined_laws.proofs.Points.{policies_fit}
use Rattle.joined_laws.proofs.fits.policies_fit.Goals as goal

pub returns : goal.returns
returns c = policies_fit
