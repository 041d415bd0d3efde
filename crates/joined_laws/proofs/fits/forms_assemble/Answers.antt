use Rattle.joined_laws.proofs.Forms.{forms_assemble}
use Rattle.joined_laws.proofs.fits.forms_assemble.Goals as goal

pub returns : goal.returns
returns c = forms_assemble
