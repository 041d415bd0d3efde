use Rattle.joined_laws.proofs.Rows.{made_are_on_rows}
use Rattle.joined_laws.proofs.fits.made_are_on_rows.Goals as goal

pub returns : goal.returns
returns c = made_are_on_rows
