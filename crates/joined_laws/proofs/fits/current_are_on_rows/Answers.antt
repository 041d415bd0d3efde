use Rattle.joined_laws.proofs.Rows.{current_are_on_rows}
use Rattle.joined_laws.proofs.fits.current_are_on_rows.Goals as goal

pub returns : goal.returns
returns c = current_are_on_rows
