use Rattle.scen_defs.proofs.CoverLaws.{cover_laws}
use Rattle.scen_model.proofs.laws.the_cover_is_worked_out.Goals as goal

pub returns : goal.returns
returns c = cover_laws
