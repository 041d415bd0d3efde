use Rattle.rationals.proofs.StepLaws.{passes_laws}
use Rattle.rationals.proofs.steps_pass_where_their_value_does.Goals as goal

pub returns : goal.returns
returns c = passes_laws
