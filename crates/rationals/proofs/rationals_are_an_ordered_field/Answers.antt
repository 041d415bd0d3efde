use Rattle.rationals.proofs.NumberLaws.{field_laws}
use Rattle.rationals.proofs.rationals_are_an_ordered_field.Goals as goal

pub returns : goal.returns
returns c = field_laws
