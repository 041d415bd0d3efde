use Rattle.rationals.proofs.NumberLaws.{comparison_laws}
use Rattle.rationals.proofs.comparisons_follow_the_order.Goals as goal

pub returns : goal.returns
returns c = comparison_laws
