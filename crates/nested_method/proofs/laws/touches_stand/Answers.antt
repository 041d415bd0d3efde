use Rattle.nested_method.proofs.Standing.{touches_stand}
use Rattle.nested_method.proofs.laws.touches_stand.Goals as goal

pub returns : goal.returns
returns c = touches_stand
