use Rattle.nested_method.proofs.Histories.{histories_make_sound}
use Rattle.nested_method.proofs.laws.histories_make_sound.Goals as goal

pub returns : goal.returns
returns c = histories_make_sound
