use Rattle.frac128.proofs.ParseLemmas.{unless_some, ten_pos}
use Rattle.frac128.proofs.literal.power.Goals as goal

pub from_sizes-requires-clause-above_zero : goal.from_sizes-requires-clause-above_zero
from_sizes-requires-clause-above_zero c =
    let t = unless_some _ _ c.in-Some.ten c.in-Some.ensures in
    rw t.1 (ten_pos _)
