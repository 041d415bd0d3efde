use Rattle.decimals.proofs.RoundLemmas.{rounds, rounds_over}
use Rattle.decimals.proofs.rounded.twelve.Goals as goal

pub returns-then-digits-lt-BEYOND-clause-rounded : goal.returns-then-digits-lt-BEYOND-clause-rounded
returns-then-digits-lt-BEYOND-clause-rounded c num den f =
    let it = c.args.first in
    rounds num den it.number it.up it.down c.requires.least c.if-digits-lt-BEYOND.true f

pub returns-else-digits-lt-BEYOND-clause-rounded : goal.returns-else-digits-lt-BEYOND-clause-rounded
returns-else-digits-lt-BEYOND-clause-rounded c num den f =
    let it = c.args.first in
    rounds_over num den it.number it.up it.down c.requires.least c.requires.most c.if-digits-lt-BEYOND.false f
