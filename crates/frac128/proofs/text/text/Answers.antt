use Rattle.std.proofs.Common.{◌<◌, ◌^◌, subst, ℤ}
use Rattle.std.specs.Prelude.{unsigned_abs}
use Rattle.frac128.proofs.ReadBack.{read_back}
use Rattle.frac128.proofs.text.text.Goals as goal

pub returns-then-den-eq1-clause-read_back : goal.returns-then-den-eq1-clause-read_back
returns-then-den-eq1-clause-read_back c =
    let Small : ℤ → Type 0 = λ z. unsigned_abs z < 2 ^ 127 in
    read_back c.args.value (subst Small c.num-num.ensures.part c.num-num.ensures.size) c.den-den.ensures.size

pub returns-else-den-eq1-clause-read_back : goal.returns-else-den-eq1-clause-read_back
returns-else-den-eq1-clause-read_back c =
    let Small : ℤ → Type 0 = λ z. unsigned_abs z < 2 ^ 127 in
    read_back c.args.value (subst Small c.num-num.ensures.part c.num-num.ensures.size) c.den-den.ensures.size
