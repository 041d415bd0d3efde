use Rattle.ratio128.proofs.RatioLemmas.{small_product_fits}
use Rattle.ratio128.proofs.ShortStep.{step_passed, step_fits, step_frac, step_is}
use Rattle.ratio128.proofs.parts.Parts.short_step.Goals as goal

pub overflow_mul-result : goal.overflow_mul-result
overflow_mul-result c =
    let q = rw (← c.factor.view_is) at c.requires.factor in
    let r = rw (← c.times.view_is) at c.requires.times in
    small_product_fits c.factor.inside.num c.times.inside.num q.size r.size

pub overflow_add-result : goal.overflow_add-result
overflow_add-result c =
    let p = rw (← c.self.view_is) at c.requires.from in
    let q = rw (← c.factor.view_is) at c.requires.factor in
    let r = rw (← c.times.view_is) at c.requires.times in
    step_fits c.self.inside.num c.factor.inside.num c.times.inside.num p.size q.size r.size

pub invariant_of-result : goal.invariant_of-result
invariant_of-result c =
    let p = rw (← c.self.view_is) at c.requires.from in
    let q = rw (← c.factor.view_is) at c.requires.factor in
    let r = rw (← c.times.view_is) at c.requires.times in
    rw (step_passed c.self.inside.num c.factor.inside.num c.times.inside.num p.size q.size r.size)
    (step_frac c.self.inside.num c.factor.inside.num c.times.inside.num p.size q.size r.size)

pub returns-clause-fits : goal.returns-clause-fits
returns-clause-fits c =
    let p = rw (← c.self.view_is) at c.requires.from in
    let q = rw (← c.factor.view_is) at c.requires.factor in
    let r = rw (← c.times.view_is) at c.requires.times in
    rw (step_passed c.self.inside.num c.factor.inside.num c.times.inside.num p.size q.size r.size)
    (step_frac c.self.inside.num c.factor.inside.num c.times.inside.num p.size q.size r.size).fits

pub returns-clause-is : goal.returns-clause-is
returns-clause-is c =
    let p = rw (← c.self.view_is) at c.requires.from in
    let q = rw (← c.factor.view_is) at c.requires.factor in
    let r = rw (← c.times.view_is) at c.requires.times in
    rw (← c.self.view_is, ← c.factor.view_is, ← c.times.view_is, step_passed c.self.inside.num c.factor.inside.num c.times.inside.num p.size q.size r.size)
    (step_is (record { num = c.self.inside.num; den = c.self.inside.den }) (record { num = c.factor.inside.num; den = c.factor.inside.den }) (record { num = c.times.inside.num; den = c.times.inside.den }) p q r)
