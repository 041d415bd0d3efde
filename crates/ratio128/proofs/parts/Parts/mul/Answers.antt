use Rattle.std.proofs.Common.{lit<, sym}
use Rattle.std.proofs.lemmas.Result.{err_from_is_err_and}
use Rattle.ratio128.proofs.RatioLemmas.{product_of_whole, product_unfit_whole, frac_whole, passed, bound_of, fits_along}
use Rattle.ratio128.proofs.parts.Parts.mul.Goals as goal

pub returns-in_err-whole : goal.returns-in_err-whole
returns-in_err-whole c =
    let p = err_from_is_err_and c.from_residual.result c.from_residual.ensures.1 in
    rw (p.1, ← c.self.view_is, ← c.other.view_is, c.if-self-eq1.true, c.if-other-eq1.true)
    (product_unfit_whole c.self.inside.num c.other.inside.num (rw (passed c.self.inside.num c.self.invariant.fits.num, passed c.other.inside.num c.other.invariant.fits.num) at c.in_err-whole.ensures))

pub invariant_of-result : goal.invariant_of-result
invariant_of-result c =
    let s = rw (passed c.self.inside.num c.self.invariant.fits.num, passed c.other.inside.num c.other.invariant.fits.num) at c.in_ok-whole.ensures in
    rw (passed c.in_ok-whole.whole (bound_of c.in_ok-whole.whole _ s)) (frac_whole c.in_ok-whole.whole (bound_of c.in_ok-whole.whole _ s))

pub returns-then-other-eq1 : goal.returns-then-other-eq1
returns-then-other-eq1 c =
    let s = rw (passed c.self.inside.num c.self.invariant.fits.num, passed c.other.inside.num c.other.invariant.fits.num) at c.in_ok-whole.ensures in
    let e = product_of_whole c.self.inside.num c.other.inside.num in
    rw (← c.self.view_is, ← c.other.view_is, c.if-self-eq1.true, c.if-other-eq1.true, passed c.in_ok-whole.whole (bound_of c.in_ok-whole.whole _ s), s.1)
    (fits_along _ _ e s.0 (lit< tt), sym e)
