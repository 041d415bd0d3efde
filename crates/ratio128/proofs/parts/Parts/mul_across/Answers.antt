use Rattle.std.proofs.Common.{rules, refl}
use Rattle.std.specs.Prelude.{FitsSigned}
use Rattle.std.specs.Int.{w128}
use Rattle.std.proofs.lemmas.Int.{to_z-of_z}
use Rattle.std.proofs.lemmas.Result.{err_from_is_err_and}
use Rattle.ratio128.proofs.RatioLemmas.{passed, bound_of, lowest_is_frac, num_not, den_not}
use Rattle.ratio128.proofs.parts.Parts.mul_across.Goals as goal

pub returns-in_err-num : goal.returns-in_err-num
returns-in_err-num c =
    let l : FitsSigned w128 c.crossed-cross.result.left = search rules in
    let r : FitsSigned w128 c.crossed-cross.result.right = search rules in
    let p = err_from_is_err_and c.from_residual.result c.from_residual.ensures.1 in
    let e = c.crossed-cross.ensures in
    rw p.1 (num_not _ _ _ e.lowest e.value (rw (to_z-of_z w128 _ l, to_z-of_z w128 _ r) at c.in_err-num.ensures))

pub returns-in_err-den : goal.returns-in_err-den
returns-in_err-den c =
    let p = err_from_is_err_and c.from_residual-in_err-den.result c.from_residual-in_err-den.ensures.1 in
    let e = c.crossed-cross.ensures in
    rw p.1 (den_not _ _ _ e.lowest e.value c.in_err-den.ensures)

pub invariant_of-result : goal.invariant_of-result
invariant_of-result c =
    let l : FitsSigned w128 c.crossed-cross.result.left = search rules in
    let r : FitsSigned w128 c.crossed-cross.result.right = search rules in
    let e = c.crossed-cross.ensures in
    let n = rw (to_z-of_z w128 _ l, to_z-of_z w128 _ r) at c.in_ok-num.ensures in
    let d = c.in_ok-den.ensures in
    rw (passed _ (bound_of _ _ n), n.1, d.1) (lowest_is_frac _ _ _ e.lowest e.value n.0 d.0)

pub returns : goal.returns
returns c =
    let l : FitsSigned w128 c.crossed-cross.result.left = search rules in
    let r : FitsSigned w128 c.crossed-cross.result.right = search rules in
    let e = c.crossed-cross.ensures in
    let n = rw (to_z-of_z w128 _ l, to_z-of_z w128 _ r) at c.in_ok-num.ensures in
    let d = c.in_ok-den.ensures in
    let f = lowest_is_frac _ _ _ e.lowest e.value n.0 d.0 in
    rw (passed _ (bound_of c.in_ok-num.num _ n), n.1, d.1, e.value) (f.fits, refl)
