use Rattle.std.proofs.Common.{sym}
use Rattle.ratio128.specs.contracts.parts.Parts.{the_view}
use Rattle.rationals.proofs.GcdLemmas.{gcd_pos}
use Rattle.ratio128.proofs.RatioLemmas.{passed, shared, run_parts, run_fits, run_frac, divided}
use Rattle.ratio128.proofs.parts.Parts.add_over_common_den.Goals as goal

pub share-below-requires : goal.share-below-requires
share-below-requires c =
    rw c.gcd_of-common.ensures (gcd_pos _ _ c.other.invariant.above_zero)

pub share-across-requires : goal.share-across-requires
share-across-requires c =
    rw c.gcd_of-common.ensures (gcd_pos _ _ c.other.invariant.above_zero)

pub share-beside-requires : goal.share-beside-requires
share-beside-requires c =
    let t = rw (passed _ c.self.invariant.fits.num, passed _ c.other.invariant.fits.num, c.share-across.ensures, c.share-below.ensures) at c.in_ok-sum.ensures in
    let h = shared c.in_ok-sum.sum _ _ _ t.0 c.unsigned_abs.ensures.value c.gcd_of-rest.ensures in
    (run_parts (the_view c.self.inside) (the_view c.other.inside) c.gcd_of-common.result c.in_ok-sum.sum c.self.invariant c.other.invariant c.gcd_of-common.ensures t.1 c.gcd_of-rest.result h).above

pub divide-requires-clause-above_zero : goal.divide-requires-clause-above_zero
divide-requires-clause-above_zero c =
    let t = rw (passed _ c.self.invariant.fits.num, passed _ c.other.invariant.fits.num, c.share-across.ensures, c.share-below.ensures) at c.in_ok-sum.ensures in
    let h = shared c.in_ok-sum.sum _ _ _ t.0 c.unsigned_abs.ensures.value c.gcd_of-rest.ensures in
    (run_parts (the_view c.self.inside) (the_view c.other.inside) c.gcd_of-common.result c.in_ok-sum.sum c.self.invariant c.other.invariant c.gcd_of-common.ensures t.1 c.gcd_of-rest.result h).above

pub divide-requires-clause-small : goal.divide-requires-clause-small
divide-requires-clause-small c =
    let t = rw (passed _ c.self.invariant.fits.num, passed _ c.other.invariant.fits.num, c.share-across.ensures, c.share-below.ensures) at c.in_ok-sum.ensures in
    rw (passed _ t.0) t.0

pub invariant_of-result : goal.invariant_of-result
invariant_of-result c =
    let t = rw (passed _ c.self.invariant.fits.num, passed _ c.other.invariant.fits.num, c.share-across.ensures, c.share-below.ensures) at c.in_ok-sum.ensures in
    let h = shared c.in_ok-sum.sum _ _ _ t.0 c.unsigned_abs.ensures.value c.gcd_of-rest.ensures in
    let e = rw (c.share-below.ensures, c.share-beside.ensures) at c.in_ok-den.ensures in
    let d = divided c.in_ok-sum.sum c.divide.result c.gcd_of-rest.result t.0 c.divide.ensures in
    rw (d, e.1) (run_frac (the_view c.self.inside) (the_view c.other.inside) c.gcd_of-common.result c.in_ok-sum.sum c.self.invariant c.other.invariant c.gcd_of-common.ensures t.1 c.gcd_of-rest.result h t.0 e.0)

pub returns : goal.returns
returns c =
    let t = rw (passed _ c.self.invariant.fits.num, passed _ c.other.invariant.fits.num, c.share-across.ensures, c.share-below.ensures) at c.in_ok-sum.ensures in
    let h = shared c.in_ok-sum.sum _ _ _ t.0 c.unsigned_abs.ensures.value c.gcd_of-rest.ensures in
    let e = rw (c.share-below.ensures, c.share-beside.ensures) at c.in_ok-den.ensures in
    let d = divided c.in_ok-sum.sum c.divide.result c.gcd_of-rest.result t.0 c.divide.ensures in
    rw (← c.self.view_is, ← c.other.view_is) (run_fits (the_view c.self.inside) (the_view c.other.inside) c.gcd_of-common.result c.in_ok-sum.sum c.self.invariant c.other.invariant c.gcd_of-common.ensures t.1 c.gcd_of-rest.result h t.0 e.0, rw (d, e.1) (sym (run_parts (the_view c.self.inside) (the_view c.other.inside) c.gcd_of-common.result c.in_ok-sum.sum c.self.invariant c.other.invariant c.gcd_of-common.ensures t.1 c.gcd_of-rest.result h).value))
