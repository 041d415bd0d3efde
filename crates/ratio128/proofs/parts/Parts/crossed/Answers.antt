use Rattle.rationals.proofs.GcdLemmas.{gcd_pos}
use Rattle.ratio128.specs.contracts.parts.Parts.{the_view}
use Rattle.ratio128.proofs.RatioLemmas.{shared, divided, mul_value, product_lowest}
use Rattle.ratio128.proofs.parts.Parts.crossed.Goals as goal

pub divide-requires-clause-above_zero : goal.divide-requires-clause-above_zero
divide-requires-clause-above_zero c = rw c.gcd_of-first.ensures (gcd_pos _ _ c.other.invariant.above_zero)

pub divide-requires-2-clause-above_zero : goal.divide-requires-2-clause-above_zero
divide-requires-2-clause-above_zero c = rw c.gcd_of-second.ensures (gcd_pos _ _ c.self.invariant.above_zero)

pub share-requires : goal.share-requires
share-requires c = rw c.gcd_of-second.ensures (gcd_pos _ _ c.self.invariant.above_zero)

pub share-requires-2 : goal.share-requires-2
share-requires-2 c = rw c.gcd_of-first.ensures (gcd_pos _ _ c.other.invariant.above_zero)

pub returns-clause-lowest : goal.returns-clause-lowest
returns-clause-lowest c =
    rw (← c.self.view_is, ← c.other.view_is) (product_lowest (the_view c.self.inside) (the_view c.other.inside) c.self.invariant.above_zero c.other.invariant.above_zero)

pub returns-clause-value : goal.returns-clause-value
returns-clause-value c =
    let g = shared c.self.inside.num _ _ _ c.self.invariant.fits.num c.unsigned_abs.ensures.value c.gcd_of-first.ensures in
    let h = shared c.other.inside.num _ _ _ c.other.invariant.fits.num c.unsigned_abs-2.ensures.value c.gcd_of-second.ensures in
    let left = divided c.self.inside.num c.divide.result c.gcd_of-first.result c.self.invariant.fits.num c.divide.ensures in
    let right = divided c.other.inside.num c.divide-2.result c.gcd_of-second.result c.other.invariant.fits.num c.divide-2.ensures in
    rw (← c.self.view_is, ← c.other.view_is, left, right, c.share.ensures, c.share-2.ensures)
    (mul_value (the_view c.self.inside) (the_view c.other.inside) c.gcd_of-first.result c.gcd_of-second.result c.self.invariant c.other.invariant g h)
