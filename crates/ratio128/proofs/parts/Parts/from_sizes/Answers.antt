use Rattle.std.proofs.Common.{rules, arith}
use Rattle.std.specs.Prelude.{FitsSigned}
use Rattle.std.specs.Int.{w128}
use Rattle.std.proofs.lemmas.Int.{to_z-of_z}
use Rattle.rationals.proofs.GcdLemmas.{gcd_pos}
use Rattle.ratio128.proofs.RatioLemmas.{frac_from_sizes}
use Rattle.ratio128.proofs.parts.Parts.from_sizes.Goals as goal

pub share-size-requires : goal.share-size-requires
share-size-requires c = rw c.gcd_of-common.ensures (gcd_pos _ _ c.requires)

pub share-below-requires : goal.share-below-requires
share-below-requires c = rw c.gcd_of-common.ensures (gcd_pos _ _ c.requires)

pub invariant_of-result : goal.invariant_of-result
invariant_of-result c =
    let f : FitsSigned w128 c.with_sign.result = search rules in
    rw (to_z-of_z w128 c.with_sign.result f, c.with_sign.ensures, c.share-size.ensures, c.share-below.ensures) (frac_from_sizes c.args.is_negative c.args.num c.args.den _ c.requires c.gcd_of-common.ensures (omega arith) (omega arith))
