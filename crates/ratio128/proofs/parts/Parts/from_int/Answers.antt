use Rattle.std.specs.Int.{w64}
use Rattle.std.proofs.lemmas.Int.{to_z-of_z}
use Rattle.ratio128.proofs.RatioLemmas.{frac_whole, passed, abs_from_w64}
use Rattle.ratio128.proofs.parts.Parts.from_int.Goals as goal

pub invariant_of-result : goal.invariant_of-result
invariant_of-result c =
    let small = abs_from_w64 c.args.n c.ranges.n in
    rw (to_z-of_z w64 c.args.n c.ranges.n, passed c.args.n small) (frac_whole c.args.n small)
