use Rattle.std.proofs.Common.{rules, sym, ap, ◌∙◌}
use Rattle.std.specs.Prelude.{FitsSigned}
use Rattle.std.specs.Int.{w128}
use Rattle.std.proofs.lemmas.Int.{to_z-of_z}
use Rattle.ratio128.proofs.RatioLemmas.{frac_inverted, passed}
use Rattle.ratio128.proofs.parts.Parts.invert.Goals as goal

pub invariant_of-result : goal.invariant_of-result
invariant_of-result c =
    let f : FitsSigned w128 c.with_sign.result = search rules in
    rw (to_z-of_z w128 c.with_sign.result f, c.with_sign.ensures, c.unsigned_abs.ensures.value, passed c.self.inside.num c.self.invariant.fits.num)
    (frac_inverted _ c.self.inside.num c.self.inside.den c.self.invariant (λ e. c.requires (sym (ap (λ r. r.num) c.self.view_is) ∙ e)))
