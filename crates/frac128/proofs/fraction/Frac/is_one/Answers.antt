use Rattle.std.proofs.Common.{sym, ap₂, ◌∙◌, eqb-true}
use Rattle.std.proofs.lemmas.Bool.{eq-eqb}
use Rattle.rationals.specs.Rational.{◌÷◌, laws}
use Rattle.frac128.proofs.Bridge.{one_parts}
use Rattle.ratio128.proofs.RatioLemmas.{passed}
use Rattle.frac128.proofs.fraction.Frac.is_one.Goals as goal

pub returns-then-is_one_int : goal.returns-then-is_one_int
returns-then-is_one_int c = (
  λ t. sym c.self.view_is ∙ ap₂ (λ n d. n ÷ d) (sym (passed c.self.inside.num c.self.invariant.fits.num) ∙ c.is_one_int.ensures.0 c.if-is_one_int.true) (eqb-true c.self.inside.den 1 t) ∙ sym laws.one_is,
  λ e. eq-eqb c.self.inside.den 1 (one_parts c.args.self c.self.inside.num c.self.inside.den c.self.view_is c.self.invariant e).1,
)

pub returns-else-is_one_int : goal.returns-else-is_one_int
returns-else-is_one_int c = (
  λ t. absurd (cc),
  λ e.
      let whole = c.is_one_int.ensures.1 (passed c.self.inside.num c.self.invariant.fits.num ∙ (one_parts c.args.self c.self.inside.num c.self.inside.den c.self.view_is c.self.invariant e).0) in
      let other = c.if-is_one_int.false in
      absurd (cc),
)
