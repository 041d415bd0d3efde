-- The number fits.
use Rattle.std.proofs.Common.{◌≡◌, ◌∙◌, ◌^◌, ap, pos, Some, Bool, false, refl, arith}
use Rattle.rationals.proofs.GcdLemmas.{gcd-one}
use Rattle.rationals.specs.Rational.{◌÷◌}
use Rattle.rationals.specs.Passes.{fitted, too_wide, unless}
use Rattle.rationals.proofs.Lowest.{PartsAre, parts_of}
use Rattle.core_defs.specs.Bounds.{infinite}
use Rattle.flat_write.proofs.bounds.infinite.Goals as goal

parts : PartsAre (pos (10 ^ 30) ÷ 1) (pos (10 ^ 30)) 1
parts = parts_of (pos (10 ^ 30)) 1 (omega arith) (gcd-one (10 ^ 30))

fits : fitted (pos (10 ^ 30) ÷ 1) ≡ Some infinite
fits = let narrow : too_wide (pos (10 ^ 30) ÷ 1) ≡ false = rw (parts.num, parts.den) refl in ap (λ (b : Bool). unless b infinite) narrow

pub unreachable-requires : goal.unreachable-requires
unreachable-requires c = c.in_default.not-Some infinite (c.new.ensures ∙ fits)
