-- Used cuts one by one.
use Rattle.std.specs.Prelude.{List, [], ◌∷◌}
use Rattle.rationals.specs.Rational.{ℚ, zero_ℚ}
use Rattle.rationals.specs.Forms.{is_zero}
use Rattle.rationals.specs.Choices.{pick}
use Rattle.cut_defs.specs.Stored.{Stored, StoredUses}
use Rattle.cut_defs.specs.Stored.StoredUses.{No_stored, Use_stored}
use Rattle.cut_proof.specs.Repairing.{snoc}

-- the first number, 0 where there is none
abbrev pub first : List ℚ → ℚ
first [] = zero_ℚ
first (w ∷ ws) = w

-- a cut more, unless its weight is 0
abbrev pub with_use : StoredUses → ℚ → Stored → StoredUses
with_use done w cut = pick (is_zero w) done (snoc done w cut)

-- those of one list, then those of another
abbrev pub uses_joined : StoredUses → StoredUses → StoredUses
uses_joined No_stored vs = vs
uses_joined (Use_stored w cut us) vs = Use_stored w cut (uses_joined us vs)
