-- Forms that end below a column.
use Rattle.std.proofs.Common.{ℕ, suc, List, [], ◌∷◌, ◌++◌, arith}
use Rattle.rationals.specs.Rational.{ℚ}
use Rattle.rationals.specs.Sparse.{Entry}
use Rattle.rationals.specs.Forms.{EndsBelow}

pub below-more : (c : ℕ) (f : List Entry) → EndsBelow c f → EndsBelow (suc c) f
below-more c [] h = tt
below-more c (e ∷ f) h = (omega (arith, h.0), below-more c f h.1)

pub below-push : (c : ℕ) (v : ℚ) (f : List Entry) → EndsBelow c f → EndsBelow (suc c) (f ++ record { column = c; value = v } ∷ [])
below-push c v [] h = (omega arith, tt)
below-push c v (e ∷ f) h = (omega (arith, h.0), below-push c v f h.1)
