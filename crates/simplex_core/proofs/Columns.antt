-- Forms whose columns are below a number.
use Rattle.std.proofs.Common.{◌≡◌, ℕ, ◌<◌, ◌+◌, List, [], ◌∷◌, ◌++◌, sym, subst, arith}
use Rattle.rationals.specs.Rational.{ℚ}
use Rattle.rationals.specs.Sparse.{Entry}
use Rattle.rationals.specs.Forms.{EndsBelow}

pub below_more : (c : ℕ) (f : List Entry) → EndsBelow c f → EndsBelow (c + 1) f
below_more c [] h = tt
below_more c (t ∷ f) h = (let k : t.column < c = h.0 in omega arith, below_more c f h.1)

below_push : (c : ℕ) (v : ℚ) (f : List Entry) → EndsBelow c f → EndsBelow (c + 1) (f ++ record { column = c; value = v } ∷ [])
below_push c v [] h = (omega arith, tt)
below_push c v (t ∷ f) h = (let k : t.column < c = h.0 in omega arith, below_push c v f h.1)

pub below_pushed : (c : ℕ) (v : ℚ) (f new : List Entry) → EndsBelow c f → new ≡ f ++ record { column = c; value = v } ∷ [] → EndsBelow (c + 1) new
below_pushed c v f new h e = subst (EndsBelow (c + 1)) (sym e) (below_push c v f h)
