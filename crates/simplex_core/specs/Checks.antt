-- Tests of the parts of a program.
use Rattle.std.specs.Prelude.{ℕ, suc, Bool, true, false, ◌||◌, ◌&&◌, ◌^◌, ltb, leb, eqb, length, List, [], ◌∷◌}
use Rattle.rationals.specs.Rational.{ℚ}
use Rattle.rationals.specs.Sparse.{Entry}
use Rattle.lp_defs.specs.Tests.{is_zero, is_below_zero}

-- the columns rise from m on, all below n, and no value is 0
abbrev pub form_below : ℕ → ℕ → List Entry → Bool
form_below n m [] = true
form_below n m (t ∷ f) =
    elim (ltb t.column m || (leb n t.column || is_zero t.value)) [ true ↦ false | false ↦ form_below n (suc t.column) f ]

abbrev pub forms_below : ℕ → List (List Entry) → Bool
forms_below n [] = true
forms_below n (f ∷ rows) = elim (form_below n 0 f) [ true ↦ forms_below n rows | false ↦ false ]

abbrev pub none_negative : List ℚ → Bool
none_negative [] = true
none_negative (b ∷ right) = elim (is_below_zero b) [ true ↦ false | false ↦ none_negative right ]

abbrev pub is_program : ℕ → List (List Entry) → List ℚ → List Entry → Bool
is_program n rows right cost =
    ltb n (2 ^ 63) && (eqb (length right) (length rows) && (forms_below n rows && (none_negative right && form_below n 0 cost)))
