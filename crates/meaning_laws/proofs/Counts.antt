-- The entries of all columns in all rows are at most as many as the field pairs that state them.
use Rattle.std.proofs.Common.{◌≡◌, ◌∙◌, ap, refl, subst, pos, ℕ, ◌+◌, ◌≤◌, ◌&&◌, Bool, true, false, not, is_some, List, [], ◌∷◌, Option, Some, None, arith, if◌then◌else◌}
use Rattle.std.specs.Option.{unwrap_or}
use Rattle.std.specs.Ordering.{int_eq}
use Rattle.rationals.specs.Rational.{ℚ, zero_ℚ}
use Rattle.rationals.specs.Forms.{is_zero}
use Rattle.rationals.proofs.Lowest.{num_zero}
use Rattle.smps_words.specs.Names.{same_name, place_of}
use Rattle.core_defs.specs.Fault.{is_there, count_pairs}
use Rattle.core_defs.specs.Stated.{Pair, number_in, value_on}
use Rattle.core_defs.proofs.NameLemmas.{Missing, Distinct, name_is, same_either_way, not_there}

abbrev pub one : Bool → ℕ
one b = if b then 1 else 0

-- ---- a name among different ones

-- how often it stands there, where it counts
abbrev hits : Bool → List (List ℕ) → List ℕ → ℕ
hits on [] name = 0
hits on (x ∷ xs) name = one (same_name x name && on) + hits on xs name

no_hit : (on : Bool) (xs : List (List ℕ)) (name : List ℕ) → Missing xs name → hits on xs name ≡ 0
no_hit on [] name missing = refl
no_hit on (x ∷ xs) name missing =
    let first : one (same_name x name && on) ≡ 0 = ap (λ b. one (b && on)) (same_either_way x name ∙ missing.0) in
    omega (arith, first, no_hit on xs name missing.1)

one_hit : (on : Bool) (xs : List (List ℕ)) (name : List ℕ) → Distinct xs → hits on xs name ≤ one on
one_hit on [] name distinct = omega arith
one_hit on (x ∷ xs) name distinct = go (same_name x name) refl (one_hit on xs name distinct.1)
  where
    go : (here : Bool) → same_name x name ≡ here → hits on xs name ≤ one on → one (here && on) + hits on xs name ≤ one on
    go true e later = omega (arith, no_hit on xs name (subst (Missing xs) (name_is x name e) distinct.0))
    go false e later = omega arith

hit_there : (on : Bool) (xs : List (List ℕ)) (name : List ℕ) → Distinct xs → hits on xs name ≤ one (is_there xs name && on)
hit_there on xs name distinct = go (is_some (place_of xs name)) refl
  where
    go : (there : Bool) → is_some (place_of xs name) ≡ there → hits on xs name ≤ one (there && on)
    go true e = one_hit on xs name distinct
    go false e = omega (arith, no_hit on xs name (not_there xs name e))

-- ---- values that aren't 0

abbrev pub filled : Option ℚ → ℕ
filled value = one (not (is_zero (unwrap_or value zero_ℚ)))

-- those of these columns in a row, and in these rows
abbrev pub in_row : List Pair → List (List ℕ) → List ℕ → ℕ
in_row pairs [] row = 0
in_row pairs (c ∷ cs) row = filled (value_on pairs c row) + in_row pairs cs row

abbrev pub in_rows : List Pair → List (List ℕ) → List (List ℕ) → ℕ
in_rows pairs columns [] = 0
in_rows pairs columns (r ∷ rs) = in_row pairs columns r + in_rows pairs columns rs

by_pair : (column row : Bool) (value : ℚ) (old : Option ℚ)
    → filled (if column && row then Some value else old) ≤ one (column && (row && not (is_zero value))) + filled old
by_pair true true value old = omega arith
by_pair true false value old = omega arith
by_pair false row value old = omega arith

-- one more pair
in_row_more : (p : Pair) (ps : List Pair) (columns : List (List ℕ)) (row : List ℕ)
    → in_row (p ∷ ps) columns row ≤ hits (same_name row p.row && not (is_zero (number_in p.word))) columns p.column + in_row ps columns row
in_row_more p ps [] row = omega arith
in_row_more p ps (c ∷ cs) row =
    omega (arith, by_pair (same_name c p.column) (same_name row p.row) (number_in p.word) (value_on ps c row), in_row_more p ps cs row)

in_rows_more : (p : Pair) (ps : List Pair) (columns rows : List (List ℕ)) → Distinct columns
    → in_rows (p ∷ ps) columns rows ≤ hits (not (is_zero (number_in p.word))) rows p.row + in_rows ps columns rows
in_rows_more p ps columns [] distinct = omega arith
in_rows_more p ps columns (r ∷ rs) distinct =
    let on = same_name r p.row && not (is_zero (number_in p.word)) in
    omega (arith, in_row_more p ps columns r, one_hit on columns p.column distinct, in_rows_more p ps columns rs distinct)

none_filled : filled None ≡ 0
none_filled = ap (λ num. one (not (int_eq num (pos 0)))) (num_zero zero_ℚ refl)

none_in_row : (columns : List (List ℕ)) (row : List ℕ) → in_row [] columns row ≡ 0
none_in_row [] row = refl
none_in_row (c ∷ cs) row = let none : filled None ≡ 0 = none_filled in omega (arith, none, none_in_row cs row)

none_in_rows : (columns rows : List (List ℕ)) → in_rows [] columns rows ≡ 0
none_in_rows columns [] = refl
none_in_rows columns (r ∷ rs) = omega (arith, none_in_row columns r, none_in_rows columns rs)

pub at_most_pairs : (columns rows : List (List ℕ)) → Distinct columns → Distinct rows → (pairs : List Pair) → in_rows pairs columns rows ≤ count_pairs rows pairs
at_most_pairs columns rows columns_differ rows_differ [] = omega (arith, none_in_rows columns rows)
at_most_pairs columns rows columns_differ rows_differ (p ∷ ps) =
    omega (
      arith,
      in_rows_more p ps columns rows columns_differ,
      hit_there (not (is_zero (number_in p.word))) rows p.row rows_differ,
      at_most_pairs columns rows columns_differ rows_differ ps,
    )
