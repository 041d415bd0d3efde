-- A program whose rows end in unit columns has a point.
use Rattle.std.proofs.Common.{◌≡◌, ℕ, suc, ◌<◌, ◌≤◌, ◌+◌, List, [], ◌∷◌, length, refl, ap, ◌∙◌, arith, le_refl}
use Rattle.rationals.specs.Rational.{ℚ, zero_ℚ, one_ℚ, ◌+ℚ◌, ◌*ℚ◌, ◌≤ℚ◌, not_le_of_lt_ℚ, le_refl_ℚ, mul_mono_ℚ, by_eqs, by_linear, terms}
use Rattle.rationals.specs.Ring.Eqs.{done, by_eq}
use Rattle.rationals.specs.Ring.Given.{fact, equal, nothing}
use Rattle.rationals.specs.Sums.{dot}
use Rattle.rationals.specs.Sparse.{Entry, coefficient, coefficient_is}
use Rattle.lp_defs.specs.Program.{NoneNegative, AllEndInUnits}
use Rattle.lp_defs.specs.Certificates.{column_of, UnitColumnsAreFeasible}
use Rattle.lp_defs.proofs.Starts.{own_unit, other_unit}

dot_later : (n k c : ℕ) (rows : List (List Entry)) (y : List ℚ) → n ≤ c → c < k → AllEndInUnits n k rows → dot y (column_of rows c) ≡ zero_ℚ
dot_later n k c [] [] l h a = refl
dot_later n k c [] (v ∷ y) l h a = refl
dot_later n k c (f ∷ rows) [] l h a = refl
dot_later n k c (f ∷ rows) (v ∷ y) l h a =
    by_eqs (v ∷ coefficient f c ∷ dot y (column_of rows c) ∷ [])
    (by_eq v (coefficient_is f c ∙ other_unit n k c f l (λ e. omega arith) a.0) (by_eq one_ℚ (dot_later n (suc k) c rows y l (omega arith) a.1) done)) (search terms depth 40) tt

none_above : (n j : ℕ) (rows : List (List Entry)) (right y : List ℚ) → n ≤ j → AllEndInUnits n j rows → NoneNegative right → length right ≡ length rows → length y ≡ length rows
    → ((c : ℕ) → j ≤ c → c < j + length rows → dot y (column_of rows c) ≤ℚ zero_ℚ) → dot y right ≤ℚ zero_ℚ
none_above n j [] right [] l a b h k s = le_refl_ℚ zero_ℚ
none_above n j [] right (v ∷ y) l a b h k s = absurd (omega arith)
none_above n j (f ∷ rows) [] y l a b h k s = absurd (omega arith)
none_above n j (f ∷ rows) (q ∷ right) [] l a b h k s = absurd (omega arith)
none_above n j (f ∷ rows) (q ∷ right) (v ∷ y) l a b h k s =
    let one : coefficient f j ≡ one_ℚ = coefficient_is f j ∙ own_unit n j f l a.0 in
    let here : v *ℚ coefficient f j +ℚ dot y (column_of rows j) ≤ℚ zero_ℚ = s j (le_refl j) (omega arith) in
    let low : v ≤ℚ zero_ℚ = by_linear (v ∷ coefficient f j ∷ dot y (column_of rows j) ∷ []) (fact here (equal (ap (λ (w : ℚ). v *ℚ w) one) (equal (dot_later n (suc j) j rows y l (omega arith) a.1) nothing))) (search terms depth 40) tt in
    let first : q *ℚ v ≤ℚ q *ℚ zero_ℚ = mul_mono_ℚ b.0 low in
    let rest : dot y right ≤ℚ zero_ℚ = none_above n (suc j) rows right y (omega arith) a.1 b.1 (omega arith) (omega arith) (λ c p r.
    let g : v *ℚ coefficient f c +ℚ dot y (column_of rows c) ≤ℚ zero_ℚ = s c (omega arith) (omega arith) in
    let z : coefficient f c ≡ zero_ℚ = coefficient_is f c ∙ other_unit n j c f (omega arith) (λ e. omega arith) a.0 in
    by_linear (v ∷ coefficient f c ∷ dot y (column_of rows c) ∷ []) (fact g (equal (ap (λ (w : ℚ). v *ℚ w) z) nothing)) (search terms depth 40) tt) in
    by_linear (v ∷ q ∷ dot y right ∷ []) (fact first (fact rest nothing)) (search terms depth 40) tt

pub unit_columns_are_feasible : UnitColumnsAreFeasible
unit_columns_are_feasible p y is u h =
    not_le_of_lt_ℚ h.above (none_above u.first u.first p.rows p.right y (le_refl u.first) u.rows is.right is.one_each h.one_each
    (λ c l m. h.sums c (let k : p.columns ≡ u.first + length p.rows = u.columns in omega arith)))
