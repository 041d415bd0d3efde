-- Whether parts are a datum, list by list.
use Rattle.std.specs.Prelude.{ℕ, ◌+◌, Bool, true, not, ◌&&◌, leb, List, [], ◌∷◌, Option, Some, None}
use Rattle.rationals.specs.Rational.{ℚ, zero_ℚ, at_most}
use Rattle.rationals.specs.Sparse.{Entry}
use Rattle.scen_defs.specs.declared.program.NodeRow.{NodeRow}
use Rattle.cut_defs.specs.declared.datum.ColumnBounds.{ColumnBounds}
use Rattle.cut_defs.specs.declared.datum.Share.{Share}
use Rattle.cut_defs.specs.Data.{is_own}

-- no low end is above the high one
abbrev pub in_order : Option ℚ → Option ℚ → Bool
in_order None high = true
in_order (Some low) None = true
in_order (Some low) (Some high) = at_most low high

-- a row from place n on, with its ends in order; and all rows, which rise
abbrev pub row_holds : ℕ → NodeRow → Bool
row_holds n r = leb n r.row && in_order r.low r.high

abbrev pub rows_hold : ℕ → List NodeRow → Bool
rows_hold n [] = true
rows_hold n (r ∷ rs) = row_holds n r && rows_hold (r.row + 1) rs

-- the same of columns with their bounds
abbrev pub bound_holds : ℕ → ColumnBounds → Bool
bound_holds n b = leb n b.column && in_order b.lower b.upper

abbrev pub bounds_hold : ℕ → List ColumnBounds → Bool
bounds_hold n [] = true
bounds_hold n (b ∷ bs) = bound_holds n b && bounds_hold (b.column + 1) bs

-- a child from number n on, with a share above 0; and all children, which rise
abbrev pub share_holds : ℕ → Share → Bool
share_holds n s = leb n s.child && not (at_most s.share zero_ℚ)

abbrev pub shares_hold : ℕ → List Share → Bool
shares_hold n [] = true
shares_hold n (s ∷ ss) = share_holds n s && shares_hold (s.child + 1) ss

-- each cost is of one of the columns
abbrev pub costs_hold : List ColumnBounds → List Entry → Bool
costs_hold bounds [] = true
costs_hold bounds (e ∷ es) = is_own bounds e.column && costs_hold bounds es

-- all of it
abbrev pub is_datum : List Entry → List NodeRow → List ColumnBounds → List Share → Bool
is_datum cost rows bounds shares = rows_hold 0 rows && (shares_hold 0 shares && (bounds_hold 0 bounds && costs_hold bounds cost))
