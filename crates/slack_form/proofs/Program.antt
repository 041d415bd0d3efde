-- The standard form is one.
use Rattle.std.proofs.Common.{◌≡◌, ℕ, suc, ◌+◌, ◌≤◌, ◌<◌, ◌^◌, Bool, true, false, List, [], ◌∷◌, length, refl, sym, ap, ◌∙◌, subst, arith}
use Rattle.rationals.specs.Rational.{ℚ, zero_ℚ, ◌≤ℚ◌, by_linear, terms, lt_le_ℚ}
use Rattle.rationals.specs.Ring.Given.{nothing, fact}
use Rattle.rationals.specs.Sparse.{Entry}
use Rattle.lp_defs.specs.Program as lp
use Rattle.lp_defs.specs.Tests.{is_below_zero, is_below_zero_true, is_below_zero_false}
use Rattle.slack_form.specs.declared.limits.Limit.{Limit}
use Rattle.slack_form.specs.declared.limits.Limits.{Limits}
use Rattle.slack_form.specs.Limits.{IsLimits}
use Rattle.slack_form.specs.Standard.{turned, behind, equations, turned_rights, standard_of}
use Rattle.slack_form.proofs.Equations.{behind_above, behind_few, equations_below, equations_length, form_below_more}

pub rights_length : (rows : List Limit) → length (turned_rights rows) ≡ length rows
rights_length [] = refl
rights_length (row ∷ rows) = ap suc (rights_length rows)

-- a number that is turned where it is below 0 is at least 0
turned_up : (v : ℚ) → zero_ℚ ≤ℚ turned (is_below_zero v) v
turned_up v = go (is_below_zero v) refl
  where
    go : (b : Bool) → is_below_zero v ≡ b → zero_ℚ ≤ℚ turned b v
    go true e = let l : v ≤ℚ zero_ℚ = lt_le_ℚ (is_below_zero_true v e) in by_linear (v ∷ []) (fact l nothing) (search terms depth 40) tt
    go false e = is_below_zero_false v e

rights_up : (rows : List Limit) → lp.NoneNegative (turned_rights rows)
rights_up [] = tt
rights_up (row ∷ rows) = (turned_up row.right, rights_up rows)

few : (n m k : ℕ) → n < 2 ^ 62 → m < 2 ^ 62 → k ≤ n + m → k < 2 ^ 63
few n m k h l b = omega arith

pub standard_is_program : (limits : Limits) → IsLimits limits → lp.IsProgram (standard_of limits)
standard_is_program limits h = record {
  limit = few limits.columns (length limits.rows.items) (behind limits.columns limits.rows.items) h.few_columns h.few_rows (behind_few limits.columns limits.rows.items);
  rows = equations_below limits.columns limits.columns (behind limits.columns limits.rows.items) limits.rows.items (omega arith) (omega arith) h.rows;
  one_each = rights_length limits.rows.items ∙ sym (equations_length limits.columns limits.rows.items);
  right = rights_up limits.rows.items;
  cost = form_below_more limits.columns (behind limits.columns limits.rows.items) limits.cost (behind_above limits.columns limits.rows.items) h.cost;
}

-- it is what the code puts together
pub parts_are_program : (limits : Limits) (n : ℕ) (forms : List (List Entry)) (right : List ℚ) (cost : List Entry) → IsLimits limits
    → n ≡ behind limits.columns limits.rows.items → forms ≡ equations limits.columns limits.rows.items → right ≡ turned_rights limits.rows.items → cost ≡ limits.cost
    → lp.IsProgram (record { columns = n; rows = forms; right = right; cost = cost })
parts_are_program limits n forms right cost h en ef er ec =
    let made : lp.Program = record { columns = n; rows = forms; right = right; cost = cost } in
    let e : made ≡ standard_of limits = cc in
    subst lp.IsProgram (sym e) (standard_is_program limits h)
