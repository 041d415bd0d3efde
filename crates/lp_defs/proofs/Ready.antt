-- What holds at each stage of a solve.
use Rattle.std.proofs.Common.{◌≡◌, ℕ, zero, suc, ◌<◌, ◌≤◌, ◌+◌, inl, inr, Bool, true, false, ltb, Option, Some, None, List, [], ◌∷◌, Ok, Err, length, refl, sym, ap, ◌∙◌, subst, arith, le_refl}
use Rattle.std.specs.List.{remove}
use Rattle.std.proofs.lemmas.Bool.{ltb-true, ltb-false}
use Rattle.rationals.specs.Rational.{zero_ℚ, one_ℚ, inv_ℚ, ◌<ℚ◌, not_le_of_lt_ℚ, lt_of_not_le_ℚ, le_of_same_ℚ, by_eqs, terms}
use Rattle.rationals.specs.Ring.Eqs.{done, by_eq}
use Rattle.rationals.specs.Sparse.{Entry, product, Ascending}
use Rattle.lp_defs.specs.Walks.{Walk}
use Rattle.lp_defs.specs.Lines.{Line, value_at}
use Rattle.lp_defs.specs.Path.{Row, Tableau, entering, pivoted, row_at, path}
use Rattle.lp_defs.specs.Linear.{AllLines, AllRows}
use Rattle.lp_defs.specs.Ends.{unit, EndsWell, NoneAbove}
use Rattle.lp_defs.specs.Basis.{IsUnits, point, ray}
use Rattle.lp_defs.specs.Trace.{NotIn}
use Rattle.lp_defs.specs.Program.{Program, IsProgram}
use Rattle.lp_defs.specs.Phases.{with_units, priced, has_artificial_above, nonzero_below, replacing, Driven, Driven_out, Driven_long, Driven_stop, driven_by, driven_at, driven}
use Rattle.lp_defs.specs.Solution.{first_rows, first_cost}
use Rattle.lp_defs.specs.Stages.{all_columns, First, Driving, Settled, DrivenOut, Second}
use Rattle.lp_defs.proofs.Rows.{Pivots, pivots, put_back}
use Rattle.lp_defs.proofs.Choice.{path_keeps, Keeps}
use Rattle.lp_defs.proofs.Best.{start_spans}
use Rattle.lp_defs.proofs.Basic.{value_is, Both, three_keep, point_of, below_pivot, entering_below, rows_insert, rows_uninsert}
use Rattle.lp_defs.proofs.Rays.{ray_of}
use Rattle.lp_defs.proofs.Phases.{priced_start, driven_keeps}
use Rattle.lp_defs.proofs.Twice.{point_at}
use Rattle.lp_defs.proofs.Starts.{units_of, units_at_end, length_with_units, basics_below, rows_rise, rights_above, costs_rise, costs_above, costs_zero}
use Rattle.lp_defs.proofs.Artificial.{IsNone, Above, none_above, some_above, each_none}
use Rattle.lp_defs.proofs.Settled.{FirstSettled, settled_pivot, all_first, first_more, first_pivot, pivot_long, nonzero_is, none_is_empty}

pub all_at : (P : Row → Type 0) (rows : List Row) (i : ℕ) → i < length rows → AllRows P rows → P (row_at rows i)
all_at P [] i h a = absurd (omega arith)
all_at P (r ∷ rows) zero h a = a.0
all_at P (r ∷ rows) (suc i) h a = all_at P rows i (omega arith) a.1

pub lines_at : (P : Line → Type 0) (rows : List Row) (i : ℕ) → i < length rows → AllLines P rows → P (row_at rows i).line
lines_at P [] i h a = absurd (omega arith)
lines_at P (r ∷ rows) zero h a = a.0
lines_at P (r ∷ rows) (suc i) h a = lines_at P rows i (omega arith) a.1

pub apart_entering : (f : List Entry) (j : ℕ) (rows : List Row) → Ascending 0 f → value_at f j <ℚ zero_ℚ → AllRows (λ r. product f (unit r.basic) ≡ zero_ℚ) rows → NotIn j rows
apart_entering f j [] a h z = tt
apart_entering f j (r ∷ rows) a h z = (
  (λ e. not_le_of_lt_ℚ h (le_of_same_ℚ (sym z.0 ∙ ap (λ (c : ℕ). product f (unit c)) e ∙ value_is 0 j f a))),
  apart_entering f j rows a h z.1,
)

-- ---- phase one

pub first_units : (p : Program) → IsProgram p → IsUnits (first_rows p)
first_units p is = units_of p.columns p.columns (with_units p.columns p.rows) p.right (le_refl p.columns) (units_at_end p.columns p.columns p.rows is.rows)

pub first_begins : (p : Program) (o : List Entry) → IsProgram p → priced (first_cost p) (first_rows p) (first_cost p) ≡ Ok o → First p (record { rows = first_rows p; objective = o })
first_begins p o is e =
    let b : Both (first_cost p) (first_rows p) (record { rows = first_rows p; objective = o }) =
    priced_start (first_cost p) (first_rows p) (first_rows p) o (costs_rise 0 p.columns (length p.rows) (omega arith)) (rows_rise p.columns p.columns p.rows p.right (le_refl p.columns) is.rows) (first_units p is)
    (rights_above p.columns (with_units p.columns p.rows) p.right is.right) (start_spans (first_rows p)) (λ x s. s) e in
    (b.0, b.1, basics_below p.columns (all_columns p) (with_units p.columns p.rows) p.right (let k : length (with_units p.columns p.rows) ≡ length p.rows = length_with_units p.columns p.rows in omega arith))

pub first_path : (p : Program) (left k : ℕ) (t : Tableau) → First p t → EndsWell (First p) p.columns (path p.columns left k t)
first_path p left k t h = path_keeps (First p) p.columns (three_keep p.columns (all_columns p) (first_cost p) (first_rows p) (omega arith)) left k t h

-- the sum of the artificial columns has a least value
pub never_open : (p : Program) (j : ℕ) (t : Tableau) → First p t → entering p.columns t.objective ≡ Some j → NoneAbove j t.rows → ⊥
never_open p j t h e open_at =
    let r = ray_of p.columns (all_columns p) (first_cost p) (first_rows p) j t (omega arith) h e open_at in
    not_le_of_lt_ℚ r.falls (costs_above p.columns (length p.rows) (ray j t.rows) (λ c. (r.direction c).0))

-- ---- the pivots on artificial columns that are left

-- where an artificial column is basic above 0, their sum is above 0
pub costs_above_zero : (p : Program) (t : Tableau) → First p t → has_artificial_above p.columns t.rows ≡ true → zero_ℚ <ℚ product (first_cost p) (point t.rows)
costs_above_zero p t h e =
    let x = point_of (all_columns p) (first_cost p) (first_rows p) t h in
    let a : Above p.columns (all_columns p) (point t.rows) = some_above p.columns (all_columns p) (point t.rows) t.rows (point_at t.rows h.1.units) h.2 e in
    lt_of_not_le_ℚ (λ le. not_le_of_lt_ℚ a.above (le_of_same_ℚ (costs_zero p.columns (length p.rows) (point t.rows) (λ c. (x.range c).0) le a.column a.artificial a.within)))

pub driving_begins : (p : Program) (t : Tableau) → First p t → has_artificial_above p.columns t.rows ≡ false → Driving p t
driving_begins p t h e = record { first = h; none = none_above p.columns t.rows h.1.feasible e }

driving_pivot : (p : Program) (j i : ℕ) (t u : Tableau) → Driving p t → i < length t.rows → j < p.columns → ((row_at t.rows i).basic < p.columns → ⊥) → (value_at (row_at t.rows i).line.entries j ≡ zero_ℚ → ⊥) → pivoted j i t ≡ Ok u → Driving p u
driving_pivot p j i t u d h l n ne q =
    let r : Row = row_at t.rows i in
    let none = rows_uninsert (IsNone p.columns) (remove t.rows i) i r (subst (AllRows (IsNone p.columns)) (sym (put_back t.rows i h)) d.none) in
    let z : r.line.right ≡ zero_ℚ = none.1 n in
    let b : Both (first_cost p) (first_rows p) u = driven_keeps (first_cost p) (first_rows p) j i t u (d.first.0, d.first.1) h ne z q in
    let v : Pivots j i t u = pivots j i t u q in
    let still : v.pivot.right ≡ zero_ℚ = by_eqs (v.pivot.right ∷ r.line.right ∷ inv_ℚ (value_at r.line.entries j) ∷ []) (by_eq one_ℚ v.scaled.right (by_eq (inv_ℚ (value_at r.line.entries j)) z done)) (search terms depth 40) tt in
    record {
      first = (b.0, b.1, below_pivot (all_columns p) j i t u (omega arith) h d.first.2 q);
      none = subst (AllRows (IsNone p.columns)) (sym v.rows)
          (rows_insert (IsNone p.columns) v.others i (record { basic = j; line = v.pivot }) (each_none p.columns j v.pivot (remove t.rows i) v.others v.each still none.0) (λ k. absurd (k l)));
    }

-- what holds when all are driven out
abbrev pub EndsDriven : Program → Driven → Type 0
EndsDriven p (Driven_out k t) = DrivenOut p t
EndsDriven p Driven_long = Unit {0}
EndsDriven p (Driven_stop k o) = Unit {0}

kept_settled : (p : Program) (t : Tableau) (i : ℕ) → Driving p t → i < length t.rows → replacing p.columns (row_at t.rows i) ≡ None → Settled p.columns (row_at t.rows i)
kept_settled p t i d h e = go (ltb (row_at t.rows i).basic p.columns) refl e
  where
    go : (b : Bool) → ltb (row_at t.rows i).basic p.columns ≡ b → ◌≡◌ {A = Option ℕ} (elim b [ true ↦ None | false ↦ nonzero_below p.columns (row_at t.rows i).line.entries ]) None → Settled p.columns (row_at t.rows i)
    go true q e = inl (ltb-true (row_at t.rows i).basic p.columns q)
    go false q e = inr (record {
      entries = λ c l. none_is_empty p.columns c (row_at t.rows i).line.entries e l;
      right = all_at (λ r. (r.basic < p.columns → ⊥) → r.line.right ≡ zero_ℚ) t.rows i h d.none (λ l. let k : p.columns ≤ (row_at t.rows i).basic = ltb-false (row_at t.rows i).basic p.columns q in omega arith);
    })

-- the pivot of a row whose basic column is replaced
pub record Replaces (n j : ℕ) (r : Row) : Type 0 where
  pub below : j < n
  pub artificial : r.basic < n → ⊥
  pub nonzero : value_at r.line.entries j ≡ zero_ℚ → ⊥

pub replaces : (n j : ℕ) (r : Row) → Ascending 0 r.line.entries → replacing n r ≡ Some j → Replaces n j r
replaces n j r a e = go (ltb r.basic n) refl e
  where
    go : (b : Bool) → ltb r.basic n ≡ b → ◌≡◌ {A = Option ℕ} (elim b [ true ↦ None | false ↦ nonzero_below n r.line.entries ]) (Some j) → Replaces n j r
    go true q e = absurd (cc)
    go false q e = let k = nonzero_is n 0 j r.line.entries a e in record {
      below = k.0;
      artificial = λ l. let m : n ≤ r.basic = ltb-false r.basic n q in omega arith;
      nonzero = k.2;
    }

driven_ends : (p : Program) (rows i left k : ℕ) (t : Tableau) → i + rows ≡ length t.rows → Driving p t → FirstSettled p.columns i t.rows → EndsDriven p (driven p.columns rows i left k t)
driven_ends p zero i left k t h d f = let e : i ≡ length t.rows = omega arith in record { driving = d; settled = all_first p.columns t.rows (subst (λ (m : ℕ). FirstSettled p.columns m t.rows) e f) }
driven_ends p (suc rows) i left k t h d f = go left (replacing p.columns (row_at t.rows i)) refl (λ left k u e d f. driven_ends p rows (i + 1) left k u e d f)
  where
    next : (j left : ℕ) (w : Walk Tableau) → replacing p.columns (row_at t.rows i) ≡ Some j → pivoted j i t ≡ w
        → ((left k : ℕ) (u : Tableau) → (i + 1) + rows ≡ length u.rows → Driving p u → FirstSettled p.columns (i + 1) u.rows → EndsDriven p (driven p.columns rows (i + 1) left k u))
        → EndsDriven p (driven_by (k + 1) w (λ u. driven p.columns rows (i + 1) left (k + 1) u))
    next j left (Err o) e q again = tt
    next j left (Ok u) e q again =
        let l : i < length t.rows = omega arith in
        let r : Replaces p.columns j (row_at t.rows i) = replaces p.columns j (row_at t.rows i) (lines_at (λ line. Ascending 0 line.entries) t.rows i l d.first.1.rows_rise) e in
        let one : suc i ≡ i + 1 = omega arith in
        let long : length u.rows ≡ length t.rows = pivot_long j i t u l q in
        again left (k + 1) u (omega arith) (driving_pivot p j i t u d l r.below r.artificial r.nonzero q)
        (subst (λ (m : ℕ). FirstSettled p.columns m u.rows) one (first_pivot p.columns j i t u r.below l d.first.1.rows_rise f q))

    go : (left : ℕ) (o : Option ℕ) → replacing p.columns (row_at t.rows i) ≡ o
        → ((left k : ℕ) (u : Tableau) → (i + 1) + rows ≡ length u.rows → Driving p u → FirstSettled p.columns (i + 1) u.rows → EndsDriven p (driven p.columns rows (i + 1) left k u))
        → EndsDriven p (driven_at i left k t o (driven p.columns rows (i + 1)))
    go left None e again = let one : suc i ≡ i + 1 = omega arith in again left k t (omega arith) d (subst (λ (m : ℕ). FirstSettled p.columns m t.rows) one (first_more p.columns i t.rows (omega arith) f (kept_settled p t i d (omega arith) e)))
    go zero (Some j) e again = tt
    go (suc left) (Some j) e again = next j left (pivoted j i t) e refl again

pub driven_well : (p : Program) (left k : ℕ) (t : Tableau) → Driving p t → EndsDriven p (driven p.columns (length t.rows) 0 left k t)
driven_well p left k t d = driven_ends p (length t.rows) 0 left k t (omega arith) d tt

-- ---- phase two

pub second_begins : (p : Program) (t : Tableau) (o : List Entry) → IsProgram p → DrivenOut p t → priced p.cost t.rows p.cost ≡ Ok o → Second p (record { rows = t.rows; objective = o })
second_begins p t o is out e =
    let b : Both p.cost (first_rows p) (record { rows = t.rows; objective = o }) =
    priced_start p.cost (first_rows p) t.rows o is.cost.form.rises out.driving.first.1.rows_rise out.driving.first.1.units out.driving.first.1.feasible out.driving.first.0.spans out.driving.first.0.back e in
    record { three = (b.0, b.1, out.driving.first.2); settled = out.settled }

second_keeps : (p : Program) → Keeps (Second p) p.columns
second_keeps p t u j c h e m q = record {
  three = three_keep p.columns (all_columns p) p.cost (first_rows p) (omega arith) t u j c h.three e m q;
  settled = settled_pivot p.columns j c.index t u (entering_below p.columns t.objective j e) m.within h.three.1.rows_rise h.settled q;
}

pub second_path : (p : Program) (left k : ℕ) (t : Tableau) → Second p t → EndsWell (Second p) p.columns (path p.columns left k t)
second_path p left k t h = path_keeps (Second p) p.columns (second_keeps p) left k t h
