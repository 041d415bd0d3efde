-- The test of parts holds exactly where they are a datum.
use Rattle.std.proofs.Common.{◌≡◌, ℕ, ◌+◌, Bool, true, false, not, ◌&&◌, leb, List, [], ◌∷◌, Option, Some, None, refl, sym, ap, ap₂, subst, ◌∙◌, add-one}
use Rattle.std.proofs.lemmas.Bool.{and_parts, leb-true, le-leb}
use Rattle.rationals.specs.Rational.{ℚ, zero_ℚ, ◌≤ℚ◌, ◌<ℚ◌, at_most, at_most_true, at_most_false, not_le_of_lt_ℚ}
use Rattle.rationals.specs.Sparse.{Entry}
use Rattle.rationals.specs.Forms.{IsForm}
use Rattle.scen_defs.specs.declared.program.NodeRow.{NodeRow}
use Rattle.scen_defs.specs.Lists.{Each}
use Rattle.rationals.specs.Intervals.{InOrder}
use Rattle.cut_defs.specs.declared.datum.ColumnBounds.{ColumnBounds}
use Rattle.cut_defs.specs.declared.datum.Share.{Share}
use Rattle.cut_defs.specs.Data.{RowsRise, BoundsRise, SharesRise, is_own, IsDatum}
use Rattle.cut_sums.specs.Checks.{in_order, row_holds, rows_hold, bound_holds, bounds_hold, share_holds, shares_hold, costs_hold, is_datum}
use Rattle.cut_sums.specs.DatumView.{datum_with}

both : (a b : Bool) → a ≡ true → b ≡ true → (a && b) ≡ true
both a b p q = ap₂ ◌&&◌ p q

at_most_yes : (a b : ℚ) → a ≤ℚ b → at_most a b ≡ true
at_most_yes a b h = go (at_most a b) refl
  where
    go : (t : Bool) → at_most a b ≡ t → at_most a b ≡ true
    go true p = p
    go false p = absurd (not_le_of_lt_ℚ (at_most_false a b p) h)

in_order_means : (low high : Option ℚ) → in_order low high ≡ true → InOrder low high
in_order_means None high e = tt
in_order_means (Some low) None e = tt
in_order_means (Some low) (Some high) e = at_most_true low high e

in_order_holds : (low high : Option ℚ) → InOrder low high → in_order low high ≡ true
in_order_holds None high h = refl
in_order_holds (Some low) None h = refl
in_order_holds (Some low) (Some high) h = at_most_yes low high h

-- ---- rows
rows_mean : (n : ℕ) (rs : List NodeRow) → rows_hold n rs ≡ true → RowsRise n rs × Each (λ (r : NodeRow). InOrder r.low r.high) rs
rows_mean n [] e = (tt, tt)
rows_mean n (r ∷ rs) e =
    let p = and_parts (row_holds n r) (rows_hold (r.row + 1) rs) e in
    let q = and_parts (leb n r.row) (in_order r.low r.high) p.0 in
    let i = rows_mean (r.row + 1) rs p.1 in
    ((leb-true n r.row q.0, subst (λ k. RowsRise k rs) (add-one r.row) i.0), (in_order_means r.low r.high q.1, i.1))

rows_true : (n : ℕ) (rs : List NodeRow) → RowsRise n rs → Each (λ (r : NodeRow). InOrder r.low r.high) rs → rows_hold n rs ≡ true
rows_true n [] a o = refl
rows_true n (r ∷ rs) a o =
    both (row_holds n r) (rows_hold (r.row + 1) rs) (both (leb n r.row) (in_order r.low r.high) (le-leb n r.row a.0) (in_order_holds r.low r.high o.0))
    (rows_true (r.row + 1) rs (subst (λ k. RowsRise k rs) (sym (add-one r.row)) a.1) o.1)

-- ---- columns
bounds_mean : (n : ℕ) (bs : List ColumnBounds) → bounds_hold n bs ≡ true → BoundsRise n bs × Each (λ (b : ColumnBounds). InOrder b.lower b.upper) bs
bounds_mean n [] e = (tt, tt)
bounds_mean n (b ∷ bs) e =
    let p = and_parts (bound_holds n b) (bounds_hold (b.column + 1) bs) e in
    let q = and_parts (leb n b.column) (in_order b.lower b.upper) p.0 in
    let i = bounds_mean (b.column + 1) bs p.1 in
    ((leb-true n b.column q.0, subst (λ k. BoundsRise k bs) (add-one b.column) i.0), (in_order_means b.lower b.upper q.1, i.1))

bounds_true : (n : ℕ) (bs : List ColumnBounds) → BoundsRise n bs → Each (λ (b : ColumnBounds). InOrder b.lower b.upper) bs → bounds_hold n bs ≡ true
bounds_true n [] a o = refl
bounds_true n (b ∷ bs) a o =
    both (bound_holds n b) (bounds_hold (b.column + 1) bs) (both (leb n b.column) (in_order b.lower b.upper) (le-leb n b.column a.0) (in_order_holds b.lower b.upper o.0))
    (bounds_true (b.column + 1) bs (subst (λ k. BoundsRise k bs) (sym (add-one b.column)) a.1) o.1)

pub bounds_rise : (bs : List ColumnBounds) → bounds_hold 0 bs ≡ true → BoundsRise 0 bs
bounds_rise bs e = (bounds_mean 0 bs e).0

-- ---- shares
above_means : (q : ℚ) → not (at_most q zero_ℚ) ≡ true → zero_ℚ <ℚ q
above_means q e = at_most_false q zero_ℚ (go (at_most q zero_ℚ) e)
  where
    go : (b : Bool) → not b ≡ true → b ≡ false
    go true e = absurd (cc)
    go false e = refl

above_holds : (q : ℚ) → zero_ℚ <ℚ q → not (at_most q zero_ℚ) ≡ true
above_holds q h = go (at_most q zero_ℚ) refl
  where
    go : (b : Bool) → at_most q zero_ℚ ≡ b → not (at_most q zero_ℚ) ≡ true
    go true p = absurd (not_le_of_lt_ℚ h (at_most_true q zero_ℚ p))
    go false p = ap not p

shares_mean : (n : ℕ) (ss : List Share) → shares_hold n ss ≡ true → SharesRise n ss × Each (λ (s : Share). zero_ℚ <ℚ s.share) ss
shares_mean n [] e = (tt, tt)
shares_mean n (s ∷ ss) e =
    let p = and_parts (share_holds n s) (shares_hold (s.child + 1) ss) e in
    let q = and_parts (leb n s.child) (not (at_most s.share zero_ℚ)) p.0 in
    let i = shares_mean (s.child + 1) ss p.1 in
    ((leb-true n s.child q.0, subst (λ k. SharesRise k ss) (add-one s.child) i.0), (above_means s.share q.1, i.1))

shares_true : (n : ℕ) (ss : List Share) → SharesRise n ss → Each (λ (s : Share). zero_ℚ <ℚ s.share) ss → shares_hold n ss ≡ true
shares_true n [] a o = refl
shares_true n (s ∷ ss) a o =
    both (share_holds n s) (shares_hold (s.child + 1) ss) (both (leb n s.child) (not (at_most s.share zero_ℚ)) (le-leb n s.child a.0) (above_holds s.share o.0))
    (shares_true (s.child + 1) ss (subst (λ k. SharesRise k ss) (sym (add-one s.child)) a.1) o.1)

-- ---- costs
costs_mean : (bs : List ColumnBounds) (es : List Entry) → costs_hold bs es ≡ true → Each (λ (e : Entry). is_own bs e.column ≡ true) es
costs_mean bs [] e = tt
costs_mean bs (d ∷ es) e = let p = and_parts (is_own bs d.column) (costs_hold bs es) e in (p.0, costs_mean bs es p.1)

costs_true : (bs : List ColumnBounds) (es : List Entry) → Each (λ (e : Entry). is_own bs e.column ≡ true) es → costs_hold bs es ≡ true
costs_true bs [] h = refl
costs_true bs (d ∷ es) h = both (is_own bs d.column) (costs_hold bs es) h.0 (costs_true bs es h.1)

-- ---- the whole
pub datum_means : (node rows_version costs_version : ℕ) (cost : List Entry) (rows : List NodeRow) (bounds : List ColumnBounds) (shares : List Share) → IsForm cost → is_datum cost rows bounds shares ≡ true → IsDatum (datum_with node rows_version costs_version cost rows bounds shares)
datum_means node rows_version costs_version cost rows bounds shares f e =
    let p = and_parts (rows_hold 0 rows) (shares_hold 0 shares && (bounds_hold 0 bounds && costs_hold bounds cost)) e in
    let q = and_parts (shares_hold 0 shares) (bounds_hold 0 bounds && costs_hold bounds cost) p.1 in
    let r = and_parts (bounds_hold 0 bounds) (costs_hold bounds cost) q.1 in
    let by_rows = rows_mean 0 rows p.0 in
    let by_shares = shares_mean 0 shares q.0 in
    let by_bounds = bounds_mean 0 bounds r.0 in
    record {
      cost = f;
      rows = by_rows.0;
      bounds = by_bounds.0;
      shares = by_shares.0;
      own = costs_mean bounds cost r.1;
      above = by_shares.1;
      row_ends = by_rows.1;
      column_ends = by_bounds.1;
    }

pub datum_holds : (node rows_version costs_version : ℕ) (cost : List Entry) (rows : List NodeRow) (bounds : List ColumnBounds) (shares : List Share) → IsDatum (datum_with node rows_version costs_version cost rows bounds shares) → is_datum cost rows bounds shares ≡ true
datum_holds node rows_version costs_version cost rows bounds shares d =
    both (rows_hold 0 rows) (shares_hold 0 shares && (bounds_hold 0 bounds && costs_hold bounds cost)) (rows_true 0 rows d.rows d.row_ends)
    (both (shares_hold 0 shares) (bounds_hold 0 bounds && costs_hold bounds cost) (shares_true 0 shares d.shares d.above)
    (both (bounds_hold 0 bounds) (costs_hold bounds cost) (bounds_true 0 bounds d.bounds d.column_ends) (costs_true bounds cost d.own)))

-- the same where the lists are read through slices
module _ (node rows_version costs_version : ℕ) (cost : List Entry) (rows seen_rows : List NodeRow) (bounds seen_bounds : List ColumnBounds) (shares seen_shares : List Share) (r : seen_rows ≡ rows) (b : seen_bounds ≡ bounds) (s : seen_shares ≡ shares) where
  seen : is_datum cost seen_rows seen_bounds seen_shares ≡ is_datum cost rows bounds shares
  seen = ap (λ l. is_datum cost l seen_bounds seen_shares) r ∙ ap (λ l. is_datum cost rows l seen_shares) b ∙ ap (is_datum cost rows bounds) s

  pub datum_seen : (t : Bool) → IsForm cost → t ≡ is_datum cost seen_rows seen_bounds seen_shares → t ≡ true → IsDatum (datum_with node rows_version costs_version cost rows bounds shares)
  datum_seen t f e h = datum_means node rows_version costs_version cost rows bounds shares f (sym seen ∙ sym e ∙ h)

  pub no_datum : (t : Bool) → t ≡ is_datum cost seen_rows seen_bounds seen_shares → t ≡ false → IsDatum (datum_with node rows_version costs_version cost rows bounds shares) → false ≡ true
  no_datum t e h d = sym h ∙ e ∙ seen ∙ datum_holds node rows_version costs_version cost rows bounds shares d
