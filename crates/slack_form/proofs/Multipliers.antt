-- Multipliers of the equations, their signs undone, are multipliers of the rows.
use Rattle.std.proofs.Common.{◌≡◌, ℕ, suc, ◌≤◌, ◌<◌, List, [], ◌∷◌, length, refl, sym, ap, ap₂, subst, ◌∙◌, arith}
use Rattle.rationals.specs.Rational.{ℚ, zero_ℚ, one_ℚ, neg_ℚ, ◌+ℚ◌, ◌-ℚ◌, ◌*ℚ◌, ◌≤ℚ◌, ◌<ℚ◌, by_ring, by_eqs, by_linear, terms}
use Rattle.rationals.specs.Ring.Eqs.{done, by_eq}
use Rattle.rationals.specs.Ring.Given.{nothing, fact, equal}
use Rattle.rationals.specs.Sums.{dot}
use Rattle.rationals.specs.Sparse.{coefficient}
use Rattle.smps_words.specs.declared.row_kind.RowKind.{RowKind}
use Rattle.smps_words.specs.declared.row_kind.RowKind.TheVariants.{Less, Greater, Equal}
use Rattle.lp_defs.specs.Certificates as lp
use Rattle.slack_form.specs.declared.limits.Limit.{Limit}
use Rattle.slack_form.specs.declared.limits.Limits.{Limits}
use Rattle.slack_form.specs.Limits.{IsLimits, AllBelow, rights, column_coefficients}
use Rattle.slack_form.specs.Standard.{next_slack, behind, turned, is_turned, equation, equations, turned_rights, standard_of, turned_back, signed}
use Rattle.slack_form.specs.Certificates.{HasSign, HaveSigns, IsDual, IsFarkas}
use Rattle.slack_form.proofs.Turns.{turned_zero, turned_times}
use Rattle.slack_form.proofs.Equations.{slack, next_above, behind_above, equations_length, past_end, entry_before, entry_in, entry_behind}

-- ---- sums
-- in a column before the slack columns the equations have the sum of the rows
pub sum_before : (j c : ℕ) (rows : List Limit) (ds : List ℚ) → c < j → dot ds (lp.column_of (equations j rows) c) ≡ dot (turned_back rows ds) (column_coefficients c rows)
sum_before j c [] [] h = refl
sum_before j c [] (d ∷ ds) h = refl
sum_before j c (row ∷ rows) [] h = refl
sum_before j c (row ∷ rows) (d ∷ ds) h =
    ap₂ ◌+ℚ◌ (ap (λ v. d *ℚ v) (entry_before j c row h) ∙ turned_times (is_turned row) d (coefficient row.entries c))
    (sum_before (next_slack j row.kind) c rows ds (omega (arith, h, next_above j row.kind)))

pub worth_is : (rows : List Limit) (ds : List ℚ) → dot (turned_back rows ds) (rights rows) ≡ dot ds (turned_rights rows)
worth_is [] [] = refl
worth_is [] (d ∷ ds) = refl
worth_is (row ∷ rows) [] = refl
worth_is (row ∷ rows) (d ∷ ds) = ap₂ ◌+ℚ◌ (sym (turned_times (is_turned row) d row.right)) (worth_is rows ds)

-- rows have no entries behind their columns
no_entries : (m c : ℕ) (rows : List Limit) (ds : List ℚ) → AllBelow m rows → m ≤ c → dot ds (column_coefficients c rows) ≡ zero_ℚ
no_entries m c [] [] a h = refl
no_entries m c [] (d ∷ ds) a h = refl
no_entries m c (row ∷ rows) [] a h = refl
no_entries m c (row ∷ rows) (d ∷ ds) a h =
    let e : coefficient row.entries c ≡ zero_ℚ = past_end m c row.entries a.0.below h in
    let r : dot ds (column_coefficients c rows) ≡ zero_ℚ = no_entries m c rows ds a.1 h in
    by_eqs (d ∷ coefficient row.entries c ∷ dot ds (column_coefficients c rows) ∷ []) (by_eq d e (by_eq one_ℚ r done)) (search terms depth 40) tt

-- ---- signs
-- the sum in a row's slack column is its multiplier, with the sign of the slack
slack_sum : (m j : ℕ) (row : Limit) (rows : List Limit) (d : ℚ) (ds : List ℚ) → m ≤ j → AllBelow m (row ∷ rows) → j < next_slack j row.kind
    → dot (d ∷ ds) (lp.column_of (equations j (row ∷ rows)) j) ≡ turned (is_turned row) d *ℚ slack row.kind one_ℚ
slack_sum m j row rows d ds h a l =
    let rest : dot ds (lp.column_of (equations (next_slack j row.kind) rows) j) ≡ zero_ℚ =
    sum_before (next_slack j row.kind) j rows ds l ∙ no_entries m j rows (turned_back rows ds) a.1 h in
    ap (λ v. d *ℚ coefficient (equation j row) j +ℚ v) rest
    ∙ ap (λ v. d *ℚ v +ℚ zero_ℚ) (entry_in m j row a.0.below h)
    ∙ by_ring (d *ℚ turned (is_turned row) (slack row.kind one_ℚ) ∷ []) (search terms depth 40) tt
    ∙ turned_times (is_turned row) d (slack row.kind one_ℚ)

-- behind it the row adds nothing
behind_sum : (m j c : ℕ) (row : Limit) (rows : List Limit) (d : ℚ) (ds : List ℚ) → m ≤ j → AllBelow m (row ∷ rows) → next_slack j row.kind ≤ c
    → dot (d ∷ ds) (lp.column_of (equations j (row ∷ rows)) c) ≡ dot ds (lp.column_of (equations (next_slack j row.kind) rows) c)
behind_sum m j c row rows d ds h a l =
    let e : coefficient (equation j row) c ≡ zero_ℚ = entry_behind m j c row a.0.below (omega (arith, h, l, next_above j row.kind)) l ∙ turned_zero (is_turned row) in
    by_eqs (d ∷ coefficient (equation j row) c ∷ dot ds (lp.column_of (equations (next_slack j row.kind) rows) c) ∷ []) (by_eq d e done) (search terms depth 40) tt

-- sums of at most 0 in the slack columns give the signs
sign_of_sum : (kind : RowKind) (own : ℚ) (j n : ℕ) → next_slack j kind ≤ n → (j < next_slack j kind → j < n → own *ℚ slack kind one_ℚ ≤ℚ zero_ℚ) → HasSign kind own
sign_of_sum Less own j n l h = let s : own *ℚ one_ℚ ≤ℚ zero_ℚ = h (omega arith) (omega arith) in by_linear (own ∷ []) (fact s nothing) (search terms depth 40) tt
sign_of_sum Greater own j n l h = let s : own *ℚ neg_ℚ one_ℚ ≤ℚ zero_ℚ = h (omega arith) (omega arith) in by_linear (own ∷ []) (fact s nothing) (search terms depth 40) tt
sign_of_sum Equal own j n l h = tt

signs_of_sums : (m j : ℕ) (rows : List Limit) (ds : List ℚ) → m ≤ j → AllBelow m rows
    → ((c : ℕ) → j ≤ c → c < behind j rows → dot ds (lp.column_of (equations j rows) c) ≤ℚ zero_ℚ) → HaveSigns rows (turned_back rows ds)
signs_of_sums m j [] ds h a s = tt
signs_of_sums m j (row ∷ rows) [] h a s = tt
signs_of_sums m j (row ∷ rows) (d ∷ ds) h a s = (
  sign_of_sum row.kind (turned (is_turned row) d) j (behind (next_slack j row.kind) rows) (behind_above (next_slack j row.kind) rows)
      (λ p q. subst (λ (v : ℚ). v ≤ℚ zero_ℚ) (slack_sum m j row rows d ds h a p) (s j (omega arith) q)),
  signs_of_sums m (next_slack j row.kind) rows ds (omega (arith, h, next_above j row.kind)) a.1
      (λ c p q. subst (λ (v : ℚ). v ≤ℚ zero_ℚ) (behind_sum m j c row rows d ds h a p) (s c (omega (arith, p, next_above j row.kind)) q)),
)

-- ---- the certificates
back_length : (rows : List Limit) (ds : List ℚ) → length ds ≡ length rows → length (turned_back rows ds) ≡ length rows
back_length [] ds h = refl
back_length (row ∷ rows) [] h = absurd (omega (arith, h))
back_length (row ∷ rows) (d ∷ ds) h = ap suc (back_length rows ds (omega (arith, h)))

pub dual_of : (limits : Limits) (ds : List ℚ) → IsLimits limits → lp.IsDual (standard_of limits) ds → IsDual limits (signed limits ds)
dual_of limits ds is h = record {
  one_each = back_length limits.rows.items ds (h.one_each ∙ equations_length limits.columns limits.rows.items);
  signs = signs_of_sums limits.columns limits.columns limits.rows.items ds (omega arith) is.rows (λ c p q.
      let r : zero_ℚ ≤ℚ lp.reduced_cost (standard_of limits) ds c = h.reduced c q in
      let e : coefficient limits.cost c ≡ zero_ℚ = past_end limits.columns c limits.cost is.cost.below p in
      by_linear (coefficient limits.cost c ∷ dot ds (lp.column_of (equations limits.columns limits.rows.items) c) ∷ []) (fact r (equal e nothing)) (search terms depth 40) tt);
  reduced = λ c l. subst (λ (v : ℚ). zero_ℚ ≤ℚ coefficient limits.cost c -ℚ v) (sum_before limits.columns c limits.rows.items ds l) (h.reduced c (omega (arith, l, behind_above limits.columns limits.rows.items)));
}

pub farkas_of : (limits : Limits) (ds : List ℚ) → IsLimits limits → lp.IsInfeasible (standard_of limits) ds → IsFarkas limits (signed limits ds)
farkas_of limits ds is h = record {
  one_each = back_length limits.rows.items ds (h.one_each ∙ equations_length limits.columns limits.rows.items);
  signs = signs_of_sums limits.columns limits.columns limits.rows.items ds (omega arith) is.rows (λ c p q. h.sums c q);
  sums = λ c l. subst (λ (v : ℚ). v ≤ℚ zero_ℚ) (sum_before limits.columns c limits.rows.items ds l) (h.sums c (omega (arith, l, behind_above limits.columns limits.rows.items)));
  above = subst (λ (v : ℚ). zero_ℚ <ℚ v) (sym (worth_is limits.rows.items ds)) h.above;
}
