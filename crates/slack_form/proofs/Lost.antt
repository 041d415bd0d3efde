-- Each point of the rows is that of a point of the equations.
use Rattle.std.proofs.Common.{◌≡◌, ℕ, suc, ◌≤◌, ◌<◌, Bool, true, false, eqb, ltb, List, [], ◌∷◌, refl, ap, ◌∙◌, arith}
use Rattle.std.proofs.lemmas.Bool.{eq-eqb, ne_eqb, lt-ltb, ltb-true}
use Rattle.rationals.specs.Rational.{ℚ, zero_ℚ, neg_ℚ, ◌+ℚ◌, ◌-ℚ◌, ◌≤ℚ◌, by_ring, by_linear, by_linear_eq, terms, le_refl_ℚ}
use Rattle.rationals.specs.Ring.Given.{nothing, fact, equal}
use Rattle.rationals.specs.Sparse.{product}
use Rattle.smps_words.specs.declared.row_kind.RowKind.{RowKind}
use Rattle.smps_words.specs.declared.row_kind.RowKind.TheVariants.{Less, Greater, Equal}
use Rattle.lp_defs.specs.Certificates as lp
use Rattle.slack_form.specs.declared.limits.Limit.{Limit}
use Rattle.slack_form.specs.declared.limits.Limits.{Limits}
use Rattle.slack_form.specs.Limits.{IsLimits, AllBelow}
use Rattle.slack_form.specs.Standard.{next_slack, behind, turned, is_turned, equations, turned_rights, standard_of}
use Rattle.slack_form.specs.Certificates.{Keeps, AllKeep, IsPoint}
use Rattle.slack_form.proofs.Equations.{slack, next_above, behind_above, product_equation, product_same}

-- how far the value is from the right side
abbrev pub gap : RowKind → ℚ → ℚ → ℚ
gap Less value right = right -ℚ value
gap Greater value right = value -ℚ right
gap Equal value right = zero_ℚ

gap_fills : (kind : RowKind) (value right : ℚ) → Keeps kind value right → value +ℚ slack kind (gap kind value right) ≡ right
gap_fills Less value right h = by_ring (value ∷ right ∷ []) (search terms depth 40) tt
gap_fills Greater value right h = by_ring (value ∷ right ∷ []) (search terms depth 40) tt
gap_fills Equal value right h = by_linear_eq (value ∷ right ∷ []) (equal h nothing) (search terms depth 40) tt

gap_up : (kind : RowKind) (value right : ℚ) → Keeps kind value right → zero_ℚ ≤ℚ gap kind value right
gap_up Less value right h = by_linear (value ∷ right ∷ []) (fact h nothing) (search terms depth 40) tt
gap_up Greater value right h = by_linear (value ∷ right ∷ []) (fact h nothing) (search terms depth 40) tt
gap_up Equal value right h = le_refl_ℚ zero_ℚ

-- one value in column j, and z elsewhere
abbrev pub put_at : Bool → ℚ → ℚ → ℚ
put_at true v w = v
put_at false v w = w

-- the value in column c, where the slack columns of the rows begin at j: x in the columns below n, and 0 behind the slack columns
abbrev pub filled : ℕ → (ℕ → ℚ) → ℕ → List Limit → ℕ → ℚ
filled n x j [] c = put_at (ltb c n) (x c) zero_ℚ
filled n x j (row ∷ rows) c = put_at (ltb j (next_slack j row.kind)) (put_at (eqb j c) (gap row.kind (product row.entries x) row.right) (filled n x (next_slack j row.kind) rows c)) (filled n x (next_slack j row.kind) rows c)

-- a row's slack column, and all others
filled_in : (n : ℕ) (x : ℕ → ℚ) (j : ℕ) (row : Limit) (rows : List Limit) → slack row.kind (filled n x j (row ∷ rows) j) ≡ slack row.kind (gap row.kind (product row.entries x) row.right)
filled_in n x j row rows = go row.kind
  where
    go : (kind : RowKind) → slack kind (put_at (ltb j (next_slack j kind)) (put_at (eqb j j) (gap kind (product row.entries x) row.right) (filled n x (next_slack j kind) rows j)) (filled n x (next_slack j kind) rows j))
        ≡ slack kind (gap kind (product row.entries x) row.right)
    go Less = ap (λ b. put_at b (put_at (eqb j j) (gap Less (product row.entries x) row.right) (filled n x (suc j) rows j)) (filled n x (suc j) rows j)) (lt-ltb j (suc j) (omega arith))
        ∙ ap (λ b. put_at b (gap Less (product row.entries x) row.right) (filled n x (suc j) rows j)) (eq-eqb j j refl)
    go Greater = ap neg_ℚ (ap (λ b. put_at b (put_at (eqb j j) (gap Greater (product row.entries x) row.right) (filled n x (suc j) rows j)) (filled n x (suc j) rows j)) (lt-ltb j (suc j) (omega arith))
        ∙ ap (λ b. put_at b (gap Greater (product row.entries x) row.right) (filled n x (suc j) rows j)) (eq-eqb j j refl))
    go Equal = refl

filled_off : (n : ℕ) (x : ℕ → ℚ) (j : ℕ) (row : Limit) (rows : List Limit) (c : ℕ) → (j < next_slack j row.kind → j ≡ c → ⊥) → filled n x j (row ∷ rows) c ≡ filled n x (next_slack j row.kind) rows c
filled_off n x j row rows c ne = go (ltb j (next_slack j row.kind)) refl
  where
    go : (b : Bool) → ltb j (next_slack j row.kind) ≡ b → put_at b (put_at (eqb j c) (gap row.kind (product row.entries x) row.right) (filled n x (next_slack j row.kind) rows c)) (filled n x (next_slack j row.kind) rows c)
        ≡ filled n x (next_slack j row.kind) rows c
    go true e = ap (λ b. put_at b (gap row.kind (product row.entries x) row.right) (filled n x (next_slack j row.kind) rows c)) (ne_eqb j c (ne (ltb-true j (next_slack j row.kind) e)))
    go false e = refl

-- in the columns below n it is x
filled_before : (n : ℕ) (x : ℕ → ℚ) (j : ℕ) (rows : List Limit) (c : ℕ) → c < n → n ≤ j → filled n x j rows c ≡ x c
filled_before n x j [] c h k = ap (λ b. put_at b (x c) zero_ℚ) (lt-ltb c n h)
filled_before n x j (row ∷ rows) c h k = filled_off n x j row rows c (λ p e. omega (arith, h, k)) ∙ filled_before n x (next_slack j row.kind) rows c h (omega (arith, k, next_above j row.kind))

-- behind the slack columns it is 0
filled_behind : (n : ℕ) (x : ℕ → ℚ) (j : ℕ) (rows : List Limit) (c : ℕ) → n ≤ j → behind j rows ≤ c → filled n x j rows c ≡ zero_ℚ
filled_behind n x j [] c h k = go (ltb c n) refl
  where
    go : (b : Bool) → ltb c n ≡ b → put_at b (x c) zero_ℚ ≡ zero_ℚ
    go true e = absurd (let l : c < n = ltb-true c n e in omega (arith, h, k, l))
    go false e = refl
filled_behind n x j (row ∷ rows) c h k =
    let b : next_slack j row.kind ≤ behind (next_slack j row.kind) rows = behind_above (next_slack j row.kind) rows in
    filled_off n x j row rows c (λ p e. omega (arith, p, e, k, b)) ∙ filled_behind n x (next_slack j row.kind) rows c (omega (arith, h, next_above j row.kind)) k

-- nowhere is it below 0
filled_up : (n : ℕ) (x : ℕ → ℚ) (j : ℕ) (rows : List Limit) (c : ℕ) → ((i : ℕ) → zero_ℚ ≤ℚ x i) → AllKeep rows x → zero_ℚ ≤ℚ filled n x j rows c
filled_up n x j [] c h k = go (ltb c n)
  where
    go : (b : Bool) → zero_ℚ ≤ℚ put_at b (x c) zero_ℚ
    go true = h c
    go false = le_refl_ℚ zero_ℚ
filled_up n x j (row ∷ rows) c h k = go (ltb j (next_slack j row.kind)) (eqb j c) (filled_up n x (next_slack j row.kind) rows c h k.1)
  where
    go : (a b : Bool) → zero_ℚ ≤ℚ filled n x (next_slack j row.kind) rows c
        → zero_ℚ ≤ℚ put_at a (put_at b (gap row.kind (product row.entries x) row.right) (filled n x (next_slack j row.kind) rows c)) (filled n x (next_slack j row.kind) rows c)
    go true true r = gap_up row.kind (product row.entries x) row.right k.0
    go true false r = r
    go false b r = r

-- what agrees with it meets the equations
filled_meets : (n : ℕ) (x : ℕ → ℚ) (j : ℕ) (rows : List Limit) (z : ℕ → ℚ) → AllBelow n rows → AllKeep rows x → ((c : ℕ) → c < n → z c ≡ x c) → ((c : ℕ) → j ≤ c → z c ≡ filled n x j rows c)
    → lp.MeetsAll (equations j rows) (turned_rights rows) z
filled_meets n x j [] z b k f g = tt
filled_meets n x j (row ∷ rows) z b k f g = (
  product_equation j row z
      ∙ ap (λ v. turned (is_turned row) (v +ℚ slack row.kind (z j))) (product_same n row.entries z x b.0.below f)
      ∙ ap (λ v. turned (is_turned row) (product row.entries x +ℚ v)) (ap (slack row.kind) (g j (omega arith)) ∙ filled_in n x j row rows)
      ∙ ap (turned (is_turned row)) (gap_fills row.kind (product row.entries x) row.right k.0),
  filled_meets n x (next_slack j row.kind) rows z b.1 k.1 f (λ c p. g c (omega (arith, p, next_above j row.kind)) ∙ filled_off n x j row rows c (λ q e. omega (arith, p, q, e))),
)

pub point_from : (limits : Limits) (x : ℕ → ℚ) → IsLimits limits → IsPoint limits x → (z : ℕ → ℚ) × lp.IsFeasible (standard_of limits) z × ((j : ℕ) → j < limits.columns → z j ≡ x j)
point_from limits x is h =
    let n : ℕ = limits.columns in
    let rows : List Limit = limits.rows.items in (
      filled n x n rows,
      record {
        nonnegative = record { nonnegative = λ c. filled_up n x n rows c h.nonnegative h.keeps; outside = λ c l. filled_behind n x n rows c (omega arith) l };
        meets = filled_meets n x n rows (filled n x n rows) is.rows h.keeps (λ c l. filled_before n x n rows c l (omega arith)) (λ c l. refl);
      },
      λ c l. filled_before n x n rows c l (omega arith),
    )
