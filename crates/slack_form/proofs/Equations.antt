-- Equations with slack columns, as forms.
use Rattle.std.proofs.Common.{◌≡◌, ℕ, zero, suc, ◌+◌, ◌≤◌, ◌<◌, Bool, eqb, List, [], ◌∷◌, ◌++◌, length, get_or, drop, refl, sym, subst, ap, ap₂, ◌∙◌, append-nil, arith}
use Rattle.std.proofs.lemmas.Bool.{eq-eqb, ne_eqb}
use Rattle.rationals.specs.Rational.{ℚ, zero_ℚ, one_ℚ, neg_ℚ, ◌+ℚ◌, ◌*ℚ◌, by_ring, by_eqs, terms, zero_add_ℚ, add_zero_ℚ, ne_of_gt_ℚ, zero_lt_one_ℚ}
use Rattle.rationals.specs.Ring.Eqs.{done, by_eq}
use Rattle.rationals.specs.Sums.{sum-append}
use Rattle.rationals.specs.Sparse.{Entry, product, coefficient, value_if}
use Rattle.rationals.specs.Forms.{IsForm, EndsBelow}
use Rattle.rationals.proofs.WalkLaws.{pushed_is_form}
use Rattle.smps_words.specs.declared.row_kind.RowKind.{RowKind}
use Rattle.smps_words.specs.declared.row_kind.RowKind.TheVariants.{Less, Greater, Equal}
use Rattle.lp_defs.specs.Program as lp
use Rattle.slack_form.specs.declared.limits.Limit.{Limit}
use Rattle.slack_form.specs.Limits.{AllBelow}
use Rattle.slack_form.specs.Standard.{slack_at, next_slack, behind, turned, turned_form, is_turned, equation, equations}
use Rattle.slack_form.proofs.Turns.{product_turned, coefficient_turned, turned_append, turned_is_form, turned_below}

-- ---- numbers of columns
pub next_above : (j : ℕ) (kind : RowKind) → j ≤ next_slack j kind
next_above j Less = omega arith
next_above j Greater = omega arith
next_above j Equal = omega arith

next_few : (j : ℕ) (kind : RowKind) → next_slack j kind ≤ suc j
next_few j Less = omega arith
next_few j Greater = omega arith
next_few j Equal = omega arith

pub behind_above : (j : ℕ) (rows : List Limit) → j ≤ behind j rows
behind_above j [] = omega arith
behind_above j (row ∷ rows) = omega (arith, next_above j row.kind, behind_above (next_slack j row.kind) rows)

pub behind_few : (j : ℕ) (rows : List Limit) → behind j rows ≤ j + length rows
behind_few j [] = omega arith
behind_few j (row ∷ rows) = omega (arith, next_few j row.kind, behind_few (next_slack j row.kind) rows)

-- ---- forms below a number
pub below_more : (m n : ℕ) (f : List Entry) → m ≤ n → EndsBelow m f → EndsBelow n f
below_more m n [] h b = tt
below_more m n (e ∷ f) h b = let l : e.column < m = b.0 in (omega arith, below_more m n f h b.1)

pub form_below_more : (m n : ℕ) (f : List Entry) → m ≤ n → lp.IsFormBelow m f → lp.IsFormBelow n f
form_below_more m n f h b = record { form = b.form; below = below_more m n f h b.below }

below_append : (n : ℕ) (f g : List Entry) → EndsBelow n f → EndsBelow n g → EndsBelow n (f ++ g)
below_append n [] g h k = k
below_append n (e ∷ f) g h k = (h.0, below_append n f g h.1 k)

-- no entry at or behind the number
pub past_end : (n c : ℕ) (f : List Entry) → EndsBelow n f → n ≤ c → coefficient f c ≡ zero_ℚ
past_end n c [] h k = refl
past_end n c (e ∷ f) h k = ap (λ b. value_if b e.value +ℚ coefficient f c) (ne_eqb e.column c (λ q. absurd (omega (arith, h.0, k, q)))) ∙ zero_add_ℚ (coefficient f c) ∙ past_end n c f h.1 k

-- the value is that of the columns below the number
pub product_same : (n : ℕ) (f : List Entry) (x y : ℕ → ℚ) → EndsBelow n f → ((j : ℕ) → j < n → x j ≡ y j) → product f x ≡ product f y
product_same n [] x y h e = refl
product_same n (d ∷ f) x y h e = ap₂ (λ a b. d.value *ℚ a +ℚ b) (e d.column h.0) (product_same n f x y h.1 e)

-- of rows below n from place i on, the one there
pub below_at : (n i : ℕ) (rows : List Limit) (row : Limit) → i < length rows → row ≡ get_or rows i row → AllBelow n (drop i rows) → lp.IsFormBelow n row.entries
below_at n i [] row h e a = absurd (omega arith)
below_at n zero (first ∷ rows) row h e a = subst (λ (r : Limit). lp.IsFormBelow n r.entries) (sym e) a.0
below_at n (suc i) (first ∷ rows) row h e a = below_at n i rows row (omega arith) e a

-- ---- slack entries
-- what a slack column of value s adds to a row
abbrev pub slack : RowKind → ℚ → ℚ
slack Less s = s
slack Greater s = neg_ℚ s
slack Equal s = zero_ℚ

product_slack : (j : ℕ) (kind : RowKind) (x : ℕ → ℚ) → product (slack_at j kind) x ≡ slack kind (x j)
product_slack j Less x = by_ring (x j ∷ []) (search terms depth 40) tt
product_slack j Greater x = by_ring (x j ∷ []) (search terms depth 40) tt
product_slack j Equal x = refl

coefficient_slack : (j : ℕ) (kind : RowKind) → coefficient (slack_at j kind) j ≡ slack kind one_ℚ
coefficient_slack j Less = ap (λ b. value_if b one_ℚ +ℚ zero_ℚ) (eq-eqb j j refl) ∙ add_zero_ℚ one_ℚ
coefficient_slack j Greater = ap (λ b. value_if b (neg_ℚ one_ℚ) +ℚ zero_ℚ) (eq-eqb j j refl) ∙ add_zero_ℚ (neg_ℚ one_ℚ)
coefficient_slack j Equal = refl

coefficient_off : (j c : ℕ) (kind : RowKind) → (j ≡ c → ⊥) → coefficient (slack_at j kind) c ≡ zero_ℚ
coefficient_off j c Less n = ap (λ b. value_if b one_ℚ +ℚ zero_ℚ) (ne_eqb j c n) ∙ add_zero_ℚ zero_ℚ
coefficient_off j c Greater n = ap (λ b. value_if b (neg_ℚ one_ℚ) +ℚ zero_ℚ) (ne_eqb j c n) ∙ add_zero_ℚ zero_ℚ
coefficient_off j c Equal n = refl

coefficient_past : (j c : ℕ) (kind : RowKind) → next_slack j kind ≤ c → coefficient (slack_at j kind) c ≡ zero_ℚ
coefficient_past j c Less h = coefficient_off j c Less (λ e. omega arith)
coefficient_past j c Greater h = coefficient_off j c Greater (λ e. omega arith)
coefficient_past j c Equal h = refl

-- ---- equations
-- an equation's value, and its coefficients
pub product_equation : (j : ℕ) (row : Limit) (x : ℕ → ℚ) → product (equation j row) x ≡ turned (is_turned row) (product row.entries x +ℚ slack row.kind (x j))
product_equation j row x =
    product_turned (is_turned row) (row.entries ++ slack_at j row.kind) x
    ∙ ap (turned (is_turned row)) (sum-append (λ (e : Entry). e.value *ℚ x e.column) row.entries (slack_at j row.kind) ∙ ap (λ v. product row.entries x +ℚ v) (product_slack j row.kind x))

coefficient_equation : (j c : ℕ) (row : Limit) (v : ℚ) → coefficient (slack_at j row.kind) c ≡ v → coefficient (equation j row) c ≡ turned (is_turned row) (coefficient row.entries c +ℚ v)
coefficient_equation j c row v e =
    coefficient_turned (is_turned row) (row.entries ++ slack_at j row.kind) c
    ∙ ap (turned (is_turned row)) (sum-append (λ (e : Entry). value_if (eqb e.column c) e.value) row.entries (slack_at j row.kind) ∙ ap (λ v. coefficient row.entries c +ℚ v) e)

-- before the slack column
pub entry_before : (j c : ℕ) (row : Limit) → c < j → coefficient (equation j row) c ≡ turned (is_turned row) (coefficient row.entries c)
entry_before j c row h = coefficient_equation j c row zero_ℚ (coefficient_off j c row.kind (λ e. omega arith)) ∙ ap (turned (is_turned row)) (add_zero_ℚ (coefficient row.entries c))

-- in it
pub entry_in : (n j : ℕ) (row : Limit) → EndsBelow n row.entries → n ≤ j → coefficient (equation j row) j ≡ turned (is_turned row) (slack row.kind one_ℚ)
entry_in n j row b h =
    coefficient_equation j j row (slack row.kind one_ℚ) (coefficient_slack j row.kind)
    ∙ ap (λ v. turned (is_turned row) (v +ℚ slack row.kind one_ℚ)) (past_end n j row.entries b h) ∙ ap (turned (is_turned row)) (zero_add_ℚ (slack row.kind one_ℚ))

-- behind it
pub entry_behind : (n j c : ℕ) (row : Limit) → EndsBelow n row.entries → n ≤ c → next_slack j row.kind ≤ c → coefficient (equation j row) c ≡ turned (is_turned row) zero_ℚ
entry_behind n j c row b h k =
    coefficient_equation j c row zero_ℚ (coefficient_past j c row.kind k)
    ∙ ap (λ v. turned (is_turned row) (v +ℚ zero_ℚ)) (past_end n c row.entries b h) ∙ ap (turned (is_turned row)) (add_zero_ℚ zero_ℚ)

one_not_zero : one_ℚ ≡ zero_ℚ → ⊥
one_not_zero e = ne_of_gt_ℚ zero_lt_one_ℚ e

minus_one_not_zero : neg_ℚ one_ℚ ≡ zero_ℚ → ⊥
minus_one_not_zero e = one_not_zero (by_eqs [] (by_eq (neg_ℚ one_ℚ) e done) (search terms depth 40) tt)

with_slack_is_form : (j : ℕ) (kind : RowKind) (f : List Entry) → IsForm f → EndsBelow j f → IsForm (f ++ slack_at j kind)
with_slack_is_form j Less f h b = pushed_is_form j one_ℚ f one_not_zero h b
with_slack_is_form j Greater f h b = pushed_is_form j (neg_ℚ one_ℚ) f minus_one_not_zero h b
with_slack_is_form j Equal f h b = subst IsForm (sym (append-nil f)) h

slack_below : (j n : ℕ) (kind : RowKind) → next_slack j kind ≤ n → EndsBelow n (slack_at j kind)
slack_below j n Less h = (omega arith, tt)
slack_below j n Greater h = (omega arith, tt)
slack_below j n Equal h = tt

pub equation_is_form : (j n : ℕ) (row : Limit) → lp.IsFormBelow j row.entries → next_slack j row.kind ≤ n → lp.IsFormBelow n (equation j row)
equation_is_form j n row h k = record {
  form = turned_is_form (is_turned row) (row.entries ++ slack_at j row.kind) (with_slack_is_form j row.kind row.entries h.form h.below);
  below = turned_below (is_turned row) n (row.entries ++ slack_at j row.kind)
      (below_append n row.entries (slack_at j row.kind) (below_more j n row.entries (omega (arith, next_above j row.kind, k)) h.below) (slack_below j n row.kind k));
}

-- what the code makes of a row
pub equation_made : (b : Bool) (j : ℕ) (row : Limit) (front whole : List Entry) → b ≡ is_turned row → front ≡ turned_form b row.entries → whole ≡ front ++ turned_form b (slack_at j row.kind) → whole ≡ equation j row
equation_made b j row front whole eb ef ew =
    ew ∙ ap (λ f. f ++ turned_form b (slack_at j row.kind)) ef ∙ sym (turned_append b row.entries (slack_at j row.kind)) ∙ ap (λ t. turned_form t (row.entries ++ slack_at j row.kind)) eb

-- ---- the equations of rows
pub equations_below : (m j n : ℕ) (rows : List Limit) → m ≤ j → behind j rows ≤ n → AllBelow m rows → lp.AllFormsBelow n (equations j rows)
equations_below m j n [] h k a = tt
equations_below m j n (row ∷ rows) h k a = (
  equation_is_form j n row (form_below_more m j row.entries h a.0) (omega (arith, k, behind_above (next_slack j row.kind) rows)),
  equations_below m (next_slack j row.kind) n rows (omega (arith, h, next_above j row.kind)) k a.1,
)

pub equations_length : (j : ℕ) (rows : List Limit) → length (equations j rows) ≡ length rows
equations_length j [] = refl
equations_length j (row ∷ rows) = ap suc (equations_length (next_slack j row.kind) rows)
