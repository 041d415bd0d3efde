-- Points and rays of the equations are those of the rows.
use Rattle.std.proofs.Common.{◌≡◌, ℕ, List, [], ◌∷◌, sym, ◌∙◌}
use Rattle.rationals.specs.Rational.{ℚ, zero_ℚ, ◌+ℚ◌, ◌≤ℚ◌, by_linear, by_linear_eq, terms}
use Rattle.rationals.specs.Ring.Given.{nothing, fact, equal}
use Rattle.rationals.specs.Sparse.{product}
use Rattle.smps_words.specs.declared.row_kind.RowKind.{RowKind}
use Rattle.smps_words.specs.declared.row_kind.RowKind.TheVariants.{Less, Greater, Equal}
use Rattle.lp_defs.specs.Certificates as lp
use Rattle.slack_form.specs.declared.limits.Limit.{Limit}
use Rattle.slack_form.specs.declared.limits.Limits.{Limits}
use Rattle.slack_form.specs.Standard.{next_slack, turned, is_turned, equation, equations, turned_rights, standard_of}
use Rattle.slack_form.specs.Certificates.{Keeps, AllKeep, AllKeepZero, IsPoint, IsRay}
use Rattle.slack_form.proofs.Turns.{turned_zero, turned_same}
use Rattle.slack_form.proofs.Equations.{slack, product_equation}

-- with a slack that is at least 0 the value keeps to the right side
keeps_by_slack : (kind : RowKind) (value s right : ℚ) → value +ℚ slack kind s ≡ right → zero_ℚ ≤ℚ s → Keeps kind value right
keeps_by_slack Less value s right e h = by_linear (value ∷ s ∷ right ∷ []) (equal e (fact h nothing)) (search terms depth 40) tt
keeps_by_slack Greater value s right e h = by_linear (value ∷ s ∷ right ∷ []) (equal e (fact h nothing)) (search terms depth 40) tt
keeps_by_slack Equal value s right e h = by_linear_eq (value ∷ right ∷ []) (equal e nothing) (search terms depth 40) tt

row_keeps : (j : ℕ) (row : Limit) (x : ℕ → ℚ) (right : ℚ) → product (equation j row) x ≡ turned (is_turned row) right → zero_ℚ ≤ℚ x j → Keeps row.kind (product row.entries x) right
row_keeps j row x right e h = keeps_by_slack row.kind (product row.entries x) (x j) right (turned_same (is_turned row) (product row.entries x +ℚ slack row.kind (x j)) right (sym (product_equation j row x) ∙ e)) h

all_keep : (j : ℕ) (rows : List Limit) (x : ℕ → ℚ) → ((c : ℕ) → zero_ℚ ≤ℚ x c) → lp.MeetsAll (equations j rows) (turned_rights rows) x → AllKeep rows x
all_keep j [] x h m = tt
all_keep j (row ∷ rows) x h m = (row_keeps j row x row.right m.0 (h j), all_keep (next_slack j row.kind) rows x h m.1)

all_keep_zero : (j : ℕ) (rows : List Limit) (x : ℕ → ℚ) → ((c : ℕ) → zero_ℚ ≤ℚ x c) → lp.AllZeroAt (equations j rows) x → AllKeepZero rows x
all_keep_zero j [] x h m = tt
all_keep_zero j (row ∷ rows) x h m = (row_keeps j row x zero_ℚ (m.0 ∙ sym (turned_zero (is_turned row))) (h j), all_keep_zero (next_slack j row.kind) rows x h m.1)

pub point_of : (limits : Limits) (x : ℕ → ℚ) → lp.IsFeasible (standard_of limits) x → IsPoint limits x
point_of limits x f = record { nonnegative = f.nonnegative.nonnegative; keeps = all_keep limits.columns limits.rows.items x f.nonnegative.nonnegative f.meets }

pub ray_of : (limits : Limits) (d : ℕ → ℚ) → lp.IsRay (standard_of limits) d → IsRay limits d
ray_of limits d r = record {
  nonnegative = r.nonnegative.nonnegative;
  stays = all_keep_zero limits.columns limits.rows.items d r.nonnegative.nonnegative r.stays;
  falls = r.falls;
}
