-- What holds at x holds at values that are the same.
use Rattle.std.proofs.Common.{◌≡◌, ℕ, List, [], ◌∷◌, refl, sym, ap, ap₂, ◌∙◌, subst}
use Rattle.rationals.specs.Rational.{ℚ, zero_ℚ, ◌+ℚ◌, ◌*ℚ◌, ◌≤ℚ◌, ◌<ℚ◌}
use Rattle.rationals.specs.Sparse.{Entry, product}
use Rattle.lp_defs.specs.Program.{Program}
use Rattle.lp_defs.specs.Certificates.{MeetsAll, AllZeroAt, IsNonnegative, IsFeasible, IsOptimal, IsUnbounded}

product_same : (f : List Entry) (x z : ℕ → ℚ) → ((c : ℕ) → z c ≡ x c) → product f z ≡ product f x
product_same [] x z h = refl
product_same (t ∷ f) x z h = ap₂ ◌+ℚ◌ (ap (λ (v : ℚ). t.value *ℚ v) (h t.column)) (product_same f x z h)

meets_same : (rows : List (List Entry)) (right : List ℚ) (x z : ℕ → ℚ) → ((c : ℕ) → z c ≡ x c) → MeetsAll rows right x → MeetsAll rows right z
meets_same [] right x z h m = tt
meets_same (f ∷ rows) [] x z h m = m
meets_same (f ∷ rows) (b ∷ right) x z h m = (product_same f x z h ∙ m.0, meets_same rows right x z h m.1)

zero_same : (rows : List (List Entry)) (x z : ℕ → ℚ) → ((c : ℕ) → z c ≡ x c) → AllZeroAt rows x → AllZeroAt rows z
zero_same [] x z h m = tt
zero_same (f ∷ rows) x z h m = (product_same f x z h ∙ m.0, zero_same rows x z h m.1)

nonnegative_same : (p : Program) (x z : ℕ → ℚ) → ((c : ℕ) → z c ≡ x c) → IsNonnegative p x → IsNonnegative p z
nonnegative_same p x z h n = record { nonnegative = λ j. subst (λ (v : ℚ). zero_ℚ ≤ℚ v) (sym (h j)) (n.nonnegative j); outside = λ j k. h j ∙ n.outside j k }

feasible_same : (p : Program) (x z : ℕ → ℚ) → ((c : ℕ) → z c ≡ x c) → IsFeasible p x → IsFeasible p z
feasible_same p x z h f = record { nonnegative = nonnegative_same p x z h f.nonnegative; meets = meets_same p.rows p.right x z h f.meets }

pub optimal_same : (p : Program) (x z : ℕ → ℚ) (y : List ℚ) → ((c : ℕ) → z c ≡ x c) → IsOptimal p x y → IsOptimal p z y
optimal_same p x z y h o = record { point = feasible_same p x z h o.point; duals = o.duals; equal = product_same p.cost x z h ∙ o.equal }

pub unbounded_same : (p : Program) (x z d e : ℕ → ℚ) → ((c : ℕ) → z c ≡ x c) → ((c : ℕ) → e c ≡ d c) → IsUnbounded p x d → IsUnbounded p z e
unbounded_same p x z d e h k u = record {
  point = feasible_same p x z h u.point;
  ray = record {
    nonnegative = nonnegative_same p d e k u.ray.nonnegative;
    stays = zero_same p.rows d e k u.ray.stays;
    falls = subst (λ (v : ℚ). v <ℚ zero_ℚ) (sym (product_same p.cost d e k)) u.ray.falls;
  };
}
