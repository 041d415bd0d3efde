-- The certificates exclude every point that they speak of.
use Rattle.std.proofs.Common.{◌≡◌, ℕ, ◌<◌, rules, length, List, [], ◌∷◌, All, refl, sym, ap, ap₂, ◌∙◌, subst₂, arith}
use Rattle.std.proofs.lemmas.List.Elements.{All-cons}
use Rattle.rationals.specs.Rational.{ℚ, zero_ℚ, one_ℚ, ◌+ℚ◌, ◌-ℚ◌, ◌*ℚ◌, ◌≤ℚ◌, not_le_of_lt_ℚ, mul_nonneg_ℚ, mul_mono_ℚ, by_ring, by_eqs, by_linear, terms}
use Rattle.rationals.specs.Ring.Eqs.{done, by_eq}
use Rattle.rationals.specs.Ring.Given.{fact, nothing}
use Rattle.rationals.specs.Sums.{dot}
use Rattle.rationals.specs.Sparse.{Entry, product, coefficient, sum_below, sum_below-zero, sum_below-add, sum_below-scale, sum_below-le, sum_below-same, product-by_columns, product-along}
use Rattle.rationals.specs.Forms.{EndsBelow}
use Rattle.lp_defs.specs.Program.{Program, IsProgram, AllFormsBelow}
use Rattle.lp_defs.specs.Certificates.{MeetsAll, AllZeroAt, column_of, IsFeasible, IsOptimal, IsInfeasible, IsUnbounded}
use Rattle.lp_defs.specs.Meaning.{CertificatesHold}

-- all columns are below n, as std says it
all_below : (n : ℕ) (f : List Entry) → EndsBelow n f → All (λ (e : Entry). e.column < n) f
all_below n [] h = search rules
all_below n (e ∷ f) h = All-cons (λ (e : Entry). e.column < n) e f h.0 (all_below n f h.1)

by_columns : (n : ℕ) (f : List Entry) (z : ℕ → ℚ) → EndsBelow n f → sum_below n (λ j. coefficient f j *ℚ z j) ≡ product f z
by_columns n f z h = product-by_columns n f z (all_below n f h)

-- the values of the rows at z
values_at : List (List Entry) → (ℕ → ℚ) → List ℚ
values_at [] z = []
values_at (f ∷ rows) z = product f z ∷ values_at rows z

-- the column sums at z are the sum of the rows
sums_are : (n : ℕ) (rows : List (List Entry)) (y : List ℚ) (z : ℕ → ℚ) → AllFormsBelow n rows → sum_below n (λ j. dot y (column_of rows j) *ℚ z j) ≡ dot y (values_at rows z)
unfolding values_at
sums_are n [] [] z h = nothing_is n z
  where
    nothing_is : (n : ℕ) (z : ℕ → ℚ) → sum_below n (λ j. zero_ℚ *ℚ z j) ≡ zero_ℚ
    nothing_is n z = sum_below-same n (λ j. zero_ℚ *ℚ z j) (λ j. zero_ℚ) (λ j l. by_ring (z j ∷ []) (search terms depth 40) tt) ∙ sum_below-zero n
sums_are n [] (v ∷ y) z h = sum_below-same n (λ j. zero_ℚ *ℚ z j) (λ j. zero_ℚ) (λ j l. by_ring (z j ∷ []) (search terms depth 40) tt) ∙ sum_below-zero n
sums_are n (f ∷ rows) [] z h = sum_below-same n (λ j. zero_ℚ *ℚ z j) (λ j. zero_ℚ) (λ j l. by_ring (z j ∷ []) (search terms depth 40) tt) ∙ sum_below-zero n
sums_are n (f ∷ rows) (v ∷ y) z h =
    sum_below-same n (λ j. (v *ℚ coefficient f j +ℚ dot y (column_of rows j)) *ℚ z j) (λ j. v *ℚ (coefficient f j *ℚ z j) +ℚ dot y (column_of rows j) *ℚ z j)
    (λ j l. by_ring (v ∷ coefficient f j ∷ dot y (column_of rows j) ∷ z j ∷ []) (search terms depth 40) tt)
    ∙ sum_below-add n (λ j. v *ℚ (coefficient f j *ℚ z j)) (λ j. dot y (column_of rows j) *ℚ z j)
    ∙ ap₂ (λ (a b : ℚ). a +ℚ b) (sum_below-scale n v (λ j. coefficient f j *ℚ z j) ∙ ap (λ (a : ℚ). v *ℚ a) (by_columns n f z h.0.below)) (sums_are n rows y z h.1)

-- at a point the rows have their right sides
values_are : (rows : List (List Entry)) (right : List ℚ) (z : ℕ → ℚ) → length right ≡ length rows → MeetsAll rows right z → values_at rows z ≡ right
unfolding values_at
values_are [] [] z h m = refl
values_are [] (b ∷ right) z h m = absurd (omega arith)
values_are (f ∷ rows) [] z h m = absurd m
values_are (f ∷ rows) (b ∷ right) z h m = ap₂ (λ (v : ℚ) (l : List ℚ). v ∷ l) m.0 (values_are rows right z (omega arith) m.1)

sums_at_point : (p : Program) (y : List ℚ) (z : ℕ → ℚ) → IsProgram p → IsFeasible p z → sum_below p.columns (λ j. dot y (column_of p.rows j) *ℚ z j) ≡ dot y p.right
sums_at_point p y z is h = sums_are p.columns p.rows y z is.rows ∙ ap (dot y) (values_are p.rows p.right z is.one_each h.meets)

times_le : (a b z : ℚ) → a ≤ℚ b → zero_ℚ ≤ℚ z → a *ℚ z ≤ℚ b *ℚ z
times_le a b z h k = let g : z *ℚ a ≤ℚ z *ℚ b = mul_mono_ℚ k h in by_linear (a ∷ b ∷ z ∷ []) (fact g nothing) (search terms depth 40) tt

optimal_is_least : (p : Program) (x : ℕ → ℚ) (y : List ℚ) (z : ℕ → ℚ) → IsProgram p → IsOptimal p x y → IsFeasible p z → product p.cost x ≤ℚ product p.cost z
optimal_is_least p x y z is o h =
    let sums : sum_below p.columns (λ j. dot y (column_of p.rows j) *ℚ z j) ≡ dot y p.right = sums_at_point p y z is h in
    let costs : sum_below p.columns (λ j. coefficient p.cost j *ℚ z j) ≡ product p.cost z = by_columns p.columns p.cost z is.cost.below in
    let le : sum_below p.columns (λ j. dot y (column_of p.rows j) *ℚ z j) ≤ℚ sum_below p.columns (λ j. coefficient p.cost j *ℚ z j) =
    sum_below-le p.columns (λ j. dot y (column_of p.rows j) *ℚ z j) (λ j. coefficient p.cost j *ℚ z j) (λ j l.
    let r : zero_ℚ ≤ℚ coefficient p.cost j -ℚ dot y (column_of p.rows j) = o.duals.reduced j l in
    times_le (dot y (column_of p.rows j)) (coefficient p.cost j) (z j) (by_linear (coefficient p.cost j ∷ dot y (column_of p.rows j) ∷ []) (fact r nothing) (search terms depth 40) tt) (h.nonnegative.nonnegative j)) in
    subst₂ (λ (a b : ℚ). a ≤ℚ b) (sums ∙ sym o.equal) costs le

infeasible_has_none : (p : Program) (y : List ℚ) (z : ℕ → ℚ) → IsProgram p → IsInfeasible p y → IsFeasible p z → ⊥
infeasible_has_none p y z is o h =
    let sums : sum_below p.columns (λ j. dot y (column_of p.rows j) *ℚ z j) ≡ dot y p.right = sums_at_point p y z is h in
    let le : sum_below p.columns (λ j. dot y (column_of p.rows j) *ℚ z j) ≤ℚ sum_below p.columns (λ j. zero_ℚ *ℚ z j) =
    sum_below-le p.columns (λ j. dot y (column_of p.rows j) *ℚ z j) (λ j. zero_ℚ *ℚ z j) (λ j l. times_le (dot y (column_of p.rows j)) zero_ℚ (z j) (o.sums j l) (h.nonnegative.nonnegative j)) in
    let none : sum_below p.columns (λ j. zero_ℚ *ℚ z j) ≡ zero_ℚ = sum_below-same p.columns (λ j. zero_ℚ *ℚ z j) (λ j. zero_ℚ) (λ j l. by_ring (z j ∷ []) (search terms depth 40) tt) ∙ sum_below-zero p.columns in
    not_le_of_lt_ℚ o.above (subst₂ (λ (a b : ℚ). a ≤ℚ b) sums none le)

-- ---- along a ray
meets_along : (rows : List (List Entry)) (right : List ℚ) (x d : ℕ → ℚ) (s : ℚ) → MeetsAll rows right x → AllZeroAt rows d → MeetsAll rows right (λ j. x j +ℚ s *ℚ d j)
meets_along [] right x d s m z = tt
meets_along (f ∷ rows) [] x d s m z = m
meets_along (f ∷ rows) (b ∷ right) x d s m z = (
  product-along f x d s ∙ by_eqs (product f x ∷ product f d ∷ s ∷ b ∷ []) (by_eq one_ℚ m.0 (by_eq s z.0 done)) (search terms depth 40) tt,
  meets_along rows right x d s m.1 z.1,
)

along : (p : Program) (x d : ℕ → ℚ) (s : ℚ) → IsUnbounded p x d → zero_ℚ ≤ℚ s → IsFeasible p (λ j. x j +ℚ s *ℚ d j)
along p x d s u h = record {
  nonnegative = record {
    nonnegative = λ j.
        let a : zero_ℚ ≤ℚ x j = u.point.nonnegative.nonnegative j in
        let b : zero_ℚ ≤ℚ s *ℚ d j = mul_nonneg_ℚ s (d j) h (u.ray.nonnegative.nonnegative j) in
        by_linear (x j ∷ s ∷ d j ∷ []) (fact a (fact b nothing)) (search terms depth 40) tt;
    outside = λ j l. by_eqs (x j ∷ s ∷ d j ∷ []) (by_eq one_ℚ (u.point.nonnegative.outside j l) (by_eq s (u.ray.nonnegative.outside j l) done)) (search terms depth 40) tt;
  };
  meets = meets_along p.rows p.right x d s u.point.meets u.ray.stays;
}

pub certificates_hold : CertificatesHold
certificates_hold = record {
  optimal = optimal_is_least;
  infeasible = infeasible_has_none;
  unbounded = λ p x d s u h. (along p x d s u h, product-along p.cost x d s);
}
