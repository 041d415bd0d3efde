-- What shows that an outcome is right, with no word of how it was found.
use Rattle.std.specs.Prelude.{◌≡◌, ℕ, ◌+◌, ◌*◌, ◌^◌, ◌<◌, ◌≤◌, List, [], ◌∷◌, length}
use Rattle.rationals.specs.Rational.{ℚ, zero_ℚ, ◌-ℚ◌, ◌≤ℚ◌, ◌<ℚ◌}
use Rattle.rationals.specs.Sums.{dot}
use Rattle.rationals.specs.Sparse.{Entry, coefficient, product}
use Rattle.lp_defs.specs.Program.{Program, IsProgram, EndsInUnits}
use Rattle.lp_defs.specs.Solution.{Solution, Optimum, Nowhere, Endless, Cut_off, Passes, solution}

-- each form has the value of its right side at x
abbrev pub MeetsAll : List (List Entry) → List ℚ → (ℕ → ℚ) → Type 0
MeetsAll [] right x = Unit {0}
MeetsAll (f ∷ rows) [] x = ⊥
MeetsAll (f ∷ rows) (b ∷ right) x = (product f x ≡ b) × MeetsAll rows right x

-- each form has the value 0 at x
abbrev pub AllZeroAt : List (List Entry) → (ℕ → ℚ) → Type 0
AllZeroAt [] x = Unit {0}
AllZeroAt (f ∷ rows) x = (product f x ≡ zero_ℚ) × AllZeroAt rows x

-- nowhere below 0, and 0 outside the columns
pub record IsNonnegative (p : Program) (x : ℕ → ℚ) : Type 0 where
  pub nonnegative : (j : ℕ) → zero_ℚ ≤ℚ x j
  pub outside : (j : ℕ) → p.columns ≤ j → x j ≡ zero_ℚ

-- a point that meets every equation, with no entry below 0
pub record IsFeasible (p : Program) (x : ℕ → ℚ) : Type 0 where
  pub nonnegative : IsNonnegative p x
  pub meets : MeetsAll p.rows p.right x

-- the coefficients of column j, by row
abbrev pub column_of : List (List Entry) → ℕ → List ℚ
column_of [] j = []
column_of (f ∷ rows) j = coefficient f j ∷ column_of rows j

-- the cost of column j less the sum of its coefficients, each times its row's multiplier
abbrev pub reduced_cost : Program → List ℚ → ℕ → ℚ
reduced_cost p y j = coefficient p.cost j -ℚ dot y (column_of p.rows j)

-- duals with no reduced cost below 0
pub record IsDual (p : Program) (y : List ℚ) : Type 0 where
  pub one_each : length y ≡ length p.rows
  pub reduced : (j : ℕ) → j < p.columns → zero_ℚ ≤ℚ reduced_cost p y j

-- a point and duals of equal value
pub record IsOptimal (p : Program) (x : ℕ → ℚ) (y : List ℚ) : Type 0 where
  pub point : IsFeasible p x
  pub duals : IsDual p y
  pub equal : product p.cost x ≡ dot y p.right

-- multipliers with no column sum above 0 and a sum of right sides above 0
pub record IsInfeasible (p : Program) (y : List ℚ) : Type 0 where
  pub one_each : length y ≡ length p.rows
  pub sums : (j : ℕ) → j < p.columns → dot y (column_of p.rows j) ≤ℚ zero_ℚ
  pub above : zero_ℚ <ℚ dot y p.right

-- a direction with no entry below 0 in which every row stays and the cost falls
pub record IsRay (p : Program) (d : ℕ → ℚ) : Type 0 where
  pub nonnegative : IsNonnegative p d
  pub stays : AllZeroAt p.rows d
  pub falls : product p.cost d <ℚ zero_ℚ

-- a point, and a ray from it
pub record IsUnbounded (p : Program) (x d : ℕ → ℚ) : Type 0 where
  pub point : IsFeasible p x
  pub ray : IsRay p d

-- what an answer shows of itself
abbrev pub IsCertified : Program → Solution → Type 0
IsCertified p (Optimum x y) = IsOptimal p x y
IsCertified p (Nowhere y) = IsInfeasible p y
IsCertified p (Endless x d) = IsUnbounded p x d
IsCertified p Cut_off = Unit {0}
IsCertified p (Passes k o) = Unit {0}

abbrev pub SolutionsAreCertified : Type 0
SolutionsAreCertified = (p : Program) (pivots : ℕ) → IsProgram p → IsCertified p (solution p pivots)

-- a program whose last columns, one for each row, are unit columns is never infeasible
abbrev pub UnitColumnsAreFeasible : Type 0
UnitColumnsAreFeasible = (p : Program) (y : List ℚ) → IsProgram p → EndsInUnits p → IsInfeasible p y → ⊥

-- where twice as many pivots are allowed as there are sets of its columns and artificial columns, and one more for each row,
-- the path is never cut off
abbrev pub PivotsAreBounded : Type 0
PivotsAreBounded = (p : Program) (pivots : ℕ) → IsProgram p → 2 * 2 ^ (p.columns + length p.rows) + length p.rows ≤ pivots
    → solution p pivots ≡ Cut_off → ⊥
