-- Tableaus in order: rising columns, unit columns in the basis, right sides not below 0.
use Rattle.std.specs.Prelude.{◌≡◌, ℕ, ◌<◌, List, [], ◌∷◌}
use Rattle.rationals.specs.Rational.{ℚ, zero_ℚ, one_ℚ, ◌+ℚ◌, ◌*ℚ◌, neg_ℚ, ◌≤ℚ◌, ◌<ℚ◌}
use Rattle.rationals.specs.Sums.{sum_ℚ}
use Rattle.rationals.specs.Sparse.{Entry, Ascending, product}
use Rattle.lp_defs.specs.Lines.{value_at}
use Rattle.lp_defs.specs.Path.{Row, Tableau}
use Rattle.lp_defs.specs.Linear.{AllLines, AllRows}
use Rattle.lp_defs.specs.Ends.{unit, IsPoint}

-- each basic column is 1 in its row and 0 in the others
abbrev pub IsUnits : List Row → Type 0
IsUnits [] = Unit {0}
IsUnits (r ∷ rows) = (product r.line.entries (unit r.basic) ≡ one_ℚ)
    × AllRows (λ s. product r.line.entries (unit s.basic) ≡ zero_ℚ) rows
    × AllRows (λ s. product s.line.entries (unit r.basic) ≡ zero_ℚ) rows
    × IsUnits rows

pub record IsBasic (t : Tableau) : Type 0 where
  pub rows_rise : AllLines (λ line. Ascending 0 line.entries) t.rows
  pub objective_rises : Ascending 0 t.objective
  pub units : IsUnits t.rows
  pub priced : AllRows (λ r. product t.objective (unit r.basic) ≡ zero_ℚ) t.rows
  pub feasible : AllLines (λ line. zero_ℚ ≤ℚ line.right) t.rows

-- all basic columns are below n
abbrev pub IsBelow : ℕ → Tableau → Type 0
IsBelow n t = AllRows (λ r. r.basic < n) t.rows

-- the point of a tableau: each basic column has its row's right side, each other column 0
abbrev pub point : List Row → ℕ → ℚ
point rows c = sum_ℚ (λ (r : Row). r.line.right *ℚ unit r.basic c) rows

-- ---- the ray
-- column j grows by 1, and each basic column by what its row's entry takes away
abbrev pub ray : ℕ → List Row → ℕ → ℚ
ray j [] c = unit j c
ray j (r ∷ rows) c = neg_ℚ (value_at r.line.entries j) *ℚ unit r.basic c +ℚ ray j rows c

pub record IsRayOf (n : ℕ) (cost : List Entry) (rows : List Row) (d : ℕ → ℚ) : Type 0 where
  pub direction : IsPoint n d
  pub flat : AllLines (λ line. product line.entries d ≡ zero_ℚ) rows
  pub falls : product cost d <ℚ zero_ℚ
