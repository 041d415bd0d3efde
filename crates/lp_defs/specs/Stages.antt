-- What holds of the tableau at each stage of a solve.
use Rattle.std.specs.Prelude.{◌≡◌, ℕ, ◌+◌, ◌<◌, ◌⊎◌, length, List}
use Rattle.rationals.specs.Rational.{zero_ℚ}
use Rattle.rationals.specs.Sparse.{Entry, product, Ascending}
use Rattle.lp_defs.specs.Path.{Row, Tableau}
use Rattle.lp_defs.specs.Linear.{AllLines, AllRows, IsTied}
use Rattle.lp_defs.specs.Ends.{unit}
use Rattle.lp_defs.specs.Basis.{IsBasic, IsBelow}
use Rattle.lp_defs.specs.Program.{Program}
use Rattle.lp_defs.specs.Solution.{first_rows, first_cost}

-- the tableau is in order, and tells of the program with this cost and these rows, whose columns are below n
abbrev pub Three : ℕ → List Entry → List Row → Tableau → Type 0
Three all cost rows t = IsTied cost rows t × IsBasic t × IsBelow all t

-- all columns, with the artificial ones
abbrev pub all_columns : Program → ℕ
all_columns p = p.columns + length p.rows

-- in phase one
abbrev pub First : Program → Tableau → Type 0
First p t = Three (all_columns p) (first_cost p) (first_rows p) t

-- behind phase one, where the artificial columns are 0
pub record Driving (p : Program) (t : Tableau) : Type 0 where
  pub first : First p t
  pub none : AllRows (λ r. (r.basic < p.columns → ⊥) → r.line.right ≡ zero_ℚ) t.rows

-- no column below n has a value
pub record IsEmptyBelow (n : ℕ) (r : Row) : Type 0 where
  pub entries : (c : ℕ) → c < n → product r.line.entries (unit c) ≡ zero_ℚ
  pub right : r.line.right ≡ zero_ℚ

-- the basic column isn't artificial, or nothing can take its place
abbrev pub Settled : ℕ → Row → Type 0
Settled n r = (r.basic < n) ⊎ IsEmptyBelow n r

-- behind the pivots on artificial columns
pub record DrivenOut (p : Program) (t : Tableau) : Type 0 where
  pub driving : Driving p t
  pub settled : AllRows (Settled p.columns) t.rows

-- in phase two
pub record Second (p : Program) (t : Tableau) : Type 0 where
  pub three : Three (all_columns p) p.cost (first_rows p) t
  pub settled : AllRows (Settled p.columns) t.rows

-- the columns of all rows rise
pub record HasRisen (u : Tableau) : Type 0 where
  pub rows : AllLines (λ line. Ascending 0 line.entries) u.rows
  pub objective : Ascending 0 u.objective
