-- What lines mean: linear equations.
use Rattle.std.specs.Prelude.{◌≡◌, ℕ, List, [], ◌∷◌}
use Rattle.rationals.specs.Rational.{ℚ, ◌-ℚ◌, ◌*ℚ◌}
use Rattle.rationals.specs.Sums.{dot}
use Rattle.rationals.specs.Sparse.{Entry, product}
use Rattle.lp_defs.specs.Lines.{Line}
use Rattle.lp_defs.specs.Path.{Row, Tableau}

abbrev pub Holds : (ℕ → ℚ) → Line → Type 0
Holds x line = product line.entries x ≡ line.right

-- P holds of each row's line
abbrev pub AllLines : (Line → Type 0) → List Row → Type 0
AllLines P [] = Unit {0}
AllLines P (r ∷ rows) = P r.line × AllLines P rows

abbrev pub AllRows : (Row → Type 0) → List Row → Type 0
AllRows P [] = Unit {0}
AllRows P (r ∷ rows) = P r × AllRows P rows

abbrev pub Solves : List Row → (ℕ → ℚ) → Type 0
Solves rows x = AllLines (Holds x) rows

-- the values of all rows, and their right sides
abbrev pub values : List Row → (ℕ → ℚ) → List ℚ
values [] x = []
values (r ∷ rows) x = product r.line.entries x ∷ values rows x

abbrev pub rights : List Row → List ℚ
rights [] = []
rights (r ∷ rows) = r.line.right ∷ rights rows

-- the new form is the form less f times the pivot's
abbrev pub FormLess : ℚ → List Entry → List Entry → List Entry → Type 0
FormLess f form pivot new = (x : ℕ → ℚ) → product new x ≡ product form x -ℚ f *ℚ product pivot x

-- the new line is the line less f times the pivot's
pub record Less (f : ℚ) (line pivot new : Line) : Type 0 where
  pub entries : FormLess f line.entries pivot.entries new.entries
  pub right : new.right ≡ line.right -ℚ f *ℚ pivot.right

-- the new line is c times the line
pub record Times (c : ℚ) (line new : Line) : Type 0 where
  pub entries : (x : ℕ → ℚ) → product new.entries x ≡ c *ℚ product line.entries x
  pub right : new.right ≡ c *ℚ line.right

-- the line is the sum of the rows, each times its multiplier
pub record Combines (rows : List Row) (y : List ℚ) (line : Line) : Type 0 where
  pub entries : (x : ℕ → ℚ) → product line.entries x ≡ dot y (values rows x)
  pub right : line.right ≡ dot y (rights rows)

-- the objective row is the cost less the sum of the rows, each times its multiplier
abbrev pub Prices : List Entry → List Row → List ℚ → List Entry → Type 0
Prices cost rows y objective = (x : ℕ → ℚ) → product objective x ≡ product cost x -ℚ dot y (values rows x)

-- t is the program with this cost and these rows, written in another way: a solution of either is one of the other,
-- each row is a sum of the program's rows, and the objective row is the cost less such a sum
pub record IsTied (cost : List Entry) (rows : List Row) (t : Tableau) : Type 0 where
  pub spans : AllLines (λ line. (y : List ℚ) × Combines rows y line) t.rows
  pub prices : (y : List ℚ) × Prices cost rows y t.objective
  pub back : (x : ℕ → ℚ) → Solves t.rows x → Solves rows x
