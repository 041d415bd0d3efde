-- The whole path of a program: phase one, the pivots on artificial columns that are left, phase two.
use Rattle.std.specs.Prelude.{ℕ, true, false, ◌-◌, length, List, [], Ok, Err}
use Rattle.rationals.specs.Rational.{ℚ}
use Rattle.rationals.specs.Passes.{Operation}
use Rattle.rationals.specs.Sparse.{Entry}
use Rattle.lp_defs.specs.Walks.{Walk}
use Rattle.lp_defs.specs.Program.{Program}
use Rattle.lp_defs.specs.Path.{Row, Tableau, Ending, Done, Open, TooLong, Stopped, path}
use Rattle.lp_defs.specs.Basis.{point, ray}
use Rattle.lp_defs.specs.Phases.{unit_rows, with_units, unit_costs, priced, has_artificial_above, first_duals, unit_duals}
use Rattle.lp_defs.specs.Phases.{Driven, Driven_out, Driven_long, Driven_stop, driven}

pub data Solution : Type 0 where
  -- a point and duals
  Optimum : (ℕ → ℚ) → List ℚ → Solution
  -- the duals of phase one
  Nowhere : List ℚ → Solution
  -- a point and a ray
  Endless : (ℕ → ℚ) → (ℕ → ℚ) → Solution
  -- more pivots than are allowed
  Cut_off : Solution
  -- this operation, in this pivot
  Passes : ℕ → Operation → Solution

-- what follows operations that count to pivot k
abbrev pub counted : {A : Type 0} → ℕ → Walk A → (A → Solution) → Solution
counted k (Ok a) go = go a
counted k (Err p) go = Passes k p

-- the artificial columns are numbered after all others, by row
abbrev pub first_rows : Program → List Row
first_rows p = unit_rows p.columns (with_units p.columns p.rows) p.right

abbrev pub first_cost : Program → List Entry
first_cost p = unit_costs p.columns (length p.rows)

-- ---- phase two
abbrev pub second_end : Program → Ending → Solution
second_end p (Done k t) = Optimum (point t.rows) (unit_duals p.columns (length p.rows) t.objective)
second_end p (Open j t) = Endless (point t.rows) (ray j t.rows)
second_end p TooLong = Cut_off
second_end p (Stopped k o) = Passes k o

-- from a tableau behind k pivots
abbrev pub second : Program → ℕ → ℕ → Tableau → Solution
second p pivots k t = counted k (priced p.cost t.rows p.cost) (λ objective.
    second_end p (path p.columns (pivots - k) k (record { rows = t.rows; objective = objective })))

abbrev pub between : Program → ℕ → Driven → Solution
between p pivots (Driven_out k t) = second p pivots k t
between p pivots Driven_long = Cut_off
between p pivots (Driven_stop k o) = Passes k o

-- ---- phase one: it minimises the sum of the artificial columns. No point has all of them at 0 where, at its end, one is basic above 0
abbrev pub first_end : Program → ℕ → Ending → Solution
first_end p pivots (Done k t) = elim (has_artificial_above p.columns t.rows) [
  | true ↦ counted k (first_duals p.columns (length p.rows) t.objective []) Nowhere
  | false ↦ between p pivots (driven p.columns (length t.rows) 0 (pivots - k) k t)
]
-- it never is: the sum is at least 0
first_end p pivots (Open j t) = Cut_off
first_end p pivots TooLong = Cut_off
first_end p pivots (Stopped k o) = Passes k o

abbrev pub solution : Program → ℕ → Solution
solution p pivots = counted 0 (priced (first_cost p) (first_rows p) (first_cost p)) (λ objective.
    first_end p pivots (path p.columns pivots 0 (record { rows = first_rows p; objective = objective })))
