-- A point that the solve of a node finds can be kept beside the values of the columns before it.
use Rattle.std.specs.Prelude.{◌≡◌, List, Option, Err}
use Rattle.rationals.specs.Rational.{ℚ, one_ℚ}
use Rattle.rationals.specs.Sparse.{Entry}
use Rattle.rationals.specs.Forms.{add_scaled_walk}
use Rattle.rationals.specs.Passes.{Operation}
use Rattle.cut_defs.specs.Stored.{Stored}
use Rattle.node_lp.specs.declared.task.Task.{Task}
use Rattle.node_lp.specs.declared.solved.Solved.TheVariants as solved
use Rattle.node_lp.specs.Problem.{IsProblem, problem_of}
use Rattle.node_lp.specs.Tested.{IsToldOf}

-- no operation passes where the point is added to the trial: no column stands in both, and each value of the point fits
abbrev pub PointsJoin : Type 0
PointsJoin = (t : Task) (x : List Entry) (value : ℚ) (cut : Option Stored) (o : Operation) → IsProblem (problem_of t)
    → IsToldOf t (solved.Point x value cut) → add_scaled_walk t.trial one_ℚ x ≡ Err o → ⊥
