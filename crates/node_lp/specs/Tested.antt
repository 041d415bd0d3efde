-- What is told of a task: what was tested, or the end of the path.
use Rattle.std.specs.Prelude.{◌≡◌, ℕ, false, List}
use Rattle.rationals.specs.Passes.{Operation, IsNarrow}
use Rattle.rationals.specs.Sparse.{Entry}
use Rattle.rationals.specs.Forms.{IsForm}
use Rattle.scen_defs.specs.Lists.{Each}
use Rattle.node_lp.specs.declared.task.Task.{Task}
use Rattle.node_lp.specs.declared.found.Found.{Found}
use Rattle.node_lp.specs.declared.found.Found.TheVariants as found
use Rattle.node_lp.specs.declared.solved.Solved.{Solved}
use Rattle.node_lp.specs.declared.solved.Solved.TheVariants as solved
use Rattle.node_lp.specs.Problem.{Problem, problem_of}
use Rattle.node_lp.specs.Walk.{found_in}
use Rattle.node_lp.specs.Shows.{IsSound}
use Rattle.node_lp.specs.Told.{told_of}

-- a point or multipliers, with numbers as the code keeps them: what a test can show
abbrev pub IsTestable : Found → Type 0
IsTestable (found.Point x value m) = Each (λ (e : Entry). IsNarrow e.value) x × IsForm m.rows
IsTestable (found.NoPoint m) = IsForm m.rows
IsTestable found.Loose = ⊥
IsTestable found.PivotsEnded = ⊥
IsTestable (found.Passed o) = ⊥

-- what is found was tested, or it is the end of the path
pub data HasOrigin (p : Problem) (pivots : ℕ) (all : Found) : Type 0 where
  by_test : IsTestable all → HasOrigin p pivots all
  by_path : all ≡ found_in p pivots → HasOrigin p pivots all

-- what is told of a task is told of something that is found so, and shows itself
pub record IsToldOf (t : Task) (all : Solved) : Type 0 where
  pub origin : Found
  pub comes : HasOrigin (problem_of t) t.pivots origin
  pub sound : IsSound (problem_of t) origin
  pub told : all ≡ told_of t origin

-- that there is no least cost, that the pivots ended, and an operation outside of a cut that passes, are told of the path alone
pub record PathAloneTells : Type 0 where
  pub loose : (t : Task) → IsToldOf t solved.Loose → found_in (problem_of t) t.pivots ≡ found.Loose
  pub pivots : (t : Task) → IsToldOf t solved.PivotsEnded → found_in (problem_of t) t.pivots ≡ found.PivotsEnded
  pub passed : (t : Task) (o : Operation) → IsToldOf t (solved.Passed false o) → found_in (problem_of t) t.pivots ≡ found.Passed o
