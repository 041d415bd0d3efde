-- A Bound cut that is made of cuts of a task bounds what the points of the task's program cost: so there is a least cost.
use Rattle.std.specs.Prelude.{◌≡◌, true, false, List, []}
use Rattle.std.specs.List.{Contains}
use Rattle.rationals.specs.Rational.{ℚ, zero_ℚ, ◌+ℚ◌, ◌≤ℚ◌, ◌<ℚ◌}
use Rattle.rationals.specs.Sparse.{Entry, coefficient, product}
use Rattle.cut_defs.specs.declared.kinds.CutKind.TheVariants.{Bound}
use Rattle.cut_defs.specs.Stored.{Source, Stored, StoredUses, IsMadeFrom}
use Rattle.cut_defs.specs.Stored.StoredUses.{No_stored, Use_stored}
use Rattle.cut_proof.specs.declared.child.ChildCuts.{ChildCuts}
use Rattle.node_lp.specs.declared.task.Task.{Task}
use Rattle.node_lp.specs.Places.{OfColumns}
use Rattle.node_lp.specs.Problem.{is_priced, IsProblem, problem_of}
use Rattle.node_lp.specs.Records.{Meets, cost_at}
use Rattle.node_lp.specs.Answers.{LooseAnswer}

-- the cut is one of those about one of the children
pub record StandsAmong (children : List ChildCuts) (cut : Stored) : Type 0 where
  pub child : ChildCuts
  pub stands : Contains children child
  pub among : Contains child.cuts.items cut

-- each weight is above 0, and each used cut is one of those about the children
abbrev pub UsesAmong : List ChildCuts → StoredUses → Type 0
UsesAmong children No_stored = Unit {0}
UsesAmong children (Use_stored weight cut uses) = (zero_ℚ <ℚ weight) × StandsAmong children cut × UsesAmong children uses

-- a Bound record with these sums is made from the task's datum, of cuts that the task has
pub record IsBoundOf (t : Task) (s : Source) (uses : StoredUses) (constant : ℚ) (form : List Entry) : Type 0 where
  pub kind : s.kind ≡ Bound
  pub made : IsMadeFrom t.datum s uses constant form
  pub among : UsesAmong t.children.items uses

-- where the children are priced, no point of the task's program costs less than the value of such a cut at the trial
abbrev pub BoundsHoldAtPoints : Type 0
BoundsHoldAtPoints = (t : Task) (s : Source) (uses : StoredUses) (constant : ℚ) (form x : List Entry) (costs : List ℚ)
    → IsProblem (problem_of t) → is_priced t.kind ≡ true → IsBoundOf t s uses constant form → OfColumns t.datum.bounds x
    → Meets (problem_of t) x costs → constant +ℚ product form (coefficient t.trial) ≤ℚ cost_at (problem_of t) x costs

-- so the program of a task that has such a cut is never told to have no least cost; nor is it where the children aren't priced and
-- the node has no costs
pub record NeverLoose : Type 0 where
  pub priced : (t : Task) (s : Source) (uses : StoredUses) (constant : ℚ) (form : List Entry) → IsProblem (problem_of t)
      → is_priced t.kind ≡ true → IsBoundOf t s uses constant form → LooseAnswer t → ⊥
  pub costless : (t : Task) → is_priced t.kind ≡ false → t.datum.cost ≡ [] → LooseAnswer t → ⊥
