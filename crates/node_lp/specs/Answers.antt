-- What an answer of the solve of a task shows.
use Rattle.std.specs.Prelude.{◌≡◌, false, List, [], Option, Some, None}
use Rattle.rationals.specs.Rational.{ℚ, zero_ℚ, ◌+ℚ◌, ◌<ℚ◌}
use Rattle.rationals.specs.Sparse.{Entry, coefficient, product}
use Rattle.cut_defs.specs.Stored.{Stored, source_of, uses_of, constant_of, form_of, IsMadeFrom}
use Rattle.cut_defs.specs.declared.kinds.CutKind.{CutKind}
use Rattle.cut_defs.specs.declared.kinds.CutKind.TheVariants as cut_kind
use Rattle.cut_proof.specs.Conditions.{UsesChildren}
use Rattle.node_lp.specs.declared.task.Task.{Task}
use Rattle.node_lp.specs.declared.solved.Solved.{Solved}
use Rattle.node_lp.specs.declared.solved.Solved.TheVariants as solved
use Rattle.node_lp.specs.Weighed.{Weighed}
use Rattle.node_lp.specs.Problem.{is_priced, problem_of}
use Rattle.node_lp.specs.Places.{OfColumns}
use Rattle.node_lp.specs.Records.{IsPointOf, HasNoLeast}
use Rattle.node_lp.specs.Stored.{stored_uses}
use Rattle.node_lp.specs.Told.{stored_cuts, record_of}

-- the constant and, column by column of the form, the trial's value times the coefficient
abbrev pub value_at_trial : Stored → List Entry → ℚ
value_at_trial cut trial = constant_of cut +ℚ product (form_of cut) (coefficient trial)

-- the cut of the datum's record with these multipliers and weights
pub record IsCutOf (t : Task) (kind : CutKind) (m : Weighed) (cut : Stored) : Type 0 where
  pub source : source_of cut ≡ record_of t.datum kind m
  -- it uses cuts of the task whose weight isn't 0
  pub uses : uses_of cut ≡ stored_uses m.weights (stored_cuts (is_priced t.kind) t.children.items)
  -- each weight is above 0, and each used cut is about a child
  pub children : UsesChildren t.datum (uses_of cut)
  pub made : IsMadeFrom t.datum (source_of cut) (uses_of cut) (constant_of cut) (form_of cut)

-- its value at the trial is this
pub record IsBoundAt (t : Task) (value : ℚ) (m : Weighed) (cut : Stored) : Type 0 where
  pub cut_of : IsCutOf t cut_kind.Bound m cut
  pub value_is : value_at_trial cut t.trial ≡ value

-- there is a cut exactly where the children are priced
abbrev pub HasCut : Task → ℚ → Weighed → Option Stored → Type 0
HasCut t value m None = is_priced t.kind ≡ false
HasCut t value m (Some cut) = IsBoundAt t value m cut

-- a point of the task's program and its value, over own columns, with multipliers and weights whose cut has this value at the trial
pub record PointAnswer (t : Task) (x : List Entry) (value : ℚ) (cut : Option Stored) : Type 0 where
  pub m : Weighed
  pub point : IsPointOf (problem_of t) x value m.rows m.weights
  pub columns : OfColumns t.datum.bounds x
  pub has_cut : HasCut t value m cut

-- a Ray cut whose value at the trial is above 0
pub record RayAnswer (t : Task) (cut : Stored) : Type 0 where
  pub m : Weighed
  pub cut_of : IsCutOf t cut_kind.Ray m cut
  pub above : zero_ℚ <ℚ value_at_trial cut t.trial

-- there is no least cost, and something has a cost
pub record LooseAnswer (t : Task) : Type 0 where
  pub no_least : HasNoLeast (problem_of t)
  pub costs : is_priced t.kind ≡ false → t.datum.cost ≡ [] → ⊥

abbrev pub IsAnswer : Task → Solved → Type 0
IsAnswer t (solved.Point x value cut) = PointAnswer t x value cut
IsAnswer t (solved.NoPoint cut) = RayAnswer t cut
IsAnswer t solved.Loose = LooseAnswer t
IsAnswer t solved.PivotsEnded = Unit {0}
IsAnswer t (solved.Passed in_cut o) = Unit {0}
IsAnswer t solved.NotGood = ⊥
