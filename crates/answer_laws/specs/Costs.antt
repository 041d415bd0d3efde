-- What the value of an answer is made of: what the point costs, and costs of the children that no cut exceeds.
use Rattle.std.specs.Prelude.{◌≡◌, ℕ, ◌<◌, true, List, Option, Some, map, length, slice_get}
use Rattle.rationals.specs.Rational.{ℚ, zero_ℚ, ◌+ℚ◌, ◌*ℚ◌, ◌≤ℚ◌}
use Rattle.rationals.specs.Sums.{sum_ℚ}
use Rattle.rationals.specs.Sparse.{Entry, coefficient, product}
use Rattle.scen_defs.specs.Lists.{Each}
use Rattle.scen_defs.specs.Program.{View}
use Rattle.scen_defs.specs.Flat.{children, share}
use Rattle.scen_defs.specs.declared.report.Kind.{Kind}
use Rattle.cut_defs.specs.declared.kinds.CutKind.TheVariants.{Bound, Ray}
use Rattle.cut_defs.specs.Stored.{Stored, source_of}
use Rattle.cut_pool.specs.Held.{Held}
use Rattle.cut_banks.specs.Pools.{cuts_of, cuts_read}
use Rattle.cut_proof.specs.declared.child.ChildCuts.{ChildCuts}
use Rattle.node_lp.specs.declared.task.Task.{Task}
use Rattle.node_lp.specs.Problem.{is_priced, IsProblem, problem_of}
use Rattle.node_lp.specs.Answers.{PointAnswer, value_at_trial}
use Rattle.answer_laws.specs.Points.{IsDatumIn}

-- the values along are those of the trial and of x together
abbrev pub AddsUp : List Entry → List Entry → List Entry → Type 0
AddsUp trial x along = (j : ℕ) → coefficient along j ≡ coefficient trial j +ℚ coefficient x j

-- of these cuts no Bound cut exceeds this cost, and no Ray cut exceeds 0, at the values along
abbrev pub BoundsBelow : List Entry → ℚ → List Stored → Type 0
BoundsBelow along cost cuts = Each (λ (cut : Stored). (source_of cut).kind ≡ Bound → value_at_trial cut along ≤ℚ cost) cuts

abbrev pub RaysBelow : List Entry → List Stored → Type 0
RaysBelow along cuts = Each (λ (cut : Stored). (source_of cut).kind ≡ Ray → value_at_trial cut along ≤ℚ zero_ℚ) cuts

-- the value is what x costs at the node and what the children cost by their shares. Where they are priced, no Bound cut of the task
-- exceeds the cost of its child; no Ray cut exceeds 0
pub record CostsAt (v : View) (n : ℕ) (t : Task) (x along : List Entry) (value : ℚ) : Type 0 where
  pub child_cost : ℕ → ℚ
  pub value_is : value ≡ product (v.cost n) (coefficient x) +ℚ sum_ℚ (λ m. share v m *ℚ child_cost m) (children v n)
  pub bounds : is_priced t.kind ≡ true → Each (λ (c : ChildCuts). BoundsBelow along (child_cost c.child) c.cuts.items) t.children.items
  pub rays : Each (λ (c : ChildCuts). RaysBelow along c.cuts.items) t.children.items

-- so it is with the value of every answer to a task that has the node's datum and the cuts of its children, in their order
abbrev pub ValuesAreCosts : Type 0
ValuesAreCosts = (v : View) (n : ℕ) (t : Task) (x along : List Entry) (value : ℚ) (cut : Option Stored) → IsDatumIn v n t.datum
    → IsProblem (problem_of t) → map (λ (c : ChildCuts). c.child) t.children.items ≡ children v n → PointAnswer t x value cut
    → AddsUp t.trial x along → CostsAt v n t x along value

-- the same by the pools of the children, in a run of this kind
pub record CostsOver (v : View) (n : ℕ) (pools : List Held) (kind : Kind) (x along : List Entry) (value : ℚ) : Type 0 where
  pub child_cost : ℕ → ℚ
  pub value_is : value ≡ product (v.cost n) (coefficient x) +ℚ sum_ℚ (λ m. share v m *ℚ child_cost m) (children v n)
  pub bounds : is_priced kind ≡ true
      → Each (λ m. (p : Held) → slice_get pools m ≡ Some p → BoundsBelow along (child_cost m) p.cuts) (children v n)
  pub rays : Each (λ m. (p : Held) → slice_get pools m ≡ Some p → RaysBelow along p.cuts) (children v n)

-- so it is where the task's cuts were read of these pools, and there is one of each child
abbrev pub ValuesCoverPools : Type 0
ValuesCoverPools = (v : View) (n : ℕ) (pools : List Held) (t : Task) (x along : List Entry) (value : ℚ) (cut : Option Stored)
    → IsDatumIn v n t.datum → IsProblem (problem_of t) → map cuts_of t.children.items ≡ cuts_read pools (children v n)
    → Each (λ m. m < length pools) (children v n) → PointAnswer t x value cut → AddsUp t.trial x along
    → CostsOver v n pools t.kind x along value
