-- What a point of an answer meets, in the words of its node's program.
use Rattle.std.specs.Prelude.{◌≡◌, ℕ, List, Option, map}
use Rattle.rationals.specs.Rational.{ℚ, ◌+ℚ◌}
use Rattle.rationals.specs.Sparse.{Entry, coefficient, product}
use Rattle.rationals.specs.Forms.{IsForm}
use Rattle.scen_defs.specs.Lists.{Each, Once}
use Rattle.rationals.specs.Intervals.{Between}
use Rattle.scen_defs.specs.Program.{View, IsTree}
use Rattle.scen_defs.specs.Flat.{children}
use Rattle.scen_defs.specs.declared.program.NodeRow.{NodeRow}
use Rattle.cut_defs.specs.Data.{Datum, bounds_of, share_of}
use Rattle.cut_defs.specs.Stored.{Stored}
use Rattle.node_lp.specs.declared.task.Task.{Task}
use Rattle.node_lp.specs.Answers.{PointAnswer}

-- the datum has the costs, rows, bounds and shares of the node in the program
pub record IsDatumIn (v : View) (n : ℕ) (d : Datum) : Type 0 where
  pub cost : d.cost ≡ v.cost n
  pub rows : d.rows ≡ v.rows n
  pub bounds : d.bounds ≡ map (bounds_of v) (v.columns (v.stage n))
  pub shares : d.shares ≡ map (share_of v) (children v n)

-- values x of columns of the node's stage, in rising order, meet its rows beside those of the trial, and the bounds of its columns
pub record PointMeets (v : View) (n : ℕ) (trial x : List Entry) : Type 0 where
  pub form : IsForm x
  pub columns : Each (λ (e : Entry). Once e.column (v.columns (v.stage n))) x
  pub rows : Each (λ (r : NodeRow). Between r.low r.high (product r.entries (λ j. coefficient x j +ℚ coefficient trial j))) (v.rows n)
  pub bounds : Each (λ j. Between (v.lower j) (v.upper j) (coefficient x j)) (v.columns (v.stage n))

-- so does the point of every answer to a task with the node's datum
abbrev pub PointsMeet : Type 0
PointsMeet = (v : View) (n : ℕ) (t : Task) (x : List Entry) (value : ℚ) (cut : Option Stored) → IsTree v → IsDatumIn v n t.datum
    → PointAnswer t x value cut → PointMeets v n t.trial x
