-- What a ground cut uses, and where it bounds the program of a task.
use Rattle.std.specs.Prelude.{◌≡◌, List, Some, Ok}
use Rattle.rationals.specs.Rational.{ℚ}
use Rattle.scen_defs.specs.Lists.{Each}
use Rattle.scen_defs.specs.Values.{At}
use Rattle.cut_defs.specs.declared.kinds.CutKind.TheVariants.{Bound}
use Rattle.cut_defs.specs.Data.{Datum}
use Rattle.cut_defs.specs.Stored.{Stored, source_of, uses_of, constant_of, form_of, IsMadeFrom}
use Rattle.cut_defs.specs.Stored.StoredUses.{No_stored}
use Rattle.dual_assemble.specs.Ground.{uses_of_children, ground_walk}
use Rattle.node_lp.specs.declared.task.Task.{Task}
use Rattle.node_lp.specs.Problem.{IsProblem, problem_of}
use Rattle.answer_laws.specs.Bounds.{StandsAmong, IsBoundOf}

pub record GroundsAreMade : Type 0 where
  -- a ground cut is a Bound cut, and uses the cuts that it is made of, each with its child's share
  pub kind : (d : Datum) (total : ℚ) (dual : List At) (cuts : List Stored) (cut : Stored)
      → ground_walk d total dual cuts ≡ Ok (Some cut) → (source_of cut).kind ≡ Bound
  pub uses : (d : Datum) (total : ℚ) (dual : List At) (cuts : List Stored) (cut : Stored)
      → ground_walk d total dual cuts ≡ Ok (Some cut) → uses_of cut ≡ uses_of_children No_stored d.shares cuts
  -- so where these are cuts of a task with the node's datum, it is a Bound cut that is made of cuts of the task
  pub bound : (t : Task) (total : ℚ) (dual : List At) (cuts : List Stored) (cut : Stored) → IsProblem (problem_of t)
      → ground_walk t.datum total dual cuts ≡ Ok (Some cut)
      → IsMadeFrom t.datum (source_of cut) (uses_of cut) (constant_of cut) (form_of cut)
      → Each (StandsAmong t.children.items) cuts → IsBoundOf t (source_of cut) (uses_of cut) (constant_of cut) (form_of cut)
