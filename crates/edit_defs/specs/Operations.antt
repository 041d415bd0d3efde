-- The operations of an edit in their order, and the first of them that passes.
use Rattle.std.specs.Prelude.{List, [], ◌∷◌, map, ℕ, Option, Some, None, Result, Ok, Err}
use Rattle.rationals.specs.Rational.{ℚ, one_ℚ, ◌-ℚ◌, ◌/ℚ◌}
use Rattle.rationals.specs.declared.Op.{Op}
use Rattle.rationals.specs.declared.Op.TheVariants.{Sub, Mul, Div}
use Rattle.rationals.specs.Passes.{Operation, passes}
use Rattle.rationals.specs.Choices.{pick}
use Rattle.smps_words.specs.declared.entry.Entry.{Entry}
use Rattle.smps_words.specs.declared.entry.Entry.TheVariants.{Cost, Matrix, Rhs}
use Rattle.scen_defs.specs.Program.{Scenario, Program}
use Rattle.scen_defs.specs.Valid.{row_at}
use Rattle.scen_tree.specs.Trees.{tree_walk}
use Rattle.edit_defs.specs.declared.edit.Edit.{Edit}
use Rattle.edit_defs.specs.declared.edit.Edit.TheVariants.{Set, Prob, Drop, Add}
use Rattle.edit_defs.specs.Intervals.{right_walk}
use Rattle.edit_defs.specs.After.{scenario_named, others, rest_of, after}

abbrev pub operation : Op → ℚ → ℚ → Operation
operation op a b = record { op = op; a = a; b = b }

-- the first of them that passes
abbrev pub first_passing : List Operation → Option Operation
first_passing [] = None
first_passing (o ∷ os) = pick (passes o.op o.a o.b) (Some o) (first_passing os)

-- the operation in which a walk ends
abbrev pub ended_by : {X : Type 0} → Result X Operation → Option Operation
ended_by (Ok x) = None
ended_by (Err o) = Some o

abbrev pub or_else : Option Operation → Option Operation → Option Operation
or_else None rest = rest
or_else (Some o) rest = Some o

-- those of probabilities
abbrev pub old_probability : Program → List ℕ → ℚ
old_probability p name = (scenario_named name p.scenarios).probability

abbrev pub by_factor : Op → ℚ → Scenario → Operation
by_factor op factor s = operation op s.probability factor

abbrev pub probability_operations : Program → Edit → List Operation
probability_operations p (Set name entry v) = []
probability_operations p (Prob name q) =
    operation Sub one_ℚ q ∷ operation Sub one_ℚ (old_probability p name) ∷ operation Div (one_ℚ -ℚ q) (rest_of name p.scenarios)
    ∷ map (by_factor Mul ((one_ℚ -ℚ q) /ℚ rest_of name p.scenarios)) (others name p.scenarios)
probability_operations p (Drop name) =
    operation Sub one_ℚ (old_probability p name) ∷ map (by_factor Div (rest_of name p.scenarios)) (others name p.scenarios)
probability_operations p (Add name parent q t) = operation Sub one_ℚ q ∷ map (by_factor Mul (one_ℚ -ℚ q)) p.scenarios

-- behind them those of the tree after the edit
abbrev pub chances_passed : Program → Edit → Option Operation
chances_passed p e = or_else (first_passing (probability_operations p e)) (ended_by (tree_walk (after p e)))

-- the first operation of an edit that passes. A SET has those of a row's interval alone: it leaves the tree as it is
abbrev pub set_passed : Program → Entry → ℚ → Option Operation
set_passed p (Cost j) v = None
set_passed p (Matrix i j) v = None
set_passed p (Rhs i) v = ended_by (right_walk (row_at p.rows i) v)

abbrev pub first_passed : Program → Edit → Option Operation
first_passed p (Set name entry v) = set_passed p entry v
first_passed p (Prob name q) = chances_passed p (Prob name q)
first_passed p (Drop name) = chances_passed p (Drop name)
first_passed p (Add name parent q t) = chances_passed p (Add name parent q t)
