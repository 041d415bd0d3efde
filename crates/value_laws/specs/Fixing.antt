-- Who fixes the decisions of the first period need not pay less than who is free to choose them.
use Rattle.std.specs.Prelude.{◌≡◌, ℕ, List}
use Rattle.rationals.specs.Rational.{ℚ}
use Rattle.rationals.specs.Intervals.{Between}
use Rattle.scen_defs.specs.Lists.{Each}
use Rattle.scen_defs.specs.Values.{At, at}
use Rattle.scen_defs.specs.Program.{Program, view_of}
use Rattle.scen_defs.specs.Flat.{Feasible, cost}
use Rattle.scen_defs.specs.Valid.{IsProgram}
use Rattle.value_programs.specs.Fixed.{fixed_program}
use Rattle.value_laws.specs.LowerEnds.{IsLowerEnd}

-- the values of the first period's columns at the first node lie in the columns' bounds
abbrev pub StartsWithin : Program → List At → Type 0
StartsWithin p values = Each (λ j. Between ((view_of p).lower j) ((view_of p).upper j) (at values 0 j)) ((view_of p).columns 0)

-- They do where the values are feasible for some program with the same columns, as that of the means is.
abbrev pub FeasiblePointsStartWithin : Type 0
FeasiblePointsStartWithin = (p q : Program) (values : List At) → IsProgram q → q.columns ≡ p.columns → Feasible (view_of q) (at values)
    → StartsWithin p values

-- A point that is feasible where the first period is fixed at such values is feasible without that, at the same cost.
abbrev pub FixedPointsAreFeasible : Type 0
FixedPointsAreFeasible = (p : Program) (values : List At) (x : ℕ → ℕ → ℚ) → StartsWithin p values
    → Feasible (view_of (fixed_program p values)) x
    → Feasible (view_of p) x × (cost (view_of (fixed_program p values)) x ≡ cost (view_of p) x)

-- So what no feasible point costs less than, none costs less than where the first period is fixed so.
abbrev pub FixingKeepsLowerEnds : Type 0
FixingKeepsLowerEnds = (p : Program) (values : List At) (end : ℚ) → StartsWithin p values → IsLowerEnd p end
    → IsLowerEnd (fixed_program p values) end
