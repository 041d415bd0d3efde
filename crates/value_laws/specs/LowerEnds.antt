-- What no feasible point of a program costs less than.
use Rattle.std.specs.Prelude.{ℕ}
use Rattle.rationals.specs.Rational.{ℚ, ◌≤ℚ◌}
use Rattle.scen_defs.specs.Program.{Program, view_of}
use Rattle.scen_defs.specs.Flat.{Feasible, cost}

-- no feasible point costs less than this number
abbrev pub IsLowerEnd : Program → ℚ → Type 0
IsLowerEnd p end = (x : ℕ → ℕ → ℚ) → Feasible (view_of p) x → end ≤ℚ cost (view_of p) x
