-- What an outcome tells of the answer, and what it shows of itself.
use Rattle.std.specs.Prelude.{◌≡◌, ℕ, Result, Ok, Err}
use Rattle.rationals.specs.Rational.{ℚ}
use Rattle.rationals.specs.Sparse.{coefficient}
use Rattle.frac128.specs.declared.fault.ArithmeticFault.{ArithmeticFault}
use Rattle.frac128.specs.declared.fault.ArithmeticFault.TheVariants as fault
use Rattle.frac128.specs.declared.memory.Memory.{Memory}
use Rattle.lp_defs.specs.Program.{Program}
use Rattle.lp_defs.specs.Solution.{Solution, Optimum, Nowhere, Endless, Cut_off, Passes}
use Rattle.lp_defs.specs.Certificates.{IsOptimal, IsInfeasible, IsUnbounded}
use Rattle.simplex_core.specs.declared.outcome.Outcome.{Outcome}
use Rattle.simplex_core.specs.declared.outcome.Outcome.TheVariants as outcome

-- the outcome is this answer; the forms have the coefficients of its point and its ray
abbrev pub Tells : Solution → Outcome → Type 0
Tells s (outcome.Optimal point duals) = (x : ℕ → ℚ) × (s ≡ Optimum x duals.items) × ((c : ℕ) → coefficient point c ≡ x c)
Tells s (outcome.Infeasible duals) = s ≡ Nowhere duals.items
Tells s (outcome.Unbounded point ray) =
    (x : ℕ → ℚ) × (d : ℕ → ℚ) × (s ≡ Endless x d) × ((c : ℕ) → coefficient point c ≡ x c)
    × ((c : ℕ) → coefficient ray c ≡ d c)
Tells s outcome.PivotsEnded = s ≡ Cut_off
Tells s (outcome.Passed k p) = s ≡ Passes k p

-- the outcome shows that it is right
abbrev pub Shows : Program → Outcome → Type 0
Shows p (outcome.Optimal point duals) = IsOptimal p (coefficient point) duals.items
Shows p (outcome.Infeasible duals) = IsInfeasible p duals.items
Shows p (outcome.Unbounded point ray) = IsUnbounded p (coefficient point) (coefficient ray)
Shows p outcome.PivotsEnded = Unit {0}
Shows p (outcome.Passed k o) = Unit {0}

abbrev pub IsNotInfeasible : Outcome → Type 0
IsNotInfeasible (outcome.Optimal point duals) = Unit {0}
IsNotInfeasible (outcome.Infeasible duals) = ⊥
IsNotInfeasible (outcome.Unbounded point ray) = Unit {0}
IsNotInfeasible outcome.PivotsEnded = Unit {0}
IsNotInfeasible (outcome.Passed k o) = Unit {0}

abbrev pub IsNotPivotsEnded : Outcome → Type 0
IsNotPivotsEnded (outcome.Optimal point duals) = Unit {0}
IsNotPivotsEnded (outcome.Infeasible duals) = Unit {0}
IsNotPivotsEnded (outcome.Unbounded point ray) = Unit {0}
IsNotPivotsEnded outcome.PivotsEnded = ⊥
IsNotPivotsEnded (outcome.Passed k o) = Unit {0}

-- the outcome at a fault
abbrev pub TellsFault : ArithmeticFault → ℕ → Result Outcome Memory → Type 0
TellsFault f pivot (Ok (outcome.Optimal point duals)) = ⊥
TellsFault f pivot (Ok (outcome.Infeasible duals)) = ⊥
TellsFault f pivot (Ok (outcome.Unbounded point ray)) = ⊥
TellsFault f pivot (Ok outcome.PivotsEnded) = ⊥
TellsFault f pivot (Ok (outcome.Passed k p)) = (f ≡ fault.Passed p) × (k ≡ pivot)
TellsFault f pivot (Err m) = f ≡ fault.Memory
