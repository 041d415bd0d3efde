-- How the code's steps and ends tell the path's.
use Rattle.std.specs.Prelude.{◌≡◌, ℕ, suc, ◌+◌, ◌≤◌, Result, Ok, Err}
use Rattle.frac128.specs.declared.fault.ArithmeticFault.{ArithmeticFault}
use Rattle.frac128.specs.declared.fault.ArithmeticFault.TheVariants as fault
use Rattle.frac128.specs.declared.memory.Memory.{Memory}
use Rattle.lp_defs.specs.Path.{Tableau, Ending, Done, Open, TooLong, Stopped, path}
use Rattle.simplex_core.specs.declared.tableau.Step.{Step}
use Rattle.simplex_core.specs.declared.tableau.Step.TheVariants as step
use Rattle.simplex_core.specs.declared.tableau.End.{End}
use Rattle.simplex_core.specs.declared.tableau.End.TheVariants as end

-- what one step says of the path from a tableau, where a pivot is left
abbrev pub Steps : ℕ → Tableau → Result Step ArithmeticFault → Tableau → Type 0
Steps n t (Ok step.Done) new = (left k : ℕ) → path n (suc left) k t ≡ Done k new
Steps n t (Ok (step.Open j)) new = (left k : ℕ) → path n (suc left) k t ≡ Open j new
Steps n t (Ok step.Pivoted) new = (left k : ℕ) → path n (suc left) k t ≡ path n left (k + 1) new
Steps n t (Err (fault.Passed p)) new = (left k : ℕ) → path n (suc left) k t ≡ Stopped (k + 1) p
Steps n t (Err fault.Memory) new = Unit {0}

-- the path ends so, and there with this tableau
abbrev pub Reached : Ending → End → Tableau → Type 0
Reached e (end.Done k) t = e ≡ Done k t
Reached e (end.Open j) t = e ≡ Open j t
Reached e end.PivotsEnded t = e ≡ TooLong
Reached e (end.Passed k p) t = e ≡ Stopped k p

-- the end that a fault makes
abbrev pub Stops : ArithmeticFault → ℕ → Result End Memory → Type 0
Stops f pivot (Ok (end.Passed k p)) = (f ≡ fault.Passed p) × (k ≡ pivot)
Stops f pivot (Ok (end.Done k)) = ⊥
Stops f pivot (Ok (end.Open j)) = ⊥
Stops f pivot (Ok end.PivotsEnded) = ⊥
Stops f pivot (Err m) = f ≡ fault.Memory

-- no more pivots than allowed
abbrev pub EndsWithin : ℕ → End → Type 0
EndsWithin pivots (end.Done k) = k ≤ pivots
EndsWithin pivots (end.Open j) = Unit {0}
EndsWithin pivots end.PivotsEnded = Unit {0}
EndsWithin pivots (end.Passed k p) = Unit {0}
