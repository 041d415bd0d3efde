-- How the code's pivots on artificial columns tell those of the definition.
use Rattle.std.specs.Prelude.{◌≡◌, ℕ, ◌≤◌, Result, Ok, Err}
use Rattle.frac128.specs.declared.fault.ArithmeticFault.{ArithmeticFault}
use Rattle.frac128.specs.declared.fault.ArithmeticFault.TheVariants as fault
use Rattle.frac128.specs.declared.memory.Memory.{Memory}
use Rattle.lp_defs.specs.Path.{Tableau}
use Rattle.lp_defs.specs.Phases.{Driven, Driven_out, Driven_long, Driven_stop}
use Rattle.simplex_core.specs.declared.drive.Driven.{Driven as End}
use Rattle.simplex_core.specs.declared.drive.Driven.TheVariants as end

-- they end so, and there with this tableau
abbrev pub Drove : Driven → End → Tableau → Type 0
Drove d (end.Out k) t = d ≡ Driven_out k t
Drove d end.PivotsEnded t = d ≡ Driven_long
Drove d (end.Passed k p) t = d ≡ Driven_stop k p

abbrev pub DroveWithin : ℕ → End → Type 0
DroveWithin pivots (end.Out k) = k ≤ pivots
DroveWithin pivots end.PivotsEnded = Unit {0}
DroveWithin pivots (end.Passed k p) = Unit {0}

-- the end that a fault makes
abbrev pub StopsDrive : ArithmeticFault → ℕ → Result End Memory → Type 0
StopsDrive f pivot (Ok (end.Passed k p)) = (f ≡ fault.Passed p) × (k ≡ pivot)
StopsDrive f pivot (Ok (end.Out k)) = ⊥
StopsDrive f pivot (Ok end.PivotsEnded) = ⊥
StopsDrive f pivot (Err m) = f ≡ fault.Memory
