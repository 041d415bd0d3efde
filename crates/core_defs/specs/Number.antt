-- The numbers of a core file.
use Rattle.std.specs.Prelude.{ℕ, ℤ, pos, negsuc, Bool, true, false, List, Option, Some, None, Result, Ok, Err}
use Rattle.rationals.specs.Rational.{ℚ}
use Rattle.frac128.specs.Numbers.{read_number}
use Rattle.frac128.specs.declared.text.NumFault.{NumFault}
use Rattle.frac128.specs.declared.text.NumFault.TheVariants as faults
use Rattle.refusals.specs.declared.cause.Cause.{Cause}
use Rattle.refusals.specs.declared.cause.Cause.TheVariants as cause

abbrev pub number_cause : NumFault → Cause
number_cause faults.Bad = cause.NumberBad
number_cause faults.Wide = cause.NumberWide

abbrev pub number_or_cause : Result ℚ NumFault → Result ℚ Cause
number_or_cause (Ok value) = Ok value
number_or_cause (Err fault) = Err (number_cause fault)

-- the number that a field is
abbrev pub number_of : List ℕ → Result ℚ Cause
number_of word = number_or_cause (read_number word)

abbrev pub cause_of : Result ℚ NumFault → Option Cause
cause_of (Ok value) = None
cause_of (Err fault) = Some (number_cause fault)

-- why a field is no number
abbrev pub number_fault : List ℕ → Option Cause
number_fault word = cause_of (read_number word)

-- an integer is below 0
abbrev pub is_negative_ℤ : ℤ → Bool
is_negative_ℤ (pos _) = false
is_negative_ℤ (negsuc _) = true

-- a number is below 0
abbrev pub is_negative : ℚ → Bool
is_negative value = is_negative_ℤ value.num
