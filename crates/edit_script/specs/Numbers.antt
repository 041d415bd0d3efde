-- The numbers of commands.
use Rattle.std.specs.Prelude.{ℕ, ◌&&◌, leb, Bool, List, Result, Ok, Err, if◌then◌else◌}
use Rattle.rationals.specs.Rational.{ℚ}
use Rattle.frac128.specs.Numbers.{is_nothing, after_digits, number}
use Rattle.refusals.specs.declared.cause.Cause.{Cause}
use Rattle.refusals.specs.declared.cause.Cause.TheVariants as cause
use Rattle.refusals.specs.Results.{◌>>=◌}
use Rattle.core_defs.specs.Number.{number_of}
use Rattle.edit_defs.specs.Causes.{is_inner}

-- a count of solves: decimal digits, from 1 to 1,000,000
abbrev pub is_count : List ℕ → Bool
is_count word = is_nothing (after_digits word) && (leb 1 (number word) && leb (number word) 1000000)

abbrev pub count_of : List ℕ → Result ℕ Cause
count_of word = if is_count word then Ok (number word) else Err cause.NumberBad

-- a probability: above 0 and below 1
abbrev pub if_inner : ℚ → Result ℚ Cause
if_inner value = if is_inner value then Ok value else Err cause.EditProbability

abbrev pub inner_number : List ℕ → Result ℚ Cause
inner_number word = number_of word >>= if_inner
