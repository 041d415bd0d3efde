-- The numbers of a report, each as it is printed.
use Rattle.std.specs.Prelude.{ℕ, ℤ, pos, negsuc, Bool, true, false, ◌^◌, nat_lt, List, Option, Some, None, Result, Ok, Err, codes}
use Rattle.std.specs.Fmt.{decimal}
use Rattle.rationals.specs.Rational.{ℚ}
use Rattle.rationals.specs.Choices.{pick}
use Rattle.frac128.specs.Numbers.{read_number}
use Rattle.frac128.specs.Text.{text_of}
use Rattle.frac128.specs.declared.text.NumFault.{NumFault}
use Rattle.frac128.specs.declared.text.NumFault.TheVariants as faults
use Rattle.smps_words.specs.Names.{same_name}
use Rattle.refusals.specs.declared.cause.Cause.{Cause}
use Rattle.refusals.specs.declared.cause.Cause.TheVariants as cause
use Rattle.report_reader.specs.Answers.{on_ok, bad}

-- ---- fractions
abbrev pub printed : List ℕ → Result ℚ NumFault → Result ℚ Cause
printed field (Ok value) = pick (same_name (text_of value) field) (Ok value) bad
printed field (Err faults.Bad) = bad
printed field (Err faults.Wide) = Err cause.NumberWide

-- The fraction that a field is: a number that is wide is refused as such, and any that isn't printed so isn't of the grammar.
abbrev pub fraction : List ℕ → Result ℚ Cause
fraction field = printed field (read_number field)

-- a fraction, or none
abbrev pub end_value : Bool → List ℕ → Result (Option ℚ) Cause
end_value true field = Ok None
end_value false field = on_ok (fraction field) (λ value. Ok (Some value))

abbrev pub end_of : List ℕ → Result (Option ℚ) Cause
end_of field = end_value (same_name field (codes "none")) field

-- ---- whole numbers
abbrev pub count_in : ℤ → Option ℕ
count_in (pos n) = pick (nat_lt n (2 ^ 64)) (Some n) None
count_in (negsuc n) = None

abbrev pub counted : List ℕ → Option ℕ → Result ℕ Cause
counted field None = bad
counted field (Some n) = pick (same_name (decimal n) field) (Ok n) bad

abbrev pub count_by : List ℕ → Result ℚ NumFault → Result ℕ Cause
count_by field (Ok value) = counted field (count_in value.num)
count_by field (Err fault) = bad

-- the whole number below 2 ^ 64 that a field is
abbrev pub count : List ℕ → Result ℕ Cause
count field = count_by field (read_number field)

-- and one below 2 ^ 32
abbrev pub small : List ℕ → Result ℕ Cause
small field = on_ok (count field) (λ n. pick (nat_lt n (2 ^ 32)) (Ok n) bad)
