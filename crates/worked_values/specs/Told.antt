-- Numbers, texts and findings as the rows of tables tell them.
use Prim.Native.String.{String}
use Rattle.std.specs.Prelude.{ℕ, pos, neg_ℤ, List, Option, Some, None, codes}
use Rattle.rationals.specs.Rational.{ℚ, ◌÷◌}
use Rattle.smps_words.specs.Line.{TextLine, line_of, reading_of}
use Rattle.refusals.specs.declared.cause.Cause.{Cause}
use Rattle.refusals.specs.Cause.{number_of_cause}
use Rattle.core_defs.specs.Fault.{fault}

-- a whole number, and one below 0 by its size
abbrev pub whole_ℚ : ℕ → ℚ
whole_ℚ n = pos n ÷ 1

abbrev pub minus_ℚ : ℕ → ℚ
minus_ℚ n = neg_ℤ (pos n) ÷ 1

-- the lines of a text
abbrev pub lines_told : List ℕ → List TextLine
lines_told text = (reading_of 0 text).lines

abbrev pub number_told : Option Cause → Option ℕ
number_told None = None
number_told (Some cause) = Some (number_of_cause cause)

-- the number of the cause for which a line is refused behind a text, where it is refused
abbrev pub refused_behind : List ℕ → String → Option ℕ
refused_behind text line = number_told (fault (lines_told text) (line_of 0 (codes line)))
