-- Numbers that are differences of others.
use Rattle.std.specs.Prelude.{◌≡◌, Option, Some, None, Result, Ok, Err}
use Rattle.rationals.specs.Rational.{ℚ}
use Rattle.rationals.specs.Passes.{Operation, sub_walk}
use Rattle.value_reader.specs.declared.numbers.StatedMeasures.{StatedMeasures}

abbrev pub if_fits : Result ℚ Operation → Option ℚ
if_fits (Ok x) = Some x
if_fits (Err o) = None

-- the one less the other; nothing where one isn't there, or where the operation passes 128 bits
abbrev pub difference : Option ℚ → Option ℚ → Option ℚ
difference None b = None
difference (Some a) None = None
difference (Some a) (Some b) = if_fits (sub_walk a b)

-- what it is worth to know what comes, and to plan for all that may come, are differences of least costs
pub record AreDifferences (m : StatedMeasures) : Type 0 where
  pub information : m.information ≡ difference m.whole m.scenarios
  pub model : m.model ≡ difference m.fixed m.whole
