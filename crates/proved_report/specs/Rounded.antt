-- Ends that are rounded outward where an operation of a test passes.
use Rattle.std.specs.Prelude.{◌≡◌, ◌⊎◌, List, Option, Some, None}
use Rattle.rationals.specs.Rational.{ℚ}
use Rattle.rationals.specs.Passes.{Operation}
use Rattle.scen_defs.specs.Values.{At}
use Rattle.scen_defs.specs.declared.report.Place.{Place}
use Rattle.proved_report.specs.declared.open.Open.{Open}
use Rattle.proved_report.specs.declared.open.Open.TheVariants.{Passed as PassedAt}
use Rattle.proved_report.specs.declared.tested.End.{End}
use Rattle.proved_report.specs.declared.tested.Tested.{Tested}
use Rattle.proved_report.specs.declared.tested.Tested.TheVariants.{Shows, Fails, Passes}

-- the operation that passes in a test
abbrev pub passing : Tested → Option Operation
passing (Shows number values) = None
passing Fails = None
passing (Passes o) = Some o

-- a list in whose test an operation passes, with its rounded number, where there is one
abbrev pub rounded_test : List At → Option ℚ → Operation → Tested
rounded_test values None o = Passes o
rounded_test values (Some number) o = Shows number values

-- a list with its number, or without one
abbrev pub exact_end : List At → Option ℚ → End
exact_end values None = record { printed = Fails; passed = None }
exact_end values (Some number) = record { printed = Shows number values; passed = None }

abbrev pub passed_before : Option Operation → Place → Open → Open
passed_before None place why = why
passed_before (Some o) place why = PassedAt place o

-- an operation passes in the test of a list, and the list is printed with a number that it shows all the same
pub record ByRounding (Shown : ℚ → List At → Type 0) (list : Option (List At)) (tested printed : Tested) : Type 0 where
  pub operation : Operation
  pub passes : tested ≡ Passes operation
  pub values : List At
  pub list_is : list ≡ Some values
  pub number : ℚ
  pub shows : Shown number values
  pub printed_is : printed ≡ Shows number values

-- What is printed of a list is its test; only where an operation of that passes it may be a number that is rounded outward.
abbrev pub IsRounded : (ℚ → List At → Type 0) → Option (List At) → Tested → Tested → Type 0
IsRounded Shown list tested printed = (printed ≡ tested) ⊎ ByRounding Shown list tested printed

-- what is printed of a list, and the operation that passes in its test
pub record IsEnd (Shown : ℚ → List At → Type 0) (list : Option (List At)) (tested : Tested) (end : End) : Type 0 where
  pub passed : end.passed ≡ passing tested
  pub rounded : IsRounded Shown list tested end.printed
