-- The text of measures.
use Rattle.std.specs.Prelude.{ℕ, List, [], ◌∷◌, ◌++◌, Option, Some, None, Result, Ok, Err, codes}
use Rattle.std.specs.List.{flat_map}
use Rattle.rationals.specs.Rational.{ℚ}
use Rattle.rationals.specs.Passes.{Operation}
use Rattle.report_text.specs.Text.{end_text, operation_text}
use Rattle.value_measures.specs.declared.measured.Measures.{Measures}
use Rattle.value_measures.specs.declared.numbers.ValueNumbers.{ValueNumbers}
use Rattle.value_measures.specs.declared.printed.PrintedReport.{PrintedReport}
use Rattle.value_measures.specs.declared.printed.ScenarioReport.{ScenarioReport}

-- a line that says of which program the report is, and the report
abbrev pub headed_text : List ℕ → PrintedReport → List ℕ
headed_text word printed = word ++ 10 ∷ printed.text.items

-- that of a scenario by itself, with the scenario's name
unfoldable pub scenario_report_text : ScenarioReport → List ℕ
scenario_report_text r = codes "PROGRAM WS " ++ r.name ++ 10 ∷ r.printed.text.items

abbrev pub means_text : Result PrintedReport Operation → List ℕ
means_text (Ok printed) = headed_text (codes "PROGRAM EV") printed
means_text (Err o) = []

abbrev pub fixed_text : Option PrintedReport → List ℕ
fixed_text (Some printed) = headed_text (codes "PROGRAM EEV") printed
fixed_text None = []

-- a number behind its word, or none
abbrev pub number_text : List ℕ → Option ℚ → List ℕ
number_text word value = word ++ end_text value ++ 10 ∷ []

-- the operation that passed, where one did
abbrev pub passed_text : Option Operation → List ℕ
passed_text None = []
passed_text (Some o) = codes "PASSED " ++ operation_text o ++ 10 ∷ []

abbrev pub numbers_text : ValueNumbers → List ℕ
numbers_text n =
    number_text (codes "RP ") n.whole ++ number_text (codes "WS ") n.scenarios ++ number_text (codes "EV ") n.means
    ++ number_text (codes "EEV ") n.fixed ++ number_text (codes "EVPI ") n.information ++ number_text (codes "VSS ") n.model
    ++ passed_text n.passed

abbrev pub measures_text : Measures → List ℕ
measures_text m =
    headed_text (codes "PROGRAM RP") m.whole ++ flat_map scenario_report_text m.scenarios.items ++ means_text m.means
    ++ fixed_text m.fixed ++ numbers_text m.numbers ++ codes "END\n"
