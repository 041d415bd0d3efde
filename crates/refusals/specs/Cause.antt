-- The numbers of causes.
use Rattle.std.specs.Prelude.{ℕ}
use Rattle.refusals.specs.declared.cause.Cause.{Cause}
use Rattle.refusals.specs.declared.cause.Cause.TheVariants as cause

abbrev pub number_of_cause : Cause → ℕ
number_of_cause cause.SectionUnknown = 10
number_of_cause cause.SectionOrder = 11
number_of_cause cause.SectionMissing = 12
number_of_cause cause.RowKind = 13
number_of_cause cause.RowTwice = 14
number_of_cause cause.RowUnknown = 15
number_of_cause cause.ColumnSplit = 16
number_of_cause cause.EntryTwice = 17
number_of_cause cause.FieldCount = 18
number_of_cause cause.NumberBad = 19
number_of_cause cause.NumberWide = 20
number_of_cause cause.BoundKind = 21
number_of_cause cause.BoundsCross = 22
number_of_cause cause.UpperNegative = 23
number_of_cause cause.IntegerMarker = 24
number_of_cause cause.ObjectiveRhs = 25
number_of_cause cause.NoObjective = 26
number_of_cause cause.RangeOnFree = 27
number_of_cause cause.ColumnUnknown = 28
number_of_cause cause.CoreLimit = 29
number_of_cause cause.StartUnknown = 30
number_of_cause cause.PeriodOrder = 31
number_of_cause cause.PeriodTwice = 32
number_of_cause (cause.NotTriangular row column) = 33
number_of_cause cause.PeriodCount = 34
number_of_cause cause.PeriodUnknown = 35
number_of_cause (cause.RowMissing row) = 36
number_of_cause (cause.ColumnMissing column) = 36
number_of_cause cause.PlaceTwice = 37
number_of_cause cause.KindUnknown = 40
number_of_cause cause.EntryUnknown = 41
number_of_cause cause.EntryStage = 42
number_of_cause cause.ProbabilityRange = 43
number_of_cause (cause.ProbabilitySum sum) = 44
number_of_cause cause.ParentUnknown = 45
number_of_cause cause.BranchPeriod = 46
number_of_cause cause.ScenarioTwice = 47
number_of_cause cause.ScenariosMixed = 48
number_of_cause cause.ScenarioLimit = 49
number_of_cause cause.CommandUnknown = 50
number_of_cause cause.ScenarioUnknown = 51
number_of_cause cause.NameTaken = 52
number_of_cause cause.EditProbability = 53
number_of_cause cause.LastScenario = 54
number_of_cause cause.EditEntryUnknown = 55
number_of_cause cause.ScriptLimit = 56
number_of_cause (cause.Passes p) = 57
number_of_cause cause.ReportBad = 58
number_of_cause cause.TraceBad = 59
number_of_cause cause.FlatLimit = 60
number_of_cause cause.TailName = 61
number_of_cause cause.BasisBad = 62
