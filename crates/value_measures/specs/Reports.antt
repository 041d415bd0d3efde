-- Which reports are compared: of the program, of each scenario by itself, of the means, and with the first period decided as for the means.
use Rattle.std.specs.Prelude.{◌≡◌, ⊤, List, [], ◌∷◌, Option, Some, None, Result, Ok, Err}
use Rattle.rationals.specs.Passes.{Operation, then_walk}
use Rattle.scen_defs.specs.Program.{Scenario, Program, content, view_of}
use Rattle.scen_defs.specs.Values.{At}
use Rattle.scen_defs.specs.declared.program.Program.{Program as ProgramOf}
use Rattle.scen_tree.specs.Trees.{tree_walk}
use Rattle.report_defs.specs.Truth.{IsTrue, HasCounts}
use Rattle.report_text.specs.Text.{report_text}
use Rattle.proved_report.specs.Reports.{EqualIsOptimal}
use Rattle.pass_core.specs.declared.budget.Budget.{Budget}
use Rattle.nested_method.specs.Stands.{HasFewNodes}
use Rattle.smps_session.specs.Comes.{ComesOfAll}
use Rattle.smps_session.specs.Reasons.{told_reasons}
use Rattle.smps_session.specs.declared.whole.StatedLimits.{StatedLimits}
use Rattle.value_programs.specs.Fixed.{fixed_program}
use Rattle.value_programs.specs.Mean.{mean_walk}
use Rattle.value_programs.specs.OneScenario.{scenario_program}
use Rattle.value_measures.specs.Numbers.{if_optimal}
use Rattle.value_measures.specs.declared.printed.ReportLimits.{ReportLimits}
use Rattle.value_measures.specs.declared.printed.PrintedReport.{PrintedReport}
use Rattle.value_measures.specs.declared.printed.ScenarioReport.{ScenarioReport}

abbrev pub budget_of_limits : ReportLimits → Budget
budget_of_limits limits = record { solves = limits.solves; pivots = limits.pivots }

-- The report is true of the program, and is found within the budget, of which some numbers are stated; the text is its whole text. It comes
-- of solves of the program's nodes, or of the whole program.
pub record IsReportOf (budget : Budget) (stated : StatedLimits) (p : Program) (printed : PrintedReport) : Type 0 where
  pub program : ProgramOf
  pub content_is : content program ≡ p
  pub number : printed.report.number ≡ 1
  pub text : printed.text.items ≡ report_text program printed.report
  pub counts : HasCounts (view_of p) printed.report
  pub truth : IsTrue (view_of p) (told_reasons program budget) printed.report
  pub equal : EqualIsOptimal printed.report
  pub comes : HasFewNodes p → ComesOfAll budget stated program printed.report

-- ---- each scenario by itself

-- the report has the scenario's name and probability, and is one of the program in which it is the only one
pub record IsOfScenario (budget : Budget) (stated : StatedLimits) (p : Program) (c : Scenario) (r : ScenarioReport) : Type 0 where
  pub name : r.name ≡ c.name
  pub probability : r.probability ≡ c.probability
  pub is_report : IsReportOf budget stated (scenario_program p c) r.printed

-- one for each of some scenarios, in their order
abbrev pub AreOfScenarios : Budget → StatedLimits → Program → List Scenario → List ScenarioReport → Type 0
AreOfScenarios budget stated p [] [] = ⊤
AreOfScenarios budget stated p [] (r ∷ rs) = ⊥
AreOfScenarios budget stated p (c ∷ cs) [] = ⊥
AreOfScenarios budget stated p (c ∷ cs) (r ∷ rs) = IsOfScenario budget stated p c r × AreOfScenarios budget stated p cs rs

-- ---- the means

-- the program of the means; or the first operation that passes, of the totals of nodes and their shares, then of the means
abbrev pub means_of : Program → Result Program Operation
means_of p = then_walk (tree_walk p) (λ tree. mean_walk p tree)

-- a report of it; or the same operation
abbrev pub IsOfMeans : Budget → StatedLimits → Result Program Operation → Result PrintedReport Operation → Type 0
IsOfMeans budget stated (Ok q) (Ok r) = IsReportOf budget stated q r
IsOfMeans budget stated (Ok q) (Err o) = ⊥
IsOfMeans budget stated (Err o) (Ok r) = ⊥
IsOfMeans budget stated (Err o) (Err named) = named ≡ o

-- ---- the first period as for the means

-- the policy of the means, where their report is OPTIMAL: then it has one
abbrev pub policy_of_means : Result PrintedReport Operation → Option (List At)
policy_of_means (Ok r) = if_optimal r.report.finding r.report.policy
policy_of_means (Err o) = None

-- a report of the program whose first period is decided so; none where there is no such policy
abbrev pub IsOfFixed : Budget → StatedLimits → Program → Option (List At) → Option PrintedReport → Type 0
IsOfFixed budget stated p (Some policy) (Some r) = IsReportOf budget stated (fixed_program p policy) r
IsOfFixed budget stated p (Some policy) None = ⊥
IsOfFixed budget stated p None (Some r) = ⊥
IsOfFixed budget stated p None None = ⊤
