-- What is measured of a program.
use Rattle.std.specs.Prelude.{◌≡◌, IfSome}
use Rattle.rationals.specs.Rational.{zero_ℚ, ◌≤ℚ◌}
use Rattle.scen_defs.specs.Program.{Program}
use Rattle.pass_core.specs.declared.budget.Budget.{Budget}
use Rattle.smps_session.specs.declared.whole.StatedLimits.{StatedLimits}
use Rattle.value_measures.specs.Numbers.{numbers_told}
use Rattle.value_measures.specs.Reports.{IsReportOf, AreOfScenarios, IsOfMeans, IsOfFixed, means_of, policy_of_means}
use Rattle.value_measures.specs.declared.measured.Measures.{Measures}

-- Each report is one of its program, found within the budget, of which some numbers are stated; and the numbers are those of the reports.
pub record IsMeasured (budget : Budget) (stated : StatedLimits) (p : Program) (m : Measures) : Type 0 where
  pub whole : IsReportOf budget stated p m.whole
  pub scenarios : AreOfScenarios budget stated p p.scenarios m.scenarios.items
  pub means : IsOfMeans budget stated (means_of p) m.means
  pub fixed : IsOfFixed budget stated p (policy_of_means m.means) m.fixed
  pub numbers : m.numbers ≡ numbers_told m.whole m.scenarios.items m.means m.fixed
  -- what it is worth to know what comes isn't below 0, where it is there,
  pub information : IfSome m.numbers.information (λ v. zero_ℚ ≤ℚ v)
  -- nor what it is worth to plan for all that may come
  pub model : IfSome m.numbers.model (λ v. zero_ℚ ≤ℚ v)
