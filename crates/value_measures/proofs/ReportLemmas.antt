-- Reports of the programs that are compared.
use Rattle.std.proofs.Common.{◌≡◌, ◌∙◌, ◌++◌, ◌<◌, ◌≤◌, ◌+◌, ℕ, List, [], ◌∷◌, Option, Some, Result, Ok, Err, IfOk, refl, sym, ap, subst}
use Rattle.std.proofs.Common.{length, take, get_or}
use Rattle.std.proofs.lemmas.List.{take_more, take_all}
use Rattle.rationals.specs.Passes.{Operation}
use Rattle.scen_defs.specs.Program.{Scenario, Program, content, view_of}
use Rattle.scen_defs.specs.Values.{At}
use Rattle.scen_defs.specs.declared.program.Program.{Program as ProgramOf}
use Rattle.scen_defs.specs.declared.report.Report.{Report}
use Rattle.report_defs.specs.Truth.{IsTrue, HasCounts}
use Rattle.report_text.specs.Text.{report_text}
use Rattle.proved_report.specs.Reports.{EqualIsOptimal}
use Rattle.pass_core.specs.declared.budget.Budget.{Budget}
use Rattle.nested_method.specs.Stands.{HasFewNodes}
use Rattle.edit_defs.specs.After.{no_scenario}
use Rattle.smps_session.specs.Comes.{ComesOfAll}
use Rattle.smps_session.specs.Reasons.{told_reasons}
use Rattle.smps_session.specs.declared.whole.StatedLimits.{StatedLimits}
use Rattle.value_programs.specs.Fixed.{fixed_program}
use Rattle.value_measures.specs.Reports.{IsReportOf, IsOfScenario, AreOfScenarios, IsOfMeans, IsOfFixed}
use Rattle.value_measures.specs.declared.printed.PrintedReport.{PrintedReport}
use Rattle.value_measures.specs.declared.printed.ScenarioReport.{ScenarioReport}

module _ (budget : Budget) (stated : StatedLimits) where
  -- a report that is printed
  pub prints : {E : Type 0} (program : ProgramOf) (report : Report) (result : Result PrintedReport E) → report.number ≡ 1
      → HasCounts (view_of (content program)) report → IsTrue (view_of (content program)) (told_reasons program budget) report
      → EqualIsOptimal report → (HasFewNodes (content program) → ComesOfAll budget stated program report)
      → IfOk result (λ printed. printed.report ≡ report) → IfOk result (λ printed. printed.text.items ≡ report_text program report)
      → IfOk result (IsReportOf budget stated (content program))
  prints program report (Ok printed) n counts truth equal comes is text = record {
    program = program;
    content_is = refl;
    number = ap (λ (r : Report). r.number) is ∙ n;
    text = text ∙ ap (report_text program) (sym is);
    counts = subst (HasCounts (view_of (content program))) (sym is) counts;
    truth = subst (IsTrue (view_of (content program)) (told_reasons program budget)) (sym is) truth;
    equal = subst EqualIsOptimal (sym is) equal;
    comes = λ few. subst (ComesOfAll budget stated program) (sym is) (comes few);
  }
  prints program report (Err e) n counts truth equal comes is text = tt

  -- one more scenario
  pushed : (p : Program) (cs : List Scenario) (rs : List ScenarioReport) (c : Scenario) (r : ScenarioReport) → AreOfScenarios budget stated p cs rs
      → IsOfScenario budget stated p c r → AreOfScenarios budget stated p (cs ++ c ∷ []) (rs ++ r ∷ [])
  pushed p [] [] c r h is = (is, tt)
  pushed p [] (x ∷ rs) c r h is = absurd h
  pushed p (d ∷ cs) [] c r h is = absurd h
  pushed p (d ∷ cs) (x ∷ rs) c r h is = (h.0, pushed p cs rs c r h.1 is)

  pub one_more : (p : Program) (cs : List Scenario) (place : ℕ) (rs : List ScenarioReport) (r : ScenarioReport) (more : List ScenarioReport) → place < length cs
      → more ≡ rs ++ r ∷ [] → AreOfScenarios budget stated p (take place cs) rs → IsOfScenario budget stated p (get_or cs place no_scenario) r
      → AreOfScenarios budget stated p (take (place + 1) cs) more
  one_more p cs place rs r more within e h is =
      subst (AreOfScenarios budget stated p (take (place + 1) cs)) (sym e)
      (subst (λ (xs : List Scenario). AreOfScenarios budget stated p xs (rs ++ r ∷ [])) (sym (take_more cs place no_scenario within))
      (pushed p (take place cs) rs (get_or cs place no_scenario) r h is))

  -- all of them
  pub all_there : (p : Program) (cs : List Scenario) (place : ℕ) (rs : List ScenarioReport) → length cs ≤ place
      → AreOfScenarios budget stated p (take place cs) rs → AreOfScenarios budget stated p cs rs
  all_there p cs place rs long h = subst (λ (xs : List Scenario). AreOfScenarios budget stated p xs rs) (take_all place cs long) h

  -- the program of the means, and its report
  pub of_means : (walk : Result Program Operation) (q : Program) (r : PrintedReport) → walk ≡ Ok q → IsReportOf budget stated q r
      → IsOfMeans budget stated walk (Ok r)
  of_means walk q r e is = subst (λ (w : Result Program Operation). IsOfMeans budget stated w (Ok r)) (sym e) is

  pub no_means : (walk : Result Program Operation) (o : Operation) → walk ≡ Err o → IsOfMeans budget stated walk (Err o)
  no_means walk o e = subst (λ (w : Result Program Operation). IsOfMeans budget stated w (Err o)) (sym e) refl

  pub of_fixed : (p : Program) (policy : Option (List At)) (first : List At) (r : PrintedReport) → Some first ≡ policy
      → IsReportOf budget stated (fixed_program p first) r → IsOfFixed budget stated p policy (Some r)
  of_fixed p policy first r e is = subst (λ (o : Option (List At)). IsOfFixed budget stated p o (Some r)) e is
