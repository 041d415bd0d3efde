-- Why a report of what was found is left open.
use Rattle.std.proofs.Common.{◌≡◌, ◌⊎◌, ℕ, Result, Ok, Err, IfOk, inl, inr, refl, sym, ap, subst, ◌∙◌}
use Rattle.rationals.specs.Passes.{Operation}
use Rattle.scen_defs.specs.Program.{content, view_of}
use Rattle.scen_defs.specs.declared.program.Program.{Program}
use Rattle.scen_defs.specs.declared.report.Place.{Place}
use Rattle.scen_defs.specs.declared.report.Place.TheVariants.{Cost}
use Rattle.scen_defs.specs.declared.report.Finding.{Finding}
use Rattle.scen_defs.specs.declared.report.Finding.TheVariants.{Optimal, Infeasible, Unbounded, OpenSolves, OpenPivots, OpenPassed}
use Rattle.scen_defs.specs.declared.report.Report.{Report}
use Rattle.report_defs.specs.Truth.{Explains, IsTrue}
use Rattle.proved_report.specs.declared.open.Open.TheVariants.{Passed}
use Rattle.proved_report.specs.Open.{given}
use Rattle.proved_report.specs.Passing.{PassesInTest}
use Rattle.proved_report.specs.Reports.{claimed_report, IsClaimed}
use Rattle.proved_report.proofs.PassingLemmas.{by_claim}
use Rattle.pass_core.specs.declared.budget.Budget.{Budget}
use Rattle.nested_method.specs.declared.found.Found.{Found}
use Rattle.nested_method.specs.Stands.{LeavesOpen, TellsWhy}
use Rattle.smps_session.specs.Reasons.{told_reasons}

-- ---- a report that is true for the reason that was found is true for the reasons that are told
module _ (program : Program) (budget : Budget) (found : Found) (number : ℕ) (report : Report)
    (tells : TellsWhy (content program) budget found)
    (claimed : IsClaimed program number found.place found.why budget.solves found.claim report) where
  passed_at : (place : Place) (o : Operation) → report.finding ≡ OpenPassed place o → (found.why ≡ Passed place o) ⊎ PassesInTest program place o
  passed_at place o e =
      let is : report ≡ claimed_report program number report.nodes report.scenarios (Cost tells.commits) found.why budget.solves claimed.rounds
      found.claim =
      claimed.is ∙ ap (λ (at : Place). claimed_report program number report.nodes report.scenarios at found.why
      budget.solves claimed.rounds found.claim) tells.place in
      by_claim program o place tells.commits number report.nodes report.scenarios budget.solves found.why claimed.rounds found.claim
      (sym (ap (λ (r : Report). r.finding) is) ∙ e)

  explained : (f : Finding) → report.finding ≡ f → Explains (view_of (content program)) (given found.why budget.solves) report f
      → Explains (view_of (content program)) (told_reasons program budget) report f
  explained Optimal e h = h
  explained Infeasible e h = h
  explained Unbounded e h = h
  explained (OpenSolves n) e (inl w) = subst (LeavesOpen (content program) budget) w tells.why
  explained (OpenSolves n) e (inr w) = w
  explained (OpenPivots k) e w = subst (LeavesOpen (content program) budget) w tells.why
  explained (OpenPassed place o) e h = (
    h,
    elim (passed_at place o e) [
      | inl w ↦ inl (subst (LeavesOpen (content program) budget) w tells.why)
      | inr t ↦ inr t
    ],
  )

  told_true : IsTrue (view_of (content program)) (given found.why budget.solves) report → IsTrue (view_of (content program)) (told_reasons program budget) report
  told_true t = record {
    lower = t.lower;
    upper = t.upper;
    finding = explained report.finding refl t.finding;
    direction = t.direction;
    ray = t.ray;
    extra = t.extra;
  }

pub true_told : {E : Type 0} (program : Program) (budget : Budget) (found : Found) (number : ℕ) (result : Result Report E)
    → TellsWhy (content program) budget found → IfOk result (IsClaimed program number found.place found.why budget.solves found.claim)
    → IfOk result (IsTrue (view_of (content program)) (given found.why budget.solves))
    → IfOk result (IsTrue (view_of (content program)) (told_reasons program budget))
true_told program budget found number (Ok report) tells claimed t = told_true program budget found number report tells claimed t
true_told program budget found number (Err e) tells claimed t = tt
