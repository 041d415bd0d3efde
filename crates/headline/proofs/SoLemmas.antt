-- What a true report says is so.
use Rattle.std.proofs.Common.{◌≡◌, ◌∙◌, List, Option, Some, None, sym, ap, subst, refl}
use Rattle.std.specs.Prelude.{IfSome}
use Rattle.rationals.specs.Rational.{ℚ, ◌≤ℚ◌, le_trans_ℚ, le_antisym_ℚ}
use Rattle.scen_defs.specs.Values.{At, at}
use Rattle.scen_defs.specs.Program.{View}
use Rattle.scen_defs.specs.Flat.{Feasible, cost}
use Rattle.scen_defs.specs.declared.report.Finding.{Finding}
use Rattle.scen_defs.specs.declared.report.Finding.TheVariants.{Optimal, Infeasible, Unbounded, OpenSolves, OpenPivots, OpenPassed}
use Rattle.scen_defs.specs.declared.report.Report.{Report}
use Rattle.report_defs.specs.Shows.{Together, ShowsLower, ShowsUpper}
use Rattle.report_defs.specs.Truth.{Reasons, IsTrue, Explains}
use Rattle.report_defs.proofs.BestLemmas.{equal_ends_are_best}
use Rattle.certificate_check.specs.Shown.{IsShown, unchecked}
use Rattle.headline.specs.Headline.{Policy, NoneIsCheaper, PrintsPolicy, OptimalIsSo, OpenIsSo, StatusIsSo}
use Rattle.headline.specs.Laws.{TrueReportsAreSo, HeldReportsAreSo, CostsBy, RisksAreLeast, BestIsLeast}

-- ---- of a true report

module _ (v : View) (why : Reasons) (report : Report) (h : IsTrue v why report) where
  lower_is_so : (lower : Option ℚ) (dual : Option (List At)) → Together (ShowsLower v) lower dual → IfSome lower (NoneIsCheaper v (cost v))
  lower_is_so None dual t = tt
  lower_is_so (Some l) None t = absurd t
  lower_is_so (Some l) (Some dual) t = t.bound

  upper_is_so : (upper : Option ℚ) (policy : Option (List At)) → report.policy ≡ policy → Together (ShowsUpper v) upper policy
      → IfSome upper (PrintsPolicy v (cost v) report)
  upper_is_so None policy e t = tt
  upper_is_so (Some u) None e t = absurd t
  upper_is_so (Some u) (Some policy) e t = record { policy = policy; printed = e; feasible = t.feasible; costs = t.costs }

  open_is_so : OpenIsSo v (cost v) report
  open_is_so = record {
    lower = lower_is_so report.lower report.dual h.lower;
    upper = upper_is_so report.upper report.policy refl h.upper;
  }

  upper_there : (upper : Option ℚ) (u : ℚ) → upper ≡ Some u → IfSome upper (PrintsPolicy v (cost v) report) → PrintsPolicy v (cost v) report u
  upper_there None u e t = absurd (cc)
  upper_there (Some w) u e t = subst (PrintsPolicy v (cost v) report) (let d : w ≡ u = cc in d) t

  by_finding : (finding : Finding) → Explains v why report finding → StatusIsSo v (cost v) report finding
  by_finding Optimal e =
      let best = equal_ends_are_best v report h.lower h.upper e in
      let same : Some e.cost ≡ Some (cost v (at best.policy)) = sym e.upper ∙ best.costs in
      let costs : cost v (at best.policy) ≡ e.cost = cc in
      record {
        v = e.cost;
        lower = e.lower;
        upper = e.upper;
        policy = best.policy;
        printed = best.there;
        least = (best.feasible, costs, λ x f. subst (λ (z : ℚ). z ≤ℚ cost v x) costs (best.least x f));
      }
  by_finding Infeasible e = record { none = e.shows.nothing }
  by_finding Unbounded e = record {
    upper = e.upper;
    upper_is = e.upper_is;
    policy = upper_there report.upper e.upper e.upper_is open_is_so.upper;
    endless = e.shows.endless;
  }
  by_finding (OpenSolves n) e = open_is_so
  by_finding (OpenPivots k) e = open_is_so
  by_finding (OpenPassed place o) e = open_is_so

pub true_is_so : (v : View) (why : Reasons) (report : Report) → IsTrue v why report → StatusIsSo v (cost v) report report.finding
true_is_so v why report h = by_finding v why report h report.finding h.finding

pub unchecked_is_so : TrueReportsAreSo
unchecked_is_so v report h = true_is_so v unchecked report h

-- ---- of a report all of whose claims hold

held_by : (v : View) (report : Report) → IsShown v report → (finding : Finding) → report.finding ≡ finding
    → StatusIsSo v (cost v) report finding
held_by v report h Infeasible e = record { none = (h.ray e).shows.nothing }
held_by v report h Optimal e = subst (StatusIsSo v (cost v) report) e (true_is_so v unchecked report (h.truth (λ d. absurd (cc))))
held_by v report h Unbounded e = subst (StatusIsSo v (cost v) report) e (true_is_so v unchecked report (h.truth (λ d. absurd (cc))))
held_by v report h (OpenSolves n) e = subst (StatusIsSo v (cost v) report) e (true_is_so v unchecked report (h.truth (λ d. absurd (cc))))
held_by v report h (OpenPivots k) e = subst (StatusIsSo v (cost v) report) e (true_is_so v unchecked report (h.truth (λ d. absurd (cc))))
held_by v report h (OpenPassed place o) e =
    subst (StatusIsSo v (cost v) report) e (true_is_so v unchecked report (h.truth (λ d. absurd (cc))))

pub held_is_so : HeldReportsAreSo
held_is_so v report h = held_by v report h report.finding refl

-- ---- of a program with another cost

module _ (p q : View) (cost_of : Policy → ℚ) (report : Report) (by : CostsBy p q cost_of) where
  none_cheaper : (l : ℚ) → NoneIsCheaper q (cost q) l → NoneIsCheaper p cost_of l
  none_cheaper l bound x f =
      let there = by.attained x f in
      subst (λ (z : ℚ). l ≤ℚ z) there.2 (bound there.0 there.1)

  prints_policy : (u : ℚ) → PrintsPolicy q (cost q) report u → PrintsPolicy p cost_of report u
  prints_policy u h =
      let here = by.least (at h.policy) h.feasible in
      record { policy = h.policy; printed = h.printed; feasible = here.0; costs = le_trans_ℚ here.1 h.costs }

  if_lower : (lower : Option ℚ) → IfSome lower (NoneIsCheaper q (cost q)) → IfSome lower (NoneIsCheaper p cost_of)
  if_lower None h = tt
  if_lower (Some l) h = none_cheaper l h

  if_upper : (upper : Option ℚ) → IfSome upper (PrintsPolicy q (cost q) report) → IfSome upper (PrintsPolicy p cost_of report)
  if_upper None h = tt
  if_upper (Some u) h = prints_policy u h

  open_by : OpenIsSo q (cost q) report → OpenIsSo p cost_of report
  open_by h = record { lower = if_lower report.lower h.lower; upper = if_upper report.upper h.upper }

  optimal_by : OptimalIsSo q (cost q) report → OptimalIsSo p cost_of report
  optimal_by h =
      let here = by.least (at h.policy) h.least.0 in
      let cheapest : NoneIsCheaper p cost_of h.v = none_cheaper h.v h.least.2 in
      let most : cost_of (at h.policy) ≤ℚ h.v = subst (λ (z : ℚ). cost_of (at h.policy) ≤ℚ z) h.least.1 here.1 in
      record {
        v = h.v;
        lower = h.lower;
        upper = h.upper;
        policy = h.policy;
        printed = h.printed;
        least = (here.0, le_antisym_ℚ most (cheapest (at h.policy) here.0), cheapest);
      }

  endless_by : ((limit : ℚ) → (x : Policy) × Feasible q x × (cost q x ≤ℚ limit)) → (limit : ℚ) → (x : Policy) × Feasible p x × (cost_of x ≤ℚ limit)
  endless_by h limit =
      let there = h limit in
      let here = by.least there.0 there.1 in
      (there.0, here.0, le_trans_ℚ here.1 there.2)

  status_by : (finding : Finding) → StatusIsSo q (cost q) report finding → StatusIsSo p cost_of report finding
  status_by Optimal h = optimal_by h
  status_by Infeasible h = record { none = λ x f. let there = by.attained x f in h.none there.0 there.1 }
  status_by Unbounded h = record {
    upper = h.upper;
    upper_is = h.upper_is;
    policy = prints_policy h.upper h.policy;
    endless = endless_by h.endless;
  }
  status_by (OpenSolves n) h = open_by h
  status_by (OpenPivots k) h = open_by h
  status_by (OpenPassed place o) h = open_by h

pub risk_is_so : RisksAreLeast
risk_is_so p q cost_of report finding by h = status_by p q cost_of report by finding h

-- ---- the best is least

pub best_is_least : BestIsLeast
best_is_least v report = (
  λ b. record {
    policy = b.policy;
    there = b.there;
    upper = cost v (at b.policy);
    upper_is = b.costs;
    least = (b.feasible, refl, b.least);
  },
  λ l. record {
    policy = l.policy;
    there = l.there;
    feasible = l.least.0;
    costs = l.upper_is ∙ ap Some (sym l.least.1);
    least = λ x f. subst (λ (z : ℚ). z ≤ℚ cost v x) (sym l.least.1) (l.least.2 x f);
  },
)
