-- A report with a shorter ray is true of what the first one was true of, and the same but for that.
use Rattle.std.proofs.Common.{◌≡◌, ◌⊎◌, true, false, is_some, refl, inl, inr, sym, ap, subst, ◌∙◌}
use Rattle.scen_defs.specs.Fits.{ListsHaveNames}
use Rattle.scen_defs.specs.Program.{View}
use Rattle.scen_defs.specs.declared.program.Program.{Program}
use Rattle.scen_defs.specs.declared.report.Finding.{Finding}
use Rattle.scen_defs.specs.declared.report.Finding.TheVariants.{Optimal, Infeasible, Unbounded, OpenSolves, OpenPivots, OpenPassed}
use Rattle.scen_defs.specs.declared.report.Report.{Report}
use Rattle.report_defs.specs.Findings.{IsInfeasible, has_ray, has_extra}
use Rattle.report_defs.specs.Truth.{Reasons, Explains, IsTrue, HasCounts}
use Rattle.proved_report.specs.Reports.{EqualIsOptimal}
use Rattle.smps_session.specs.Shorter.{IsShorter, HasShorterRay}

-- a finding that has a ray is INFEASIBLE
is_infeasible : (f : Finding) → has_ray f ≡ true → f ≡ Infeasible
is_infeasible Optimal e = absurd (let no : false ≡ true = e in cc)
is_infeasible Infeasible e = refl
is_infeasible Unbounded e = absurd (let no : false ≡ true = e in cc)
is_infeasible (OpenSolves n) e = absurd (let no : false ≡ true = e in cc)
is_infeasible (OpenPivots k) e = absurd (let no : false ≡ true = e in cc)
is_infeasible (OpenPassed place o) e = absurd (let no : false ≡ true = e in cc)

-- a true report that has one shows that no point is feasible
pub shows_infeasible : (v : View) (why : Reasons) (report : Report) → has_ray report.finding ≡ true → IsTrue v why report → IsInfeasible v report
shows_infeasible v why report e t = subst (λ (f : Finding). Explains v why report f) (is_infeasible report.finding e) t.finding

-- the report that was found with the ray of another one
with_ray : Report → Report → Report
with_ray found tested = record found { extra = tested.extra; ray = tested.ray }

pub ray_true : (v : View) (why : Reasons) (found tested : Report) → IsShorter found tested → IsTrue v why found → IsInfeasible v tested
    → IsTrue v why (record found { extra = tested.extra; ray = tested.ray })
unfolding with_ray
ray_true v why found tested s t i =
    let own = shows_infeasible v why found s.infeasible t in
    let shown : IsInfeasible v (with_ray found tested) = record {
      lower_is = own.lower_is;
      upper_is = own.upper_is;
      value = i.value;
      value_is = i.value_is;
      ray = i.ray;
      ray_is = i.ray_is;
      shows = i.shows;
    } in record {
      lower = t.lower;
      upper = t.upper;
      finding = subst (λ (f : Finding). Explains v why (with_ray found tested) f) (sym (is_infeasible found.finding s.infeasible)) shown;
      direction = t.direction;
      ray = ap is_some i.ray_is ∙ sym s.infeasible;
      extra = ap is_some i.value_is ∙ sym (ap has_extra (is_infeasible found.finding s.infeasible));
    }

pub ray_named : (program : Program) (found tested : Report) → ListsHaveNames program found → ListsHaveNames program tested
    → ListsHaveNames program (record found { extra = tested.extra; ray = tested.ray })
ray_named program found tested h k = record { policy = h.policy; direction = h.direction; dual = h.dual; ray = k.ray }

pub has_shorter : (found tested : Report) → IsShorter found tested
    → HasShorterRay found (record found { extra = tested.extra; ray = tested.ray })
has_shorter found tested s = record { infeasible = s.infeasible; same = refl; fewer = s.fewer }

-- ---- what is printed differs in the ray and what that is worth
pub kept : (found report : Report) → (report ≡ found) ⊎ HasShorterRay found report
    → report ≡ record found { extra = report.extra; ray = report.ray }
kept found report (inl e) = subst (λ (r : Report). report ≡ record r { extra = report.extra; ray = report.ray }) e refl
kept found report (inr h) = h.same

pub counts_kept : (v : View) (found report : Report) → report ≡ record found { extra = report.extra; ray = report.ray } → HasCounts v found
    → HasCounts v report
counts_kept v found report e h = record {
  nodes = ap (λ (r : Report). r.nodes) e ∙ h.nodes;
  scenarios = ap (λ (r : Report). r.scenarios) e ∙ h.scenarios;
}

pub equal_kept : (found report : Report) → report ≡ record found { extra = report.extra; ray = report.ray } → EqualIsOptimal found
    → EqualIsOptimal report
equal_kept found report e h = λ lower upper l u s.
    ap (λ (r : Report). r.finding) e
    ∙ h lower upper (sym (ap (λ (r : Report). r.lower) e) ∙ l) (sym (ap (λ (r : Report). r.upper) e) ∙ u) s
