-- The reports of lists that were tested are true.
use Rattle.std.proofs.Common.{◌≡◌, ℕ, Bool, true, false, List, Option, Some, None, length, inl, inr, refl, sym, ap, subst, ◌∙◌}
use Rattle.std.specs.Prelude.{◌<◌, ◌^◌}
use Rattle.rationals.specs.Rational.{ℚ}
use Rattle.rationals.specs.Order.{same}
use Rattle.rationals.specs.OrderLaws.{same_means}
use Rattle.scen_defs.specs.Values.{At, at}
use Rattle.scen_defs.specs.Fits.{ListsHaveNames}
use Rattle.scen_defs.specs.Program.{View, IsTree, content}
use Rattle.scen_defs.specs.declared.program.Program.{Program}
use Rattle.scen_defs.specs.declared.report.Place.{Place}
use Rattle.scen_defs.specs.declared.report.Finding.{Finding}
use Rattle.scen_defs.specs.declared.report.Finding.TheVariants.{Optimal, Infeasible, Unbounded, OpenSolves, OpenPivots, OpenPassed}
use Rattle.scen_defs.specs.declared.report.Report.{Report}
use Rattle.scen_defs.proofs.Directions.{unboundedness_shown}
use Rattle.report_defs.specs.Shows.{Together, ShowsLower, ShowsUpper, ShowsNothing}
use Rattle.report_defs.specs.Findings.{has_direction, has_ray, has_extra}
use Rattle.report_defs.specs.Truth.{Reasons, Explains, IsTrue, HasCounts}
use Rattle.rationals.specs.Passes.{Operation, passes}
use Rattle.rationals.specs.Choices.{pick}
use Rattle.proved_report.specs.declared.open.Open.{Open}
use Rattle.proved_report.specs.declared.open.Open.TheVariants.{Solves, Pivots, Passed}
use Rattle.proved_report.specs.declared.tested.Tested.{Tested}
use Rattle.proved_report.specs.declared.tested.Tested.TheVariants.{Shows, Fails, Passes}
use Rattle.proved_report.specs.Open.{given, finding_of}
use Rattle.report_defs.specs.Seen.{seen}
use Rattle.report_defs.specs.Blank.{blank_report}
use Rattle.proved_report.specs.Tested.{or_before}
use Rattle.proved_report.specs.Reports.{IsFilled, ends_report, ray_report, falling_report}
use Rattle.proved_report.proofs.ShownLemmas.{IfShown, IsSlope, HasNames}
use Rattle.proved_report.proofs.CountLemmas.{node_places, scenario_places}

-- ---- why a report is left open

-- a finding that leaves a report open, for one of these reasons
abbrev pub IsLeftOpen : Reasons → Finding → Type 0
IsLeftOpen why Optimal = ⊥
IsLeftOpen why Infeasible = ⊥
IsLeftOpen why Unbounded = ⊥
IsLeftOpen why (OpenSolves n) = why.solves_end n
IsLeftOpen why (OpenPivots k) = why.pivots_end k
IsLeftOpen why (OpenPassed place p) = why.passes place p

told-open : (why : Open) (solves : ℕ) (place : Place) (p : Operation) (b : Bool) → passes p.op p.a p.b ≡ b → IsLeftOpen (given why solves) (pick b (OpenPassed place p) (OpenSolves solves))
told-open why solves place p true e = record { holds = e }
told-open why solves place p false e = inr refl

pub left-open : (why : Open) (solves : ℕ) → IsLeftOpen (given why solves) (finding_of why solves)
left-open (Solves n) solves = inl refl
left-open (Pivots k) solves = refl
left-open (Passed place p) solves = told-open (Passed place p) solves place p (passes p.op p.a p.b) refl

pub before-given : (t : Tested) (place : Place) (why : Open) (solves : ℕ) (f : Finding) → IsLeftOpen (given (or_before t place why) solves) f → IsLeftOpen (given why solves) f
before-given (Shows q values) place why solves f h = h
before-given Fails place why solves f h = h
before-given (Passes p) place why solves Optimal h = h
before-given (Passes p) place why solves Infeasible h = h
before-given (Passes p) place why solves Unbounded h = h
before-given (Passes p) place why solves (OpenSolves n) (inl e) = cc
before-given (Passes p) place why solves (OpenSolves n) (inr e) = inr e
before-given (Passes p) place why solves (OpenPivots k) e = cc
before-given (Passes p) place why solves (OpenPassed other q) h = h

module _ (v : View) (why : Reasons) where
  -- a finding that is left open has no direction, ray and number of its own, and explains itself
  pub record Left (finding : Finding) : Type 0 where
    pub explains : (report : Report) → Explains v why report finding
    pub no_direction : false ≡ has_direction finding
    pub no_ray : false ≡ has_ray finding
    pub no_extra : false ≡ has_extra finding

  left : (f : Finding) → IsLeftOpen why f → Left f
  left Optimal h = absurd h
  left Infeasible h = absurd h
  left Unbounded h = absurd h
  left (OpenSolves n) h = record { explains = λ report. h; no_direction = refl; no_ray = refl; no_extra = refl }
  left (OpenPivots k) h = record { explains = λ report. h; no_direction = refl; no_ray = refl; no_extra = refl }
  left (OpenPassed place p) h = record { explains = λ report. h; no_direction = refl; no_ray = refl; no_extra = refl }

  module _ (number nodes scenarios : ℕ) (finding : Finding) (h : IsLeftOpen why finding) where
    -- shown ends, or none, under a finding that is left open
    left_true : (lower upper : Option ℚ) (dual policy : Option (List At)) → Together (ShowsLower v) lower dual → Together (ShowsUpper v) upper policy
        → IsTrue v why (record (blank_report number nodes scenarios finding) { lower = lower; dual = dual; upper = upper; policy = policy })
    left_true lower upper dual policy low high =
        let l = left finding h in
        record { lower = low; upper = high; finding = l.explains _; direction = l.no_direction; ray = l.no_ray; extra = l.no_extra }

    -- equal ends
    equal_true : (lower upper : ℚ) (dual policy : List At) → lower ≡ upper → ShowsLower v lower dual → ShowsUpper v upper policy
        → IsTrue v why (record (blank_report number nodes scenarios Optimal) { lower = Some lower; dual = Some dual; upper = Some upper; policy = Some policy })
    equal_true lower upper dual policy e low high =
        record { lower = low; upper = high; finding = record { cost = upper; lower = ap Some e; upper = refl }; direction = refl; ray = refl; extra = refl }

    both_true : (lower upper : ℚ) (dual policy : List At) (w : Bool) → same lower upper ≡ w → ShowsLower v lower dual → ShowsUpper v upper policy
        → IsTrue v why (record (blank_report number nodes scenarios (pick w Optimal finding)) { lower = Some lower; dual = Some dual; upper = Some upper; policy = Some policy })
    both_true lower upper dual policy true e low high = equal_true lower upper dual policy ((same_means lower upper).0 e) low high
    both_true lower upper dual policy false e low high = left_true (Some lower) (Some upper) (Some dual) (Some policy) low high

    pub ends_true : (upper lower : Tested) → IfShown (ShowsUpper v) upper → IfShown (ShowsLower v) lower → IsTrue v why (ends_report (blank_report number nodes scenarios finding) upper lower)
    ends_true (Shows u policy) (Shows l dual) high low = both_true l u dual policy (same l u) refl low high
    ends_true (Shows u policy) Fails high low = left_true None (Some u) None (Some policy) tt high
    ends_true (Shows u policy) (Passes p) high low = left_true None (Some u) None (Some policy) tt high
    ends_true Fails (Shows l dual) high low = left_true (Some l) None (Some dual) None low tt
    ends_true Fails Fails high low = left_true None None None None tt tt
    ends_true Fails (Passes p) high low = left_true None None None None tt tt
    ends_true (Passes p) (Shows l dual) high low = left_true (Some l) None (Some dual) None low tt
    ends_true (Passes p) Fails high low = left_true None None None None tt tt
    ends_true (Passes p) (Passes q) high low = left_true None None None None tt tt

    pub nowhere_true : (ray : Tested) → IfShown (ShowsNothing v) ray → IsTrue v why (ray_report (blank_report number nodes scenarios finding) ray)
    nowhere_true (Shows q values) shown = record {
      lower = tt;
      upper = tt;
      finding = record { lower_is = refl; upper_is = refl; value = q; value_is = refl; ray = values; ray_is = refl; shows = shown };
      direction = refl;
      ray = refl;
      extra = refl;
    }
    nowhere_true Fails shown = left_true None None None None tt tt
    nowhere_true (Passes p) shown = left_true None None None None tt tt

    unbounded_true : (tree : IsTree v) (upper slope : ℚ) (policy direction : List At) → ShowsUpper v upper policy → IsSlope v slope direction
        → IsTrue v why (falling_report (blank_report number nodes scenarios finding) (Shows upper policy) (Shows slope direction))
    unbounded_true tree upper slope policy direction high falls = record {
      lower = tt;
      upper = high;
      finding = record {
        upper = upper;
        upper_is = refl;
        lower_is = refl;
        slope = slope;
        slope_is = refl;
        direction = direction;
        direction_is = refl;
        shows = record { falls = falls.falls; costs = falls.costs; endless = unboundedness_shown v (at policy) (at direction) tree high.feasible falls.falls };
      };
      direction = refl;
      ray = refl;
      extra = refl;
    }

    pub endless_true : (tree : IsTree v) (upper slope : Tested) → IfShown (ShowsUpper v) upper → IfShown (IsSlope v) slope → IsTrue v why (falling_report (blank_report number nodes scenarios finding) upper slope)
    endless_true tree (Shows u policy) (Shows q direction) high falls = unbounded_true tree u q policy direction high falls
    endless_true tree (Shows u policy) Fails high falls = left_true None (Some u) None (Some policy) tt high
    endless_true tree (Shows u policy) (Passes p) high falls = left_true None (Some u) None (Some policy) tt high
    endless_true tree Fails slope high falls = left_true None None None None tt tt
    endless_true tree (Passes p) slope high falls = left_true None None None None tt tt

-- ---- names
module _ (program : Program) (number nodes scenarios : ℕ) (finding : Finding) where
  blank_names : ListsHaveNames program (blank_report number nodes scenarios finding)
  blank_names = record { policy = tt; direction = tt; dual = tt; ray = tt }

  pub ends_names : (upper lower : Tested) → HasNames (length program.columns.items) upper → HasNames (length program.rows.items) lower → ListsHaveNames program (ends_report (blank_report number nodes scenarios finding) upper lower)
  ends_names (Shows u policy) (Shows l dual) high low = record { policy = high; direction = tt; dual = low; ray = tt }
  ends_names (Shows u policy) Fails high low = record { policy = high; direction = tt; dual = tt; ray = tt }
  ends_names (Shows u policy) (Passes p) high low = record { policy = high; direction = tt; dual = tt; ray = tt }
  ends_names Fails (Shows l dual) high low = record { policy = tt; direction = tt; dual = low; ray = tt }
  ends_names Fails Fails high low = blank_names
  ends_names Fails (Passes p) high low = blank_names
  ends_names (Passes p) (Shows l dual) high low = record { policy = tt; direction = tt; dual = low; ray = tt }
  ends_names (Passes p) Fails high low = blank_names
  ends_names (Passes p) (Passes q) high low = blank_names

  pub nowhere_names : (ray : Tested) → HasNames (length program.rows.items) ray → ListsHaveNames program (ray_report (blank_report number nodes scenarios finding) ray)
  nowhere_names (Shows q values) h = record { policy = tt; direction = tt; dual = tt; ray = h }
  nowhere_names Fails h = blank_names
  nowhere_names (Passes p) h = blank_names

  pub endless_names : (upper slope : Tested) → HasNames (length program.columns.items) upper → HasNames (length program.columns.items) slope → ListsHaveNames program (falling_report (blank_report number nodes scenarios finding) upper slope)
  endless_names (Shows u policy) (Shows q direction) h k = record { policy = h; direction = k; dual = tt; ray = tt }
  endless_names (Shows u policy) Fails h k = record { policy = h; direction = tt; dual = tt; ray = tt }
  endless_names (Shows u policy) (Passes p) h k = record { policy = h; direction = tt; dual = tt; ray = tt }
  endless_names Fails slope h k = blank_names
  endless_names (Passes p) slope h k = blank_names

-- ---- the number and the counts
module _ (program : Program) (number : ℕ) (blank : Report) (h : IsFilled program number blank) where
  pub ends_filled : (upper lower : Tested) → IsFilled program number (ends_report blank upper lower)
  ends_filled (Shows u policy) (Shows l dual) = record { number_is = h.number_is; nodes = h.nodes; scenarios = h.scenarios }
  ends_filled (Shows u policy) Fails = record { number_is = h.number_is; nodes = h.nodes; scenarios = h.scenarios }
  ends_filled (Shows u policy) (Passes p) = record { number_is = h.number_is; nodes = h.nodes; scenarios = h.scenarios }
  ends_filled Fails (Shows l dual) = record { number_is = h.number_is; nodes = h.nodes; scenarios = h.scenarios }
  ends_filled Fails Fails = record { number_is = h.number_is; nodes = h.nodes; scenarios = h.scenarios }
  ends_filled Fails (Passes p) = record { number_is = h.number_is; nodes = h.nodes; scenarios = h.scenarios }
  ends_filled (Passes p) (Shows l dual) = record { number_is = h.number_is; nodes = h.nodes; scenarios = h.scenarios }
  ends_filled (Passes p) Fails = record { number_is = h.number_is; nodes = h.nodes; scenarios = h.scenarios }
  ends_filled (Passes p) (Passes q) = record { number_is = h.number_is; nodes = h.nodes; scenarios = h.scenarios }

  pub nowhere_filled : (ray : Tested) → IsFilled program number (ray_report blank ray)
  nowhere_filled (Shows q values) = record { number_is = h.number_is; nodes = h.nodes; scenarios = h.scenarios }
  nowhere_filled Fails = h
  nowhere_filled (Passes p) = h

  pub endless_filled : (upper slope : Tested) → IsFilled program number (falling_report blank upper slope)
  endless_filled (Shows u policy) (Shows q direction) = record { number_is = h.number_is; nodes = h.nodes; scenarios = h.scenarios }
  endless_filled (Shows u policy) Fails = record { number_is = h.number_is; nodes = h.nodes; scenarios = h.scenarios }
  endless_filled (Shows u policy) (Passes p) = record { number_is = h.number_is; nodes = h.nodes; scenarios = h.scenarios }
  endless_filled Fails slope = h
  endless_filled (Passes p) slope = h

pub counted : (program : Program) (number : ℕ) (report : Report) → IsFilled program number report → HasCounts (seen program) report
counted program number report h = record {
  nodes = h.nodes (subst (λ (n : ℕ). n < 2 ^ 32) (node_places program.nodes.items) program.keeps.small.nodes);
  scenarios = h.scenarios (subst (λ (n : ℕ). n < 2 ^ 32) (scenario_places program.scenarios.items) program.keeps.small.scenarios) ∙ sym (scenario_places program.scenarios.items);
}
