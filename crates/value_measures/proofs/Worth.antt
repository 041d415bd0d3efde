-- What it is worth to know what comes, and to plan for all that may come, isn't below 0.
use Rattle.std.proofs.Common.{◌≡◌, List, [], ◌∷◌, length, map, Option, Some, None, Result, Ok, Err, IfSome, refl, sym, ap, subst, ◌∙◌}
use Rattle.rationals.specs.Rational.{ℚ, zero_ℚ, one_ℚ, ◌+ℚ◌, ◌*ℚ◌, ◌≤ℚ◌, by_eqs, terms, add_zero_ℚ, zero_add_ℚ, sub_nonneg_ℚ, le_of_same_ℚ, le_trans_ℚ, le_antisym_ℚ}
use Rattle.rationals.specs.Ring.Eqs.{done, by_eq}
use Rattle.rationals.specs.Sums.{dot}
use Rattle.rationals.specs.declared.Op.TheVariants.{Add, Sub}
use Rattle.rationals.specs.Passes.{Operation, sub_walk, add_product_walk, then_value}
use Rattle.rationals.proofs.WalkLaws.{ended, walk_value, step_value}
use Rattle.scen_defs.specs.declared.report.Finding.{Finding}
use Rattle.scen_defs.specs.declared.report.Finding.TheVariants.{Optimal, Infeasible, Unbounded, OpenSolves, OpenPivots, OpenPassed}
use Rattle.scen_defs.specs.declared.report.Report.{Report}
use Rattle.scen_defs.specs.Values.{At, at}
use Rattle.scen_defs.specs.Program.{Node, Scenario, Program, View, view_of}
use Rattle.scen_defs.specs.Flat.{Feasible, cost}
use Rattle.scen_defs.specs.Valid.{IsProgram}
use Rattle.scen_tree.specs.Trees.{tree_walk}
use Rattle.report_defs.specs.Shows.{Together, ShowsLower, ShowsUpper}
use Rattle.report_defs.specs.Findings.{IsOptimal}
use Rattle.report_defs.specs.Truth.{Reasons, Explains}
use Rattle.pass_core.specs.declared.budget.Budget.{Budget}
use Rattle.smps_session.specs.Reasons.{told_reasons}
use Rattle.smps_session.specs.declared.whole.StatedLimits.{StatedLimits}
use Rattle.value_programs.specs.Fixed.{fixed_program}
use Rattle.value_programs.specs.Line.{in_line}
use Rattle.value_programs.specs.Mean.{mean_name, mean_nodes, mean_walk, weight_in}
use Rattle.value_programs.specs.OneScenario.{scenario_program}
use Rattle.value_laws.specs.Fixing.{StartsWithin}
use Rattle.value_laws.specs.Knowing.{AreLowerEnds}
use Rattle.value_laws.specs.LowerEnds.{IsLowerEnd}
use Rattle.value_laws.proofs.Fixing.{feasible_points_start_within, fixing_keeps_lower_ends}
use Rattle.value_laws.proofs.Knowing.{expected_ends_are_lower}
use Rattle.value_measures.specs.Numbers.{known_value, surplus, if_optimal, least_cost, then_cost, expected_from, expected_cost, cost_of_fixed}
use Rattle.value_measures.specs.Reports.{IsReportOf, AreOfScenarios, IsOfMeans, IsOfFixed, means_of, policy_of_means}
use Rattle.value_measures.specs.declared.printed.PrintedReport.{PrintedReport}
use Rattle.value_measures.specs.declared.printed.ScenarioReport.{ScenarioReport}

-- ---- what an OPTIMAL report says
partner : {A B : Type 0} (holds : A → B → Type 0) (one : Option A) (other : Option B) (a : A) → one ≡ Some a → Together holds one other → (b : B) × (other ≡ Some b) × holds a b
partner holds None other a e h = absurd (cc)
partner holds (Some x) None a e h = absurd h
partner {A} {B} holds (Some x) (Some b) a e h = (b, refl, subst (λ (y : A). holds y b) (let f : x ≡ a = cc in f) h)

optimal : {X : Type 0} (v : View) (why : Reasons) (report : Report) (f : Finding) (part : Option X) (x : X) → Explains v why report f → if_optimal f part ≡ Some x → IsOptimal report × (part ≡ Some x)
optimal v why report Optimal part x h e = (h, e)
optimal v why report Infeasible part x h e = absurd (cc)
optimal v why report Unbounded part x h e = absurd (cc)
optimal v why report (OpenSolves n) part x h e = absurd (cc)
optimal v why report (OpenPivots k) part x h e = absurd (cc)
optimal v why report (OpenPassed place o) part x h e = absurd (cc)

-- a policy that is feasible, at a cost that no feasible point is below
record HasLeast (p : Program) (least : ℚ) : Type 0 where
  policy : List At
  feasible : Feasible (view_of p) (at policy)
  costs : cost (view_of p) (at policy) ≡ least
  below : IsLowerEnd p least

module _ (budget : Budget) (stated : StatedLimits) where
  has_least : (p : Program) (printed : PrintedReport) (least : ℚ) → IsReportOf budget stated p printed → least_cost printed.report ≡ Some least → HasLeast p least
  has_least p printed least is e =
      let v : View = view_of p in
      let report : Report = printed.report in
      let o = optimal v (told_reasons is.program budget) report report.finding report.lower least is.truth.finding e in
      let low = partner (ShowsLower v) report.lower report.dual least o.1 is.truth.lower in
      let same : o.0.cost ≡ least = one o.0.cost (sym o.0.lower ∙ o.1) in
      let high = partner (ShowsUpper v) report.upper report.policy least (o.0.upper ∙ ap (λ (c : ℚ). Some c) same) is.truth.upper in
      let costs = le_antisym_ℚ high.2.costs (low.2.bound (at high.0) high.2.feasible) in
      record { policy = high.0; feasible = high.2.feasible; costs = costs; below = low.2.bound }
    where
      one : (c : ℚ) → (let s : Option ℚ = Some c in s) ≡ Some least → c ≡ least
      one c e = cc

  -- the policy that it tells is feasible
  policy_feasible : (p : Program) (printed : PrintedReport) (policy : List At) → IsReportOf budget stated p printed → if_optimal printed.report.finding printed.report.policy ≡ Some policy → Feasible (view_of p) (at policy)
  policy_feasible p printed policy is e =
      let v : View = view_of p in
      let report : Report = printed.report in
      let o = optimal v (told_reasons is.program budget) report report.finding report.policy policy is.truth.finding e in
      let high = partner (ShowsUpper v) report.upper report.policy o.0.cost o.0.upper is.truth.upper in
      subst (λ (l : List At). Feasible v (at l)) (one high.0 (sym high.1 ∙ o.1)) high.2.feasible
    where
      one : (l : List At) → (let s : Option (List At) = Some l in s) ≡ Some policy → l ≡ policy
      one l e = cc

-- ---- differences
difference : (a b : ℚ) (walk : Result ℚ Operation) → sub_walk a b ≡ walk → b ≤ℚ a → IfSome (known_value (Some walk)) (λ v. zero_ℚ ≤ℚ v)
difference a b (Ok v) e h = subst (λ w. zero_ℚ ≤ℚ w) (sym (walk_value Sub a b v e)) (sub_nonneg_ℚ h)
difference a b (Err o) e h = tt

surplus_nonneg : (one other : Option ℚ) → ((a b : ℚ) → one ≡ Some a → other ≡ Some b → b ≤ℚ a) → IfSome (known_value (surplus one other)) (λ v. zero_ℚ ≤ℚ v)
surplus_nonneg None other h = tt
surplus_nonneg (Some a) None h = tt
surplus_nonneg (Some a) (Some b) h = difference a b (sub_walk a b) refl (h a b refl refl)

-- ---- the mean of the scenarios' least costs
is_known : (number : Option (Result ℚ Operation)) (v : ℚ) → known_value number ≡ Some v → number ≡ Some (Ok v)
is_known None v e = absurd (cc)
is_known (Some (Ok x)) v e = let same : x ≡ v = cc in ap (λ (y : ℚ). Some (Ok y)) same
is_known (Some (Err o)) v e = absurd (cc)

stays_passed : (o : Operation) (rs : List ScenarioReport) (w : ℚ) → expected_from (Err o) rs ≡ Some (Ok w) → ⊥
stays_passed o [] w e = cc
stays_passed o (r ∷ rs) w e = go (least_cost r.printed.report) (stays_passed o rs w) e
  where
    go : (least : Option ℚ) → (expected_from (Err o) rs ≡ Some (Ok w) → ⊥) → then_cost least (λ cost. expected_from (Err o) rs) ≡ Some (Ok w) → ⊥
    go None later e = cc
    go (Some cost) later e = later e

-- each scenario has a number that no feasible point of its program costs less than; they and s come to w
record HasEnds (p : Program) (cs : List Scenario) (s w : ℚ) : Type 0 where
  ends : List ℚ
  are_lower : AreLowerEnds p cs ends
  sum : w ≡ s +ℚ dot (map (λ (c : Scenario). c.probability) cs) ends

module _ (budget : Budget) (stated : StatedLimits) (p : Program) where
  has_ends : (cs : List Scenario) (rs : List ScenarioReport) (s w : ℚ) → AreOfScenarios budget stated p cs rs → expected_from (Ok s) rs ≡ Some (Ok w) → HasEnds p cs s w
  has_ends [] [] s w h e = record { ends = []; are_lower = tt; sum = (let same : w ≡ s = cc in same) ∙ sym (add_zero_ℚ s) }
  has_ends [] (r ∷ rs) s w h e = absurd h
  has_ends (c ∷ cs) [] s w h e = absurd h
  has_ends (c ∷ cs) (r ∷ rs) s w h e = by_cost (least_cost r.printed.report) refl (λ t k. has_ends cs rs t w h.1 k) e
    where
      by_sum : (least : ℚ) (walk : Result ℚ Operation) → least_cost r.printed.report ≡ Some least → add_product_walk s r.probability least ≡ walk
          → ((t : ℚ) → expected_from (Ok t) rs ≡ Some (Ok w) → HasEnds p cs t w) → expected_from walk rs ≡ Some (Ok w) → HasEnds p (c ∷ cs) s w
      by_sum least (Err o) is k again e = absurd (stays_passed o rs w e)
      by_sum least (Ok t) is k again e =
          let later = again t e in
          let first : t ≡ s +ℚ c.probability *ℚ least = step_value Add s r.probability least t k ∙ ap (λ (x : ℚ). s +ℚ x *ℚ least) h.0.probability in
          let rest : w ≡ t +ℚ dot (map (λ (c : Scenario). c.probability) cs) later.ends = later.sum in
          record {
            ends = least ∷ later.ends;
            are_lower = ((has_least budget stated (scenario_program p c) r.printed least h.0.is_report is).below, later.are_lower);
            sum = by_eqs (s ∷ w ∷ t ∷ c.probability ∷ least ∷ dot (map (λ (c : Scenario). c.probability) cs) later.ends ∷ []) (by_eq one_ℚ first (by_eq one_ℚ rest done)) (search terms depth 60) tt;
          }

      by_cost : (cost : Option ℚ) → least_cost r.printed.report ≡ cost → ((t : ℚ) → expected_from (Ok t) rs ≡ Some (Ok w) → HasEnds p cs t w)
          → then_cost cost (λ cost. expected_from (add_product_walk s r.probability cost) rs) ≡ Some (Ok w) → HasEnds p (c ∷ cs) s w
      by_cost None is again e = absurd (cc)
      by_cost (Some least) is again e = by_sum least (add_product_walk s r.probability least) is refl again e

  pub information_nonneg : (whole : PrintedReport) (scenarios : List ScenarioReport) → IsProgram p → IsReportOf budget stated p whole → AreOfScenarios budget stated p p.scenarios scenarios
      → IfSome (known_value (surplus (least_cost whole.report) (known_value (expected_cost scenarios)))) (λ v. zero_ℚ ≤ℚ v)
  information_nonneg whole scenarios i is are = surplus_nonneg (least_cost whole.report) (known_value (expected_cost scenarios)) (λ least mean a b.
      let best = has_least budget stated p whole least is a in
      let known = has_ends p.scenarios scenarios zero_ℚ mean are (is_known (expected_cost scenarios) mean b) in
      le_trans_ℚ (le_of_same_ℚ (known.sum ∙ zero_add_ℚ (dot (map (λ (c : Scenario). c.probability) p.scenarios) known.ends)))
      (le_trans_ℚ (expected_ends_are_lower p known.ends i known.are_lower (at best.policy) best.feasible) (le_of_same_ℚ best.costs)))

  -- ---- the first period as for the means
  -- the program of the means has the same columns
  line_columns : (nodes : Result (List (Option Node)) Operation) (q : Program) → then_value (in_line p mean_name) nodes ≡ Ok q → q.columns ≡ p.columns
  line_columns (Ok nodes) q e = let same : q ≡ in_line p mean_name nodes = cc in ap (λ (r : Program). r.columns) same
  line_columns (Err o) q e = absurd (cc)

  means_columns : (q : Program) → means_of p ≡ Ok q → q.columns ≡ p.columns
  means_columns q e =
      let made = ended (tree_walk p) (λ tree. mean_walk p tree) q e in
      line_columns (mean_nodes p (weight_in made.result) 0 (length p.periods)) q made.next_is

  starts_within : (walk : Result Program Operation) (means : Result PrintedReport Operation) (policy : List At) → means_of p ≡ walk → IsOfMeans budget stated walk means
      → policy_of_means means ≡ Some policy → StartsWithin p policy
  starts_within walk (Err o) policy made h e = absurd (cc)
  starts_within (Err o) (Ok r) policy made h e = absurd h
  starts_within (Ok q) (Ok r) policy made h e =
      feasible_points_start_within p q policy (subst IsProgram h.content_is h.program.keeps) (means_columns q made) (policy_feasible budget stated q r policy h e)

  fixed_above : (policy : Option (List At)) (fixed : Option PrintedReport) (least upper : ℚ) → ((l : List At) → policy ≡ Some l → StartsWithin p l) → IsLowerEnd p least
      → IsOfFixed budget stated p policy fixed → cost_of_fixed fixed ≡ Some upper → least ≤ℚ upper
  fixed_above policy None least upper within below h e = absurd (cc)
  fixed_above None (Some r) least upper within below h e = absurd h
  fixed_above (Some l) (Some r) least upper within below h e =
      let best = has_least budget stated (fixed_program p l) r upper h e in
      le_trans_ℚ (fixing_keeps_lower_ends p l least (within l refl) below (at best.policy) best.feasible) (le_of_same_ℚ best.costs)

  pub model_nonneg : (whole : PrintedReport) (means : Result PrintedReport Operation) (fixed : Option PrintedReport)
      → IsReportOf budget stated p whole → IsOfMeans budget stated (means_of p) means → IsOfFixed budget stated p (policy_of_means means) fixed
      → IfSome (known_value (surplus (cost_of_fixed fixed) (least_cost whole.report))) (λ v. zero_ℚ ≤ℚ v)
  model_nonneg whole means fixed is of_means of_fixed = surplus_nonneg (cost_of_fixed fixed) (least_cost whole.report) (λ upper least a b.
      fixed_above (policy_of_means means) fixed least upper (λ l e. starts_within (means_of p) means l refl of_means e)
      (has_least budget stated p whole least is b).below of_fixed a)
