-- A report whose claims all hold is true.
use Rattle.std.proofs.Common.{◌≡◌, ℕ, suc, Bool, true, false, List, [], ◌∷◌, Option, Some, None, Result, Ok, Err, IfOk, IfSome, length, refl, sym, subst, ap, ◌∙◌}
use Rattle.std.specs.Prelude.{not, ◌&&◌, eqb, is_some}
use Rattle.std.proofs.lemmas.Bool.{eqb-true}
use Rattle.rationals.specs.Rational.{ℚ, zero_ℚ, one_ℚ, ◌-ℚ◌, ◌≤ℚ◌, ◌<ℚ◌, at_most, at_most_true, at_most_false, le_trans_ℚ, le_of_same_ℚ, by_facts, terms, not_le_of_lt_ℚ, zero_lt_one_ℚ}
use Rattle.rationals.specs.Ring.Facts.{by_le, end}
use Rattle.rationals.specs.Order.{same}
use Rattle.rationals.specs.OrderLaws.{same_means}
use Rattle.rationals.specs.Passes.{Operation}
use Rattle.scen_defs.specs.Values.{At, at}
use Rattle.scen_defs.specs.Program.{View, IsTree, scenarios_content}
use Rattle.scen_defs.specs.Flat.{IsDirection, Feasible, cost, value, without_costs, ShowsInfeasible}
use Rattle.scen_defs.specs.declared.program.Program.{Program}
use Rattle.scen_defs.specs.declared.program.Scenario.{Scenario}
use Rattle.scen_defs.specs.declared.report.Finding.{Finding}
use Rattle.scen_defs.specs.declared.report.Finding.TheVariants.{Optimal, Infeasible, Unbounded, OpenSolves, OpenPivots, OpenPassed}
use Rattle.scen_defs.specs.declared.report.Halt.{Halt}
use Rattle.scen_defs.specs.declared.report.Report.{Report}
use Rattle.scen_defs.proofs.Duality.{weak_duality, infeasibility_shown}
use Rattle.scen_defs.proofs.Directions.{unboundedness_shown}
use Rattle.scen_model.specs.Answers.{Answers, HaltOf}
use Rattle.scen_defs.specs.declared.report.Halt.TheVariants.{Passed, Memory}
use Rattle.scen_defs.specs.declared.report.Place.{Place}
use Rattle.scen_defs.specs.declared.report.Place.TheVariants.{Solve, Cut, Cost, Ground, Dual, Check}
use Rattle.scen_model.specs.declared.stop.Stop.{Stop}
use Rattle.scen_model.specs.declared.stop.Stop.TheVariants.{Decided, Passed as PassedStop}
use Rattle.scen_model.specs.Walks.{cost_walk, dual_walk, feasible_walk, direction_walk}
use Rattle.scen_model.proofs.CostEnds.{cost_is}
use Rattle.scen_model.proofs.DualEnds.{dual_is}
use Rattle.scen_model.proofs.FeasibleEnds.{feasible_is, direction_is}
use Rattle.report_defs.specs.Seen.{seen}
use Rattle.report_defs.specs.Shows.{Together, ShowsLower, ShowsUpper, ShowsSlope, ShowsNothing}
use Rattle.report_defs.specs.Findings.{has_direction, has_ray, has_extra}
use Rattle.report_defs.specs.Truth.{HasCounts, Explains}
use Rattle.certificate_check.specs.declared.verdict.Claim.{Claim}
use Rattle.certificate_check.specs.declared.verdict.Claim.TheVariants as claim
use Rattle.certificate_check.specs.declared.verdict.Verdict.{Verdict}
use Rattle.certificate_check.specs.declared.verdict.Verdict.TheVariants.{Holds, Fails}
use Rattle.certificate_check.specs.Verdicts.{decided, and_then, tested, summed, at_most_summed, agree, has_counts, has_parts, lists_fit, has_shape, policy_verdict, worth_verdict, dual_verdict, above_verdict, ray_verdict}
use Rattle.certificate_check.specs.Verdicts.{direction_verdict, ends_meet, has_ends, late_verdict, end_verdict, bound_verdict, list_verdict, verdict_of}
use Rattle.certificate_check.specs.Shown.{unchecked, HasRay, IsShown, IfHolds}

pub scenario_places : (scenarios : List Scenario) → length (scenarios_content scenarios) ≡ length scenarios
scenario_places [] = refl
scenario_places (s ∷ scenarios) = ap suc (scenario_places scenarios)

pub if_holds : (walk : Result Verdict Operation) (r : Result Verdict Halt) (P : Type 0) → Answers walk r → (walk ≡ Ok Holds → P) → IfHolds r P
if_holds walk (Ok Holds) P a f = f a
if_holds walk (Ok (Fails c)) P a f = tt
if_holds walk (Err h) P a f = tt

-- ---- what holds where a verdict is Holds

first_holds : (a b : Result Verdict Operation) → and_then a b ≡ Ok Holds → a ≡ Ok Holds
first_holds (Ok Holds) b e = refl
first_holds (Ok (Fails c)) b e = e
first_holds (Err p) b e = cc

rest_holds : (a b : Result Verdict Operation) → and_then a b ≡ Ok Holds → b ≡ Ok Holds
rest_holds (Ok Holds) b e = e
rest_holds (Ok (Fails c)) b e = cc
rest_holds (Err p) b e = cc

decided_holds : (c : Claim) (b : Bool) → decided c b ≡ Ok Holds → b ≡ true
decided_holds c true e = refl
decided_holds c false e = cc

tested_holds : (c : Claim) (w : Result (Unit {0}) Stop) → tested c w ≡ Ok Holds → w ≡ Ok tt
tested_holds c (Ok done) e = refl
tested_holds c (Err Decided) e = cc
tested_holds c (Err (PassedStop p)) e = cc

summed_holds : (c : Claim) (number : ℚ) (w : Result ℚ Operation) → summed c number w ≡ Ok Holds → w ≡ Ok number
summed_holds c number (Ok sum) e = ap Ok ((same_means sum number).0 (decided_holds c (same sum number) e))
summed_holds c number (Err p) e = cc

left_true : (a b : Bool) → (a && b) ≡ true → a ≡ true
left_true true b e = refl
left_true false b e = cc

right_true : (a b : Bool) → (a && b) ≡ true → b ≡ true
right_true true b e = e
right_true false b e = cc

agree_same : (a b : Bool) → agree a b ≡ true → a ≡ b
agree_same true true e = refl
agree_same true false e = cc
agree_same false true e = cc
agree_same false false e = refl

not_false : (b : Bool) → not b ≡ true → b ≡ false
not_false true e = cc
not_false false e = refl

most_holds : (c : Claim) (number : ℚ) (w : Result ℚ Operation) → at_most_summed c number w ≡ Ok Holds → (q : ℚ) × (w ≡ Ok q) × (q ≤ℚ number)
most_holds c number (Ok sum) e = (sum, refl, at_most_true sum number (decided_holds c (at_most sum number) e))
most_holds c number (Err p) e = cc

worth_holds : (lower : ℚ) (w : Result ℚ Stop) → worth_verdict lower w ≡ Ok Holds → (q : ℚ) × (w ≡ Ok q) × (lower ≤ℚ q)
worth_holds lower (Ok worth) e = (worth, refl, at_most_true lower worth (decided_holds claim.Lower (at_most lower worth) e))
worth_holds lower (Err Decided) e = cc
worth_holds lower (Err (PassedStop p)) e = cc

above_holds : (number : ℚ) (w : Result ℚ Stop) → above_verdict number w ≡ Ok Holds → (w ≡ Ok number) × (zero_ℚ <ℚ number)
above_holds number (Ok worth) e =
    let both : (same worth number && not (at_most number zero_ℚ)) ≡ true = decided_holds claim.Value _ e in
    (ap Ok ((same_means worth number).0 (left_true (same worth number) _ both)), at_most_false number zero_ℚ (not_false _ (right_true (same worth number) _ both)))
above_holds number (Err Decided) e = cc
above_holds number (Err (PassedStop p)) e = cc

-- ---- what the lists show
module _ (program : Program) (tree : IsTree (seen program)) where
  pub lower_shown : (lower : Option ℚ) (dual : Option (List At)) → is_some dual ≡ is_some lower → dual_verdict program dual lower ≡ Ok Holds → Together (ShowsLower (seen program)) lower dual
  lower_shown None None s e = tt
  lower_shown None (Some dual) s e = cc
  lower_shown (Some lower) None s e = cc
  lower_shown (Some lower) (Some dual) s e =
      let v : View = seen program in
      let w = worth_holds lower (dual_walk v (at dual)) e in
      let worth : lower ≤ℚ value v (at dual) = le_trans_ℚ w.2 (le_of_same_ℚ (dual_is.value v (at dual) w.0 w.1)) in
      record {
        good = dual_is.good v (at dual) w.0 w.1;
        worth = worth;
        bound = λ x feasible. le_trans_ℚ worth (weak_duality v x (at dual) tree feasible (dual_is.good v (at dual) w.0 w.1));
      }

  pub upper_shown : (upper : Option ℚ) (policy : Option (List At)) → is_some policy ≡ is_some upper → policy_verdict program policy upper ≡ Ok Holds → Together (ShowsUpper (seen program)) upper policy
  upper_shown None None s e = tt
  upper_shown None (Some policy) s e = cc
  upper_shown (Some upper) None s e = cc
  upper_shown (Some upper) (Some policy) s e =
      let v : View = seen program in
      let met : feasible_walk v (at policy) ≡ Ok tt = tested_holds claim.Policy (feasible_walk v (at policy)) (first_holds _ _ e) in
      let w = most_holds claim.Cost upper (cost_walk v (at policy)) (rest_holds (tested claim.Policy (feasible_walk v (at policy))) _ e) in
      record { feasible = feasible_is.yes v (at policy) met; costs = le_trans_ℚ (le_of_same_ℚ (sym (cost_is v (at policy) w.0 tree w.1))) w.2 }

  ray_shown : (number : Option ℚ) (ray : Option (List At)) → true ≡ is_some ray → true ≡ is_some number → ray_verdict program ray number ≡ Ok Holds
      → (n : ℚ) × (number ≡ Some n) × (r : List At) × (ray ≡ Some r) × ShowsNothing (seen program) n r
  ray_shown None ray s t e = cc
  ray_shown (Some number) None s t e = cc
  ray_shown (Some number) (Some ray) s t e =
      let v : View = seen program in
      let above = above_holds number (dual_walk (without_costs v) (at ray)) e in
      let worth : number ≡ value (without_costs v) (at ray) = dual_is.value (without_costs v) (at ray) number above.0 in
      let certificate : ShowsInfeasible v (at ray) = record { good = dual_is.good (without_costs v) (at ray) number above.0; above = subst (λ (r : ℚ). zero_ℚ <ℚ r) worth above.1 } in
      (number, refl, ray, refl, record { certificate = certificate; worth = sym worth; above = above.1; nothing = infeasibility_shown v (at ray) tree certificate })

  -- a direction with a policy from which it starts
  slope_shown : (upper slope : Option ℚ) (policy direction : Option (List At)) → true ≡ is_some direction → true ≡ is_some slope → true ≡ is_some upper
      → Together (ShowsUpper (seen program)) upper policy → direction_verdict program direction slope ≡ Ok Holds
      → (u : ℚ) × (upper ≡ Some u) × (q : ℚ) × (slope ≡ Some q) × (d : List At) × (direction ≡ Some d) × ShowsSlope (seen program) q d
  slope_shown None slope policy direction s t u high e = cc
  slope_shown (Some upper) None policy direction s t u high e = cc
  slope_shown (Some upper) (Some slope) policy None s t u high e = cc
  slope_shown (Some upper) (Some slope) None (Some direction) s t u high e = absurd high
  slope_shown (Some upper) (Some slope) (Some policy) (Some direction) s t u high e =
      let v : View = seen program in
      let met : direction_walk v (at direction) ≡ Ok tt = tested_holds claim.Direction (direction_walk v (at direction)) (first_holds _ _ e) in
      let w : cost_walk v (at direction) ≡ Ok slope = summed_holds claim.Slope slope (cost_walk v (at direction)) (rest_holds (tested claim.Direction (direction_walk v (at direction))) _ e) in
      let falls : IsDirection v (at direction) = direction_is.yes v (at direction) tree met in
      (upper, refl, slope, refl, direction, refl, record { falls = falls; costs = sym (cost_is v (at direction) slope tree w); endless = unboundedness_shown v (at policy) (at direction) tree high.feasible falls })

-- ---- ends that can't be there
module _ (v : View) where
  -- a lower end would bound the costs
  no_lower : (lower : Option ℚ) (dual : Option (List At)) (slope : ℚ) (direction : List At) → Together (ShowsLower v) lower dual → ShowsSlope v slope direction → lower ≡ None
  no_lower None dual slope direction low shows = refl
  no_lower (Some lower) None slope direction low shows = absurd low
  no_lower (Some lower) (Some dual) slope direction low shows =
      let far : (x : ℕ → ℕ → ℚ) × Feasible v x × (cost v x ≤ℚ (lower -ℚ one_ℚ)) = shows.endless (lower -ℚ one_ℚ) in
      let under : lower ≤ℚ cost v far.0 = low.bound far.0 far.1 in
      let over : cost v far.0 ≤ℚ (lower -ℚ one_ℚ) = far.2 in
      absurd (not_le_of_lt_ℚ zero_lt_one_ℚ (by_facts (lower ∷ cost v far.0 ∷ []) (by_le 1 under (by_le 1 over end)) (search terms depth 40) tt))

  -- a policy would be feasible
  no_upper : (upper : Option ℚ) (policy : Option (List At)) (number : ℚ) (ray : List At) → Together (ShowsUpper v) upper policy → ShowsNothing v number ray → upper ≡ None
  no_upper None policy number ray high shows = refl
  no_upper (Some upper) None number ray high shows = absurd high
  no_upper (Some upper) (Some policy) number ray high shows = absurd (shows.nothing (at policy) high.feasible)

-- ---- the finding
ends_equal : (lower upper : Option ℚ) → ends_meet lower upper ≡ true → (q : ℚ) × (lower ≡ Some q) × (upper ≡ Some q)
ends_equal None upper e = cc
ends_equal (Some lower) None e = cc
ends_equal (Some lower) (Some upper) e = (upper, ap Some ((same_means lower upper).0 e), refl)

-- what is known of the parts of a report whose claims hold
record Parts (program : Program) (report : Report) : Type 0 where
  counts : has_counts program report ≡ true
  policy : is_some report.policy ≡ is_some report.upper
  dual : is_some report.dual ≡ is_some report.lower
  direction : is_some report.direction ≡ has_direction report.finding
  ray : is_some report.ray ≡ has_ray report.finding
  extra : is_some report.extra ≡ has_extra report.finding
  low : Together (ShowsLower (seen program)) report.lower report.dual
  high : Together (ShowsUpper (seen program)) report.upper report.policy
  ends : has_ends report.finding report.lower report.upper ≡ true
  ray_holds : ray_verdict program report.ray report.extra ≡ Ok Holds
  direction_holds : direction_verdict program report.direction report.extra ≡ Ok Holds

parts_of : (program : Program) (report : Report) → has_shape program report ≡ true → Together (ShowsLower (seen program)) report.lower report.dual
    → Together (ShowsUpper (seen program)) report.upper report.policy → has_ends report.finding report.lower report.upper ≡ true
    → late_verdict program report ≡ Ok Holds → Parts program report
parts_of program report shape low high ends late =
    let front : (has_counts program report && has_parts report) ≡ true = left_true (has_counts program report && has_parts report) (lists_fit program report) shape in
    let five : has_parts report ≡ true = right_true (has_counts program report) (has_parts report) front in
    let p1 : Bool = agree (is_some report.policy) (is_some report.upper) in
    let p2 : Bool = agree (is_some report.dual) (is_some report.lower) in
    let p3 : Bool = agree (is_some report.direction) (has_direction report.finding) in
    let p4 : Bool = agree (is_some report.ray) (has_ray report.finding) in
    let p5 : Bool = agree (is_some report.extra) (has_extra report.finding) in
    let four : (p1 && p2 && p3 && p4) ≡ true = left_true (p1 && p2 && p3 && p4) p5 five in
    let three : (p1 && p2 && p3) ≡ true = left_true (p1 && p2 && p3) p4 four in
    let two : (p1 && p2) ≡ true = left_true (p1 && p2) p3 three in
    record {
      counts = left_true (has_counts program report) (has_parts report) front;
      policy = agree_same _ _ (left_true p1 p2 two);
      dual = agree_same _ _ (right_true p1 p2 two);
      direction = agree_same _ _ (right_true (p1 && p2) p3 three);
      ray = agree_same _ _ (right_true (p1 && p2 && p3) p4 four);
      extra = agree_same _ _ (right_true (p1 && p2 && p3 && p4) p5 five);
      low = low;
      high = high;
      ends = ends;
      ray_holds = first_holds _ _ late;
      direction_holds = rest_holds (ray_verdict program report.ray report.extra) _ late;
    }

parts : (program : Program) (report : Report) → IsTree (seen program) → verdict_of program report ≡ Ok Holds → Parts program report
parts program report tree e =
    let shape : has_shape program report ≡ true = decided_holds claim.Shape (has_shape program report) (first_holds _ _ e) in
    let lists : list_verdict program report ≡ Ok Holds = rest_holds (decided claim.Shape (has_shape program report)) _ e in
    let bounds : bound_verdict program report ≡ Ok Holds = rest_holds (policy_verdict program report.policy report.upper) _ lists in
    let ends : end_verdict program report ≡ Ok Holds = rest_holds (dual_verdict program report.dual report.lower) _ bounds in
    let late : late_verdict program report ≡ Ok Holds = rest_holds (decided claim.Ends (has_ends report.finding report.lower report.upper)) _ ends in
    let front : (has_counts program report && has_parts report) ≡ true = left_true (has_counts program report && has_parts report) (lists_fit program report) shape in
    let five : has_parts report ≡ true = right_true (has_counts program report) (has_parts report) front in
    let p1 : Bool = agree (is_some report.policy) (is_some report.upper) in
    let p2 : Bool = agree (is_some report.dual) (is_some report.lower) in
    let p3 : Bool = agree (is_some report.direction) (has_direction report.finding) in
    let p4 : Bool = agree (is_some report.ray) (has_ray report.finding) in
    let p5 : Bool = agree (is_some report.extra) (has_extra report.finding) in
    let two : (p1 && p2) ≡ true = left_true (p1 && p2) p3 (left_true (p1 && p2 && p3) p4 (left_true (p1 && p2 && p3 && p4) p5 five)) in
    parts_of program report shape
    (lower_shown program tree report.lower report.dual (agree_same _ _ (right_true p1 p2 two)) (first_holds _ _ bounds))
    (upper_shown program tree report.upper report.policy (agree_same _ _ (left_true p1 p2 two)) (first_holds _ _ lists))
    (decided_holds claim.Ends _ (first_holds _ _ ends)) late

module _ (program : Program) (report : Report) (tree : IsTree (seen program)) (p : Parts program report) where
  has_ray_of : report.finding ≡ Infeasible → HasRay (seen program) report
  has_ray_of f =
      let s = ray_shown program tree report.extra report.ray (sym (p.ray ∙ ap has_ray f)) (sym (p.extra ∙ ap has_extra f)) p.ray_holds in
      record { value = s.0; value_is = s.1; ray = s.2; ray_is = s.3; shows = s.4 }

  explained : (f : Finding) → report.finding ≡ f → (report.finding ≡ Infeasible → report.lower ≡ None) → Explains (seen program) unchecked report f
  explained Optimal f none =
      let s = ends_equal report.lower report.upper (subst (λ (g : Finding). has_ends g report.lower report.upper ≡ true) f p.ends) in
      record { cost = s.0; lower = s.1; upper = s.2 }
  explained Infeasible f none =
      let r = has_ray_of f in
      record { lower_is = none f; upper_is = no_upper (seen program) report.upper report.policy r.value r.ray p.high r.shows; value = r.value; value_is = r.value_is; ray = r.ray; ray_is = r.ray_is; shows = r.shows }
  explained Unbounded f none =
      let has_upper : is_some report.upper ≡ true = subst (λ (g : Finding). has_ends g report.lower report.upper ≡ true) f p.ends in
      let s = slope_shown program tree report.upper report.extra report.policy report.direction (sym (p.direction ∙ ap has_direction f)) (sym (p.extra ∙ ap has_extra f)) (sym has_upper) p.high p.direction_holds in
      record {
        upper = s.0;
        upper_is = s.1;
        lower_is = no_lower (seen program) report.lower report.dual s.2 s.4 p.low s.6;
        slope = s.2;
        slope_is = s.3;
        direction = s.4;
        direction_is = s.5;
        shows = s.6;
      }
  explained (OpenSolves n) f none = tt
  explained (OpenPivots k) f none = tt
  explained (OpenPassed place o) f none = tt

  counted : HasCounts (seen program) report
  counted = record {
    nodes = eqb-true report.nodes _ (left_true (eqb report.nodes (length (seen program).live)) _ p.counts);
    scenarios = eqb-true report.scenarios _ (right_true (eqb report.nodes (length (seen program).live)) _ p.counts);
  }

  from_parts : IsShown (seen program) report
  from_parts = record {
    counts = counted;
    truth = λ none. record { lower = p.low; upper = p.high; finding = explained report.finding refl none; direction = p.direction; ray = p.ray; extra = p.extra };
    ray = has_ray_of;
  }

pub shown : (program : Program) (report : Report) → IsTree (seen program) → verdict_of program report ≡ Ok Holds → IsShown (seen program) report
shown program report tree e = from_parts program report tree (parts program report tree e)

-- the same by the parts of the claims
pub shown_by : (program : Program) (report : Report) → IsTree (seen program) → has_shape program report ≡ true → has_ends report.finding report.lower report.upper ≡ true
    → Together (ShowsUpper (seen program)) report.upper report.policy → Together (ShowsLower (seen program)) report.lower report.dual
    → late_verdict program report ≡ Ok Holds → IsShown (seen program) report
shown_by program report tree shape ends high low late = from_parts program report tree (parts_of program report shape low high ends late)

-- a check that ends early names the operation in which the walk ends
pub halted : {X : Type 0} (walk : Result X Operation) (h : Halt) (place : Place) (p : Operation) → HaltOf walk h → h ≡ Passed place p → walk ≡ Err p
halted walk (Passed Check q) place p h e = let same : q ≡ p = cc in h ∙ ap Err same
halted walk (Passed (Solve k) q) place p h e = absurd h
halted walk (Passed (Cut k) q) place p h e = absurd h
halted walk (Passed (Cost k) q) place p h e = absurd h
halted walk (Passed Ground q) place p h e = absurd h
halted walk (Passed Dual q) place p h e = absurd h
halted walk Memory place p h e = absurd (cc)

-- what a number is that was found
pub of_some : {E : Type 0} (r : Result (Option ℚ) E) (P : ℚ → Type 0) (q : ℚ) → r ≡ Ok (Some q) → IfOk r (λ found. IfSome found P) → P q
of_some r P q e h = subst (λ x. IfOk x (λ found. IfSome found P)) e h
