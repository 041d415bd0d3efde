-- The report of a claim that holds.
use Rattle.std.proofs.Common.{◌≡◌, ℕ, Bool, true, List, [], Some, None, Ok, Err, refl, sym, ap, ap₂, ◌∙◌, inl, inr}
use Rattle.std.specs.Prelude.{◌⊎◌}
use Rattle.std.specs.declared.cmp.Ordering.{Ordering}
use Rattle.std.specs.declared.cmp.Ordering.TheVariants.{Less, Equal, Greater}
use Rattle.std.specs.Ordering.{is_eq}
use Rattle.rationals.specs.Rational.{ℚ, le_antisym_ℚ, le_of_same_ℚ, not_le_of_lt_ℚ}
use Rattle.rationals.specs.Order.{compare, same}
use Rattle.rationals.specs.Passes.{Operation, passes}
use Rattle.rationals.proofs.OrderMeaning.{less_means, greater_means}
use Rattle.rationals.specs.Choices.{pick}
use Rattle.scen_defs.specs.declared.program.Program.{Program}
use Rattle.scen_defs.specs.declared.report.Finding.{Finding}
use Rattle.scen_defs.specs.declared.report.Finding.TheVariants.{Optimal, Infeasible, Unbounded, OpenPassed, OpenSolves}
use Rattle.scen_defs.specs.declared.report.Place.{Place}
use Rattle.scen_defs.specs.declared.report.Place.TheVariants.{Dual}
use Rattle.scen_defs.specs.declared.report.Report.{Report}
use Rattle.scen_defs.specs.Values.{At, at}
use Rattle.scen_defs.specs.Program.{View, IsTree}
use Rattle.scen_defs.specs.Flat.{cost, value, without_costs}
use Rattle.scen_defs.proofs.Duality.{weak_duality}
use Rattle.report_defs.specs.Seen.{seen}
use Rattle.report_defs.specs.Blank.{blank_report}
use Rattle.proved_report.specs.declared.open.Open.{Open}
use Rattle.proved_report.specs.declared.claim.Claim.{Claim}
use Rattle.proved_report.specs.declared.claim.Claim.TheVariants.{Ends, Nowhere, Endless}
use Rattle.proved_report.specs.Open.{finding_of}
use Rattle.report_defs.specs.Shows.{ShowsLower, ShowsUpper}
use Rattle.proved_report.specs.declared.tested.Tested.{Tested}
use Rattle.proved_report.specs.Rounded.{IsRounded}
use Rattle.proved_report.specs.Tested.{or_before, shown_number, by_cost, policy_test, dual_test, direction_test, ray_test}
use Rattle.proved_report.specs.Reports.{Rounds, AreRounds, ends_finding, ends_report, ray_report, falling_report, claimed_report}
use Rattle.claim_laws.proofs.EndFindings.{ends_is, found_from, kept_test}
use Rattle.claim_laws.specs.Held.{OptimumHolds, RayHolds, CostFalls, ClaimHolds, finding_for, TellsTest}
use Rattle.claim_laws.proofs.Passing.{IsWide}
use Rattle.claim_laws.proofs.Tests.{ComesTo, policy_comes, dual_comes, direction_comes, ray_comes}

-- equal numbers compare so
is_same : (a b : ℚ) → a ≡ b → same a b ≡ true
is_same a b e = by_order (compare a b) refl
  where
    by_order : (r : Ordering) → compare a b ≡ r → is_eq r ≡ true
    by_order Less h = absurd (not_le_of_lt_ℚ (less_means a b h) (le_of_same_ℚ (sym e)))
    by_order Equal h = refl
    by_order Greater h = absurd (not_le_of_lt_ℚ (greater_means a b h) (le_of_same_ℚ e))

-- an operation that passes is told
pub is_told : (place : Place) (o : Operation) (solves : ℕ) → IsWide o
    → pick (passes o.op o.a o.b) (OpenPassed place o) (OpenSolves solves) ≡ OpenPassed place o
is_told place o solves h = ap (λ (b : Bool). pick b (OpenPassed place o) (OpenSolves solves)) h

-- a list that shows its number doesn't end in an operation
apart : (number : ℚ) (values : List At) (o : Operation) → by_cost values (Ok number) ≡ by_cost [] (Err o) → ⊥
apart number values o e = cc

-- ---- the finding by what two tests come to: an operation of the first is told at one place, one of the second at another
abbrev IsToldOf : {T : Type 0} → (Operation → T) → T → T → Place → Place → Finding → Type 0
IsToldOf passes first second here there finding = (o : Operation) × (((first ≡ passes o) × (finding ≡ OpenPassed here o))
    ⊎ ((second ≡ passes o) × (finding ≡ OpenPassed there o) × ((p : Operation) → first ≡ passes p → ⊥)))

by_two : {T : Type 0} (first second shows others : T) (passes : Operation → T) (found : T → T → Finding) (asked : Finding)
    → (here there : Place) → ComesTo first shows passes → ComesTo second others passes → found shows others ≡ asked
    → ((o : Operation) → shows ≡ passes o → ⊥)
    → ((o : Operation) → IsWide o → found shows (passes o) ≡ OpenPassed there o)
    → ((o : Operation) → IsWide o → found (passes o) others ≡ OpenPassed here o)
    → ((o p : Operation) → IsWide o → found (passes o) (passes p) ≡ OpenPassed here o)
    → (found first second ≡ asked) ⊎ IsToldOf passes first second here there (found first second)
by_two first second shows others passes found asked here there (inl e) (inl k) is differs late early both = inl (ap₂ found e k ∙ is)
by_two first second shows others passes found asked here there (inl e) (inr q) is differs late early both =
    inr (q.0, inr (q.1, ap₂ found e q.1 ∙ late q.0 q.2, λ p h. differs p (sym e ∙ h)))
by_two first second shows others passes found asked here there (inr p) (inl k) is differs late early both =
    inr (p.0, inl (p.1, ap₂ found p.1 k ∙ early p.0 p.2))
by_two first second shows others passes found asked here there (inr p) (inr q) is differs late early both =
    inr (p.0, inl (p.1, ap₂ found p.1 q.1 ∙ both p.0 q.0 p.2))

by_one : {T : Type 0} (tested shows : T) (passes : Operation → T) (found : T → Finding) (asked : Finding) (there : Place)
    → ComesTo tested shows passes → found shows ≡ asked → ((o : Operation) → IsWide o → found (passes o) ≡ OpenPassed there o)
    → (found tested ≡ asked) ⊎ ((o : Operation) × (tested ≡ passes o) × (found tested ≡ OpenPassed there o))
by_one tested shows passes found asked there (inl e) is told = inl (ap found e ∙ is)
by_one tested shows passes found asked there (inr p) is told = inr (p.0, p.1, ap found p.1 ∙ told p.0 p.2)

-- ---- claims
module _ (program : Program) (number nodes scenarios : ℕ) (place : Place) (why : Open) (solves : ℕ) (tree : IsTree (seen program)) (rounds : Rounds) where
  abbrev v : View
  v = seen program

  abbrev IsShownBy : Claim → Report → Type 0
  IsShownBy claim report = (report.finding ≡ finding_for claim) ⊎ TellsTest program place claim report

  abbrev report_of : Claim → Report
  report_of claim = claimed_report program number nodes scenarios place why solves rounds claim

  ends_told : (policy dual : List At) → let made : Report = report_of (Ends (Some policy) (Some dual)) in
      (made.finding ≡ Optimal)
      ⊎ IsToldOf (λ o. by_cost [] (Err o)) (policy_test program policy) (dual_test program dual) place Dual made.finding
      → IsShownBy (Ends (Some policy) (Some dual)) made
  ends_told policy dual (inl e) = inl e
  ends_told policy dual (inr (o, inl a)) = inr (record { told = place; operation = o; finding = a.1; passes = inl (refl, a.0) })
  ends_told policy dual (inr (o, inr b)) = inr (record { told = Dual; operation = o; finding = b.1; passes = inr (refl, b.0, b.2) })

  -- where both tests show their numbers, these are printed; else the finding is OPTIMAL, or that of the first operation that passes
  abbrev left_of : Tested → Tested → Finding
  left_of t u = finding_of (or_before t place (or_before u Dual why)) solves

  abbrev told_of : Tested → Tested → Finding
  told_of t u = (ends_report (blank_report number nodes scenarios (left_of t u)) rounds.upper rounds.lower).finding

  abbrev IsOf : Tested → Tested → Type 0
  IsOf t u = (told_of t u ≡ Optimal) ⊎ IsToldOf (λ o. by_cost [] (Err o)) t u place Dual (told_of t u)

  first : (t u : Tested) (o : Operation) → t ≡ by_cost [] (Err o) → left_of t u ≡ OpenPassed place o → (told_of t u ≡ Optimal) ⊎ (told_of t u ≡ left_of t u) → IsOf t u
  first t u o e is (inl x) = inl x
  first t u o e is (inr x) = inr (o, inl (e, x ∙ is))

  second : (t u : Tested) (o : Operation) → u ≡ by_cost [] (Err o) → ((p : Operation) → t ≡ by_cost [] (Err p) → ⊥) → left_of t u ≡ OpenPassed Dual o
      → (told_of t u ≡ Optimal) ⊎ (told_of t u ≡ left_of t u) → IsOf t u
  second t u o e none is (inl x) = inl x
  second t u o e none is (inr x) = inr (o, inr (e, x ∙ is, none))

  ends_by : (policy dual : List At) (t u : Tested) (c w : ℚ) (p d : List At) → same w c ≡ true → ComesTo t (by_cost p (Ok c)) (λ o. by_cost [] (Err o)) → ComesTo u (by_cost d (Ok w)) (λ o. by_cost [] (Err o))
      → IsRounded (ShowsUpper (seen program)) (Some policy) t rounds.upper → IsRounded (ShowsLower (seen program)) (Some dual) u rounds.lower → IsOf t u
  ends_by policy dual t u c w p d equal (inl e) (inl k) r s =
      let upper_is : rounds.upper ≡ by_cost p (Ok c) = kept_test _ _ t rounds.upper (λ o h. apart c p o (sym e ∙ h)) r ∙ e in
      let lower_is : rounds.lower ≡ by_cost d (Ok w) = kept_test _ _ u rounds.lower (λ o h. apart w d o (sym k ∙ h)) s ∙ k in
      inl (ends_is (blank_report number nodes scenarios (left_of t u)) rounds.upper rounds.lower
      ∙ ap₂ (λ (x y : Tested). ends_finding (shown_number y) (shown_number x) (left_of t u)) upper_is lower_is
      ∙ ap (λ (b : Bool). pick b Optimal (left_of t u)) equal)
  ends_by policy dual t u c w p d equal (inl e) (inr q) r s =
      second t u q.0 q.1 (λ o h. apart c p o (sym e ∙ h))
      (ap₂ (λ (x y : Tested). finding_of (or_before x place (or_before y Dual why)) solves) e q.1 ∙ is_told Dual q.0 solves q.2)
      (found_from (blank_report number nodes scenarios (left_of t u)) rounds.upper rounds.lower)
  ends_by policy dual t u c w p d equal (inr q) k r s =
      first t u q.0 q.1 (ap (λ (x : Tested). finding_of (or_before x place (or_before u Dual why)) solves) q.1 ∙ is_told place q.0 solves q.2)
      (found_from (blank_report number nodes scenarios (left_of t u)) rounds.upper rounds.lower)

  by_ends : (policy dual : List At) → AreRounds program (Ends (Some policy) (Some dual)) rounds → OptimumHolds program policy dual
      → IsShownBy (Ends (Some policy) (Some dual)) (report_of (Ends (Some policy) (Some dual)))
  by_ends policy dual are h =
      let equal : same (value v (at dual)) (cost v (at policy)) ≡ true = is_same (value v (at dual)) (cost v (at policy))
      (le_antisym_ℚ (weak_duality v (at policy) (at dual) tree h.feasible h.good) h.meet) in
      ends_told policy dual (ends_by policy dual (policy_test program policy) (dual_test program dual) (cost v (at policy)) (value v (at dual)) policy dual equal
      (policy_comes program tree policy h.policy_fits h.feasible) (dual_comes program tree dual h.dual_fits h.good) are.0 are.1)

  ray_told : (ray : List At) → let made : Report = report_of (Nowhere ray) in
      (made.finding ≡ Infeasible)
      ⊎ ((o : Operation) × (ray_test program ray ≡ by_cost [] (Err o)) × (made.finding ≡ OpenPassed Dual o)) → IsShownBy (Nowhere ray) made
  ray_told ray (inl e) = inl e
  ray_told ray (inr p) = inr (record { told = Dual; operation = p.0; finding = p.2; passes = (refl, p.1) })

  by_ray : (ray : List At) → RayHolds program ray → IsShownBy (Nowhere ray) (report_of (Nowhere ray))
  by_ray ray h =
      ray_told ray (by_one (ray_test program ray) (by_cost ray (Ok (value (without_costs v) (at ray)))) (λ o. by_cost [] (Err o))
      (λ t. (ray_report (blank_report number nodes scenarios (finding_of (or_before t Dual why) solves)) t).finding)
      Infeasible Dual (ray_comes program tree ray h.ray_fits h.shows) refl (λ o k. is_told Dual o solves k))

  fall_told : (policy direction : List At) → let made : Report = report_of (Endless policy direction) in
      (made.finding ≡ Unbounded)
      ⊎ IsToldOf (λ o. by_cost [] (Err o)) (policy_test program policy) (direction_test program direction) place place made.finding
      → IsShownBy (Endless policy direction) made
  fall_told policy direction (inl e) = inl e
  fall_told policy direction (inr (o, inl a)) = inr (record { told = place; operation = o; finding = a.1; passes = (refl, inl a.0) })
  fall_told policy direction (inr (o, inr b)) = inr (record { told = place; operation = o; finding = b.1; passes = (refl, inr (b.0, b.2)) })

  by_fall : (policy direction : List At) → CostFalls program policy direction
      → IsShownBy (Endless policy direction) (report_of (Endless policy direction))
  by_fall policy direction h = fall_told policy direction (by_two (policy_test program policy) (direction_test program direction)
      (by_cost policy (Ok (cost v (at policy)))) (by_cost direction (Ok (cost v (at direction)))) (λ o. by_cost [] (Err o))
      (λ t u. (falling_report
      (blank_report number nodes scenarios (finding_of (or_before t place (or_before u place why)) solves)) t u).finding)
      Unbounded place place (policy_comes program tree policy h.policy_fits h.feasible)
      (direction_comes program tree direction h.direction_fits h.falls) refl (apart (cost v (at policy)) policy)
      (λ o k. is_told place o solves k) (λ o k. is_told place o solves k) (λ o p k. is_told place o solves k))

  pub claim_shown : (claim : Claim) → AreRounds program claim rounds → ClaimHolds program claim → IsShownBy claim (report_of claim)
  claim_shown (Ends (Some policy) (Some dual)) are h = by_ends policy dual are h
  claim_shown (Ends (Some policy) None) are h = absurd h
  claim_shown (Ends None dual) are h = absurd h
  claim_shown (Nowhere ray) are h = by_ray ray h
  claim_shown (Endless policy direction) are h = by_fall policy direction h
