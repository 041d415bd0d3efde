-- Why a report of a claim finds what it finds.
use Rattle.std.proofs.Common.{◌≡◌, ◌⊎◌, inl, inr, ℕ, Bool, true, false, List, Option, Some, None, Result, Ok, Err, refl, sym, ap, subst, ◌∙◌}
use Rattle.rationals.specs.Rational.{ℚ, zero_ℚ, at_most}
use Rattle.rationals.specs.Order.{same}
use Rattle.rationals.specs.Passes.{Operation, passes}
use Rattle.rationals.specs.Choices.{pick}
use Rattle.scen_defs.specs.declared.program.Program.{Program}
use Rattle.scen_defs.specs.declared.report.Finding.{Finding}
use Rattle.scen_defs.specs.declared.report.Finding.TheVariants.{Optimal, Infeasible, Unbounded, OpenSolves, OpenPassed}
use Rattle.scen_defs.specs.declared.report.Place.{Place}
use Rattle.scen_defs.specs.declared.report.Place.TheVariants.{Dual}
use Rattle.scen_defs.specs.declared.report.Report.{Report}
use Rattle.scen_defs.specs.Values.{At, at}
use Rattle.scen_defs.specs.Program.{View, content}
use Rattle.scen_defs.specs.Flat.{without_costs}
use Rattle.scen_model.specs.declared.stop.Stop.{Stop}
use Rattle.scen_model.specs.declared.stop.Stop.TheVariants.{Decided, Passed as PassedStop}
use Rattle.scen_model.specs.Derived.{all_fit}
use Rattle.scen_model.specs.Walks.{cost_walk, dual_walk, feasible_walk, direction_walk, own_end}
use Rattle.report_defs.specs.Seen.{seen}
use Rattle.report_defs.specs.Blank.{blank_report}
use Rattle.proved_report.specs.declared.open.Open.{Open}
use Rattle.proved_report.specs.declared.open.Open.TheVariants.{Solves, Pivots, Passed}
use Rattle.proved_report.specs.declared.claim.Claim.{Claim}
use Rattle.proved_report.specs.declared.claim.Claim.TheVariants.{Ends, Nowhere, Endless}
use Rattle.proved_report.specs.declared.tested.Tested.{Tested}
use Rattle.proved_report.specs.declared.tested.Tested.TheVariants.{Shows, Fails, Passes}
use Rattle.proved_report.specs.Open.{finding_of}
use Rattle.proved_report.specs.Tested.{where_fits, where_meets, where_above, by_cost, by_value, shown_number, or_before}
use Rattle.proved_report.specs.Tested.{policy_test, dual_test, direction_test, ray_test, some_policy_test, some_dual_test}
use Rattle.proved_report.specs.Reports.{Rounds, ends_report, ray_report, falling_report, claimed_report}
use Rattle.claim_laws.proofs.EndFindings.{found_from}
use Rattle.claim_laws.specs.Held.{PassesInClaim}
use Rattle.claim_laws.specs.Tells.{IsForSolves, IsFindingOf}
use Rattle.claim_laws.proofs.Claims.{is_told}
use Rattle.claim_laws.proofs.Passing.{EndsIn, IsWide, StopsWide, cost_ends, dual_ends, meets_ends, direction_ends}

-- ---- an operation that ends a test passes
abbrev pub EndsWide : Tested → Type 0
EndsWide (Shows number values) = Unit {0}
EndsWide Fails = Unit {0}
EndsWide (Passes o) = IsWide o

fits_wide : (fits : Bool) (t : Tested) → EndsWide t → EndsWide (where_fits fits t)
fits_wide true t h = h
fits_wide false t h = tt

meets_wide : (m : Result (Unit {0}) Stop) (t : Tested) → EndsIn StopsWide m → EndsWide t → EndsWide (where_meets m t)
meets_wide (Ok done) t k h = h
meets_wide (Err Decided) t k h = tt
meets_wide (Err (PassedStop o)) t k h = k

above_wide : (t : Tested) → EndsWide t → EndsWide (where_above t)
above_wide (Shows number values) h = go (at_most number zero_ℚ)
  where
    go : (b : Bool) → EndsWide (pick b Fails (Shows number values))
    go true = tt
    go false = tt
above_wide Fails h = tt
above_wide (Passes o) h = h

cost_wide : (values : List At) (w : Result ℚ Operation) → EndsIn IsWide w → EndsWide (by_cost values w)
cost_wide values (Ok cost) h = tt
cost_wide values (Err o) h = h

value_wide : (values : List At) (w : Result ℚ Stop) → EndsIn StopsWide w → EndsWide (by_value values w)
value_wide values (Ok value) h = tt
value_wide values (Err Decided) h = tt
value_wide values (Err (PassedStop o)) h = h

-- ---- the findings of reports
ray_from : (blank : Report) (t : Tested) → ((ray_report blank t).finding ≡ Infeasible) ⊎ ((ray_report blank t).finding ≡ blank.finding)
ray_from blank (Shows number ray) = inl refl
ray_from blank Fails = inr refl
ray_from blank (Passes o) = inr refl

falling_from : (blank : Report) (upper slope : Tested)
    → ((falling_report blank upper slope).finding ≡ Unbounded) ⊎ ((falling_report blank upper slope).finding ≡ blank.finding)
falling_from blank (Shows cost policy) (Shows number direction) = inl refl
falling_from blank (Shows cost policy) Fails = inr refl
falling_from blank (Shows cost policy) (Passes o) = inr refl
falling_from blank Fails slope = inr refl
falling_from blank (Passes o) slope = inr refl

falling_open : (blank : Report) (upper : Tested) (o : Operation) → (falling_report blank upper (Passes o)).finding ≡ blank.finding
falling_open blank (Shows cost policy) o = refl
falling_open blank Fails o = refl
falling_open blank (Passes p) o = refl

-- a reason behind a test that ends in no operation
not_before : (t : Tested) (place : Place) (why : Open) → ((o : Operation) → t ≡ Passes o → ⊥) → or_before t place why ≡ why
not_before (Shows number values) place why none = refl
not_before Fails place why none = refl
not_before (Passes o) place why none = absurd (none o refl)

-- ---- the operation that ends a test of a program passes
module _ (program : Program) where
  abbrev v : View
  v = seen program

  policy_wide : (policy : List At) → EndsWide (policy_test program policy)
  policy_wide policy = fits_wide (all_fit (content program) false policy) _ (meets_wide (feasible_walk v (at policy)) _
      (meets_ends own_end v (at policy)) (cost_wide policy (cost_walk v (at policy)) (cost_ends v (at policy))))

  direction_wide : (direction : List At) → EndsWide (direction_test program direction)
  direction_wide direction = fits_wide (all_fit (content program) false direction) _ (meets_wide (direction_walk v (at direction)) _
      (direction_ends v (at direction)) (cost_wide direction (cost_walk v (at direction)) (cost_ends v (at direction))))

  dual_wide : (dual : List At) → EndsWide (dual_test program dual)
  dual_wide dual = fits_wide (all_fit (content program) true dual) _
      (value_wide dual (dual_walk v (at dual)) (dual_ends v (at dual) v.cost))

  ray_wide : (ray : List At) → EndsWide (ray_test program ray)
  ray_wide ray =
      let w : View = without_costs v in
      fits_wide (all_fit (content program) true ray) _
      (above_wide _ (value_wide ray (dual_walk w (at ray)) (dual_ends w (at ray) w.cost)))

  some_policy_wide : (policy : Option (List At)) → EndsWide (some_policy_test program policy)
  some_policy_wide None = tt
  some_policy_wide (Some policy) = policy_wide policy

  some_dual_wide : (dual : Option (List At)) → EndsWide (some_dual_test program dual)
  some_dual_wide None = tt
  some_dual_wide (Some dual) = dual_wide dual

-- ---- what is found, and why
module _ (program : Program) (place : Place) (why : Open) (solves : ℕ) (claim : Claim) where
  abbrev IsFound : Finding → Type 0
  IsFound finding = IsFindingOf program place why solves claim finding

  by_reason : (left : Open) → why ≡ left → IsFound (finding_of left solves)
  by_reason (Solves n) e = subst (λ (w : Open). IsForSolves w solves n) (sym e) refl
  by_reason (Pivots k) e = e
  by_reason (Passed told o) e = go (passes o.op o.a o.b) refl
    where
      go : (b : Bool) → passes o.op o.a o.b ≡ b → IsFound (pick b (OpenPassed told o) (OpenSolves solves))
      go true p = inl e
      go false p = subst (λ (w : Open). IsForSolves w solves solves) (sym e) (p, refl)

  -- an operation of a test is told, and else what comes behind it
  by_test : (t : Tested) (told : Place) (left : Open) → EndsWide t → ((o : Operation) → t ≡ Passes o → PassesInClaim program place claim told o)
      → (((o : Operation) → t ≡ Passes o → ⊥) → IsFound (finding_of left solves)) → IsFound (finding_of (or_before t told left) solves)
  by_test (Shows number values) told left wide met behind = behind (λ o e. cc)
  by_test Fails told left wide met behind = behind (λ o e. cc)
  by_test (Passes o) told left wide met behind = subst IsFound (sym (is_told told o solves wide)) (inr (met o refl))

module _ (program : Program) (number nodes scenarios : ℕ) (place : Place) (why : Open) (solves : ℕ) (rounds : Rounds) where
  abbrev blank : Open → Report
  blank left = blank_report number nodes scenarios (finding_of left solves)

  abbrev report_of : Claim → Report
  report_of claim = claimed_report program number nodes scenarios place why solves rounds claim

  pub finding_so : (claim : Claim) → IsFindingOf program place why solves claim (report_of claim).finding
  finding_so (Ends policy dual) =
      let claim : Claim = Ends policy dual in
      let upper : Tested = some_policy_test program policy in
      let lower : Tested = some_dual_test program dual in
      let left : Open = or_before upper place (or_before lower Dual why) in
      let open_so : IsFindingOf program place why solves claim (finding_of left solves) =
      by_test program place why solves claim upper place (or_before lower Dual why) (some_policy_wide program policy) (λ o e. inl (refl, e))
      (λ none. by_test program place why solves claim lower Dual why (some_dual_wide program dual) (λ o e. inr (refl, e, none))
      (λ _. by_reason program place why solves claim why refl)) in
      elim (found_from (blank left) rounds.upper rounds.lower) [
        | inl e ↦ subst (IsFindingOf program place why solves claim) (sym e) refl
        | inr e ↦ subst (IsFindingOf program place why solves claim) (sym e) open_so
      ]
  finding_so (Nowhere ray) =
      let claim : Claim = Nowhere ray in
      let shown : Tested = ray_test program ray in
      let left : Open = or_before shown Dual why in
      let open_so : IsFindingOf program place why solves claim (finding_of left solves) =
      by_test program place why solves claim shown Dual why (ray_wide program ray) (λ o e. (refl, e))
      (λ _. by_reason program place why solves claim why refl) in
      elim (ray_from (blank left) shown) [
        | inl e ↦ subst (IsFindingOf program place why solves claim) (sym e) refl
        | inr e ↦ subst (IsFindingOf program place why solves claim) (sym e) open_so
      ]
  finding_so (Endless policy direction) =
      let claim : Claim = Endless policy direction in
      let upper : Tested = policy_test program policy in
      let slope : Tested = direction_test program direction in
      let left : Open = or_before upper place (or_before slope place why) in
      let open_so : IsFindingOf program place why solves claim (finding_of left solves) =
      by_test program place why solves claim upper place (or_before slope place why) (policy_wide program policy) (λ o e. (refl, inl e))
      (λ none. by_test program place why solves claim slope place why (direction_wide program direction) (λ o e. (refl, inr (e, none)))
      (λ _. by_reason program place why solves claim why refl)) in
      elim (falling_from (blank left) upper slope) [
        | inl e ↦ subst (IsFindingOf program place why solves claim) (sym e) refl
        | inr e ↦ subst (IsFindingOf program place why solves claim) (sym e) open_so
      ]

  -- ---- an operation of a test is told
  at_place : (here told : Place) (o : Operation) (finding : Finding) → told ≡ here → finding ≡ OpenPassed here o → finding ≡ OpenPassed told o
  at_place here told o finding e is = is ∙ ap (λ (p : Place). OpenPassed p o) (sym e)

  -- the first of two tests, and the second one where the first ends in none; unless the ends are equal all the same
  abbrev ToldOr : Finding → Place → Operation → Type 0
  ToldOr finding told o = (finding ≡ OpenPassed told o) ⊎ (finding ≡ Optimal)

  told_or : (left : Open) (here told : Place) (o : Operation) → told ≡ here → finding_of left solves ≡ OpenPassed here o
      → ((ends_report (blank left) rounds.upper rounds.lower).finding ≡ Optimal) ⊎ ((ends_report (blank left) rounds.upper rounds.lower).finding ≡ finding_of left solves)
      → ToldOr (ends_report (blank left) rounds.upper rounds.lower).finding told o
  told_or left here told o e is (inl x) = inr x
  told_or left here told o e is (inr x) = inl (at_place here told o _ e (x ∙ is))

  ends_first : (upper lower : Tested) (told : Place) (o : Operation) → told ≡ place → EndsWide upper → upper ≡ Passes o
      → ToldOr (ends_report (blank (or_before upper place (or_before lower Dual why))) rounds.upper rounds.lower).finding told o
  ends_first upper lower told o at wide e =
      let rest : Open = or_before lower Dual why in
      let left : Open = or_before upper place rest in
      told_or left place told o at
      (ap (λ (t : Tested). finding_of (or_before t place rest) solves) e ∙ is_told place o solves (subst EndsWide e wide))
      (found_from (blank left) rounds.upper rounds.lower)

  ends_second : (upper lower : Tested) (told : Place) (o : Operation) → told ≡ Dual → EndsWide lower → lower ≡ Passes o → ((p : Operation) → upper ≡ Passes p → ⊥)
      → ToldOr (ends_report (blank (or_before upper place (or_before lower Dual why))) rounds.upper rounds.lower).finding told o
  ends_second upper lower told o at wide e none =
      let rest : Open = or_before lower Dual why in
      let left : Open = or_before upper place rest in
      told_or left Dual told o at
      (ap (λ (w : Open). finding_of w solves) (not_before upper place rest none)
      ∙ ap (λ (t : Tested). finding_of (or_before t Dual why) solves) e
      ∙ is_told Dual o solves (subst EndsWide e wide))
      (found_from (blank left) rounds.upper rounds.lower)

  ray_only : (shown : Tested) (o : Operation) → EndsWide shown → shown ≡ Passes o
      → (ray_report (blank (or_before shown Dual why)) shown).finding ≡ OpenPassed Dual o
  ray_only shown o wide e =
      ap (λ (t : Tested). (ray_report (blank (or_before t Dual why)) t).finding) e ∙ is_told Dual o solves (subst EndsWide e wide)

  falling_first : (upper slope : Tested) (o : Operation) → EndsWide upper → upper ≡ Passes o
      → (falling_report (blank (or_before upper place (or_before slope place why))) upper slope).finding ≡ OpenPassed place o
  falling_first upper slope o wide e =
      ap (λ (t : Tested). (falling_report (blank (or_before t place (or_before slope place why))) t slope).finding) e
      ∙ is_told place o solves (subst EndsWide e wide)

  falling_second : (upper slope : Tested) (o : Operation) → EndsWide slope → slope ≡ Passes o → ((p : Operation) → upper ≡ Passes p → ⊥)
      → (falling_report (blank (or_before upper place (or_before slope place why))) upper slope).finding ≡ OpenPassed place o
  falling_second upper slope o wide e none =
      let rest : Open = or_before slope place why in
      let left : Open = or_before upper place rest in
      ap (λ (t : Tested). (falling_report (blank left) upper t).finding) e
      ∙ falling_open (blank left) upper o
      ∙ ap (λ (w : Open). finding_of w solves) (not_before upper place rest none)
      ∙ ap (λ (t : Tested). finding_of (or_before t place why) solves) e
      ∙ is_told place o solves (subst EndsWide e wide)

  pub test_told : (claim : Claim) (told : Place) (o : Operation) → PassesInClaim program place claim told o
      → ToldOr (report_of claim).finding told o
  test_told (Ends policy dual) told o (inl h) =
      ends_first (some_policy_test program policy) (some_dual_test program dual) told o h.0 (some_policy_wide program policy) h.1
  test_told (Ends policy dual) told o (inr h) =
      ends_second (some_policy_test program policy) (some_dual_test program dual) told o h.0 (some_dual_wide program dual) h.1 h.2
  test_told (Nowhere ray) told o h = inl (at_place Dual told o _ h.0 (ray_only (ray_test program ray) o (ray_wide program ray) h.1))
  test_told (Endless policy direction) told o h = inl (at_place place told o _ h.0 (elim h.1 [
    | inl e ↦ falling_first (policy_test program policy) (direction_test program direction) o (policy_wide program policy) e
    | inr e ↦ falling_second (policy_test program policy) (direction_test program direction) o (direction_wide program direction) e.0 e.1
  ]))
