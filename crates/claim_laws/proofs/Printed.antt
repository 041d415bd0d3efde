-- The lists of the report of a claim are those that are claimed.
use Rattle.std.proofs.Common.{◌≡◌, ◌⊎◌, inl, inr, ℕ, Bool, true, false, List, [], Option, Some, None, Result, Ok, Err, refl, sym, ap, subst, ◌∙◌}
use Rattle.rationals.specs.Rational.{ℚ, zero_ℚ, at_most}
use Rattle.rationals.specs.Passes.{Operation}
use Rattle.rationals.specs.Choices.{pick}
use Rattle.scen_defs.specs.declared.program.Program.{Program}
use Rattle.scen_defs.specs.declared.report.Finding.{Finding}
use Rattle.scen_defs.specs.declared.report.Place.{Place}
use Rattle.scen_defs.specs.declared.report.Place.TheVariants.{Dual}
use Rattle.scen_defs.specs.declared.report.Report.{Report}
use Rattle.scen_defs.specs.Values.{At, at}
use Rattle.scen_defs.specs.Program.{View, content}
use Rattle.scen_defs.specs.Flat.{Feasible, IsGood, without_costs}
use Rattle.scen_model.specs.declared.stop.Stop.{Stop}
use Rattle.scen_model.specs.declared.stop.Stop.TheVariants.{Decided, Passed as PassedStop}
use Rattle.scen_model.specs.Derived.{all_fit}
use Rattle.scen_model.specs.Walks.{cost_walk, dual_walk, feasible_walk, direction_walk}
use Rattle.scen_model.proofs.DualEnds.{dual_is}
use Rattle.scen_model.proofs.FeasibleEnds.{feasible_is}
use Rattle.report_defs.specs.Seen.{seen}
use Rattle.report_defs.specs.Blank.{blank_report}
use Rattle.proved_report.specs.declared.open.Open.{Open}
use Rattle.proved_report.specs.declared.claim.Claim.{Claim}
use Rattle.proved_report.specs.declared.claim.Claim.TheVariants.{Ends, Nowhere, Endless}
use Rattle.proved_report.specs.declared.tested.Tested.{Tested}
use Rattle.proved_report.specs.declared.tested.Tested.TheVariants.{Shows, Fails, Passes}
use Rattle.proved_report.specs.Open.{finding_of}
use Rattle.proved_report.specs.Tested.{where_fits, where_meets, where_above, by_cost, by_value, or_before}
use Rattle.proved_report.specs.Tested.{policy_test, dual_test, direction_test, ray_test, some_policy_test, some_dual_test}
use Rattle.proved_report.specs.Reports.{Rounds, AreRounds, ends_report, ray_report, falling_report, claimed_report}
use Rattle.report_defs.specs.Shows.{ShowsLower, ShowsUpper}
use Rattle.proved_report.specs.Rounded.{IsRounded}
use Rattle.claim_laws.specs.Held.{FitsColumns, FitsRows}
use Rattle.claim_laws.specs.Tells.{PrintsOnly, PrintsClaimed}

none_some : {A : Type 0} (x : A) → ◌≡◌ {A = Option A} None (Some x) → ⊥
none_some x e = cc

same_some : {A : Type 0} (x y : A) → Some x ≡ Some y → x ≡ y
same_some x y e = cc

-- the list that a test shows
abbrev shown_list : Tested → Option (List At)
shown_list (Shows number values) = Some values
shown_list Fails = None
shown_list (Passes o) = None

-- ---- a test shows no list but this one, which fits
abbrev KeepsTo : (Fits : Type 0) → List At → Tested → Type 0
KeepsTo Fits values (Shows number shown) = (shown ≡ values) × Fits
KeepsTo Fits values Fails = Unit {0}
KeepsTo Fits values (Passes o) = Unit {0}

fits_keep : (fits : Bool) (values : List At) (t : Tested) → KeepsTo (Unit {0}) values t → KeepsTo (fits ≡ true) values (where_fits fits t)
fits_keep true values (Shows number shown) h = (h.0, refl)
fits_keep true values Fails h = tt
fits_keep true values (Passes o) h = tt
fits_keep false values t h = tt

meets_keep : (values : List At) (m : Result (Unit {0}) Stop) (t : Tested) → KeepsTo (Unit {0}) values t
    → KeepsTo (Unit {0}) values (where_meets m t)
meets_keep values (Ok done) t h = h
meets_keep values (Err Decided) t h = tt
meets_keep values (Err (PassedStop o)) t h = tt

above_keep : (values : List At) (t : Tested) → KeepsTo (Unit {0}) values t → KeepsTo (Unit {0}) values (where_above t)
above_keep values (Shows number shown) h = go (at_most number zero_ℚ)
  where
    go : (b : Bool) → KeepsTo (Unit {0}) values (pick b Fails (Shows number shown))
    go true = tt
    go false = h
above_keep values Fails h = tt
above_keep values (Passes o) h = tt

cost_keeps : (values : List At) (w : Result ℚ Operation) → KeepsTo (Unit {0}) values (by_cost values w)
cost_keeps values (Ok cost) = (refl, tt)
cost_keeps values (Err o) = tt

value_keeps : (values : List At) (w : Result ℚ Stop) → KeepsTo (Unit {0}) values (by_value values w)
value_keeps values (Ok value) = (refl, tt)
value_keeps values (Err Decided) = tt
value_keeps values (Err (PassedStop o)) = tt

-- so only this list is printed
module _ (Fits : List At → Type 0) where
  prints_none : (claimed : Option (List At)) → PrintsOnly Fits claimed None
  prints_none claimed = λ x e. absurd (none_some x e)

  prints_it : (values shown x : List At) → shown ≡ values → Fits values → Some shown ≡ Some x → (Some values ≡ Some x) × Fits x
  prints_it values shown x s fits e =
      let same : values ≡ x = sym s ∙ same_some shown x e in
      (ap (λ (l : List At). Some l) same, subst Fits same fits)

  prints_shown : (values : List At) (t : Tested) → KeepsTo (Fits values) values t → PrintsOnly Fits (Some values) (shown_list t)
  prints_shown values (Shows number shown) h = λ x e. prints_it values shown x h.0 h.1 e
  prints_shown values Fails h = prints_none (Some values)
  prints_shown values (Passes o) h = prints_none (Some values)

-- ---- a list that does what is claimed of it is shown, or an operation passes
abbrev IsShownOr : List At → Tested → Type 0
IsShownOr values t = (shown_list t ≡ Some values) ⊎ ((o : Operation) × (t ≡ by_cost [] (Err o)))

point_shown : (values : List At) (fits : Bool) (m : Result (Unit {0}) Stop) (w : Result ℚ Operation) → fits ≡ true → (m ≡ Err Decided → ⊥)
    → IsShownOr values (where_fits fits (where_meets m (by_cost values w)))
point_shown values true (Ok done) (Ok cost) f h = inl refl
point_shown values true (Ok done) (Err o) f h = inr (o, refl)
point_shown values true (Err Decided) w f h = absurd (h refl)
point_shown values true (Err (PassedStop o)) w f h = inr (o, refl)
point_shown values false m w f h = absurd (cc)

worth_shown : (values : List At) (fits : Bool) (w : Result ℚ Stop) → fits ≡ true → (w ≡ Err Decided → ⊥)
    → IsShownOr values (where_fits fits (by_value values w))
worth_shown values true (Ok value) f h = inl refl
worth_shown values true (Err Decided) f h = absurd (h refl)
worth_shown values true (Err (PassedStop o)) f h = inr (o, refl)
worth_shown values false w f h = absurd (cc)

-- ---- the tests
module _ (program : Program) where
  abbrev v : View
  v = seen program

  policy_prints : (policy : List At) → PrintsOnly (FitsColumns program) (Some policy) (shown_list (policy_test program policy))
  policy_prints policy = prints_shown (FitsColumns program) policy (policy_test program policy)
      (fits_keep (all_fit (content program) false policy) policy _
      (meets_keep policy (feasible_walk v (at policy)) _ (cost_keeps policy (cost_walk v (at policy)))))

  direction_prints : (direction : List At) → PrintsOnly (FitsColumns program) (Some direction) (shown_list (direction_test program direction))
  direction_prints direction = prints_shown (FitsColumns program) direction (direction_test program direction)
      (fits_keep (all_fit (content program) false direction) direction _
      (meets_keep direction (direction_walk v (at direction)) _ (cost_keeps direction (cost_walk v (at direction)))))

  dual_prints : (dual : List At) → PrintsOnly (FitsRows program) (Some dual) (shown_list (dual_test program dual))
  dual_prints dual = prints_shown (FitsRows program) dual (dual_test program dual)
      (fits_keep (all_fit (content program) true dual) dual _ (value_keeps dual (dual_walk v (at dual))))

  ray_prints : (ray : List At) → PrintsOnly (FitsRows program) (Some ray) (shown_list (ray_test program ray))
  ray_prints ray = prints_shown (FitsRows program) ray (ray_test program ray)
      (fits_keep (all_fit (content program) true ray) ray _
      (above_keep ray _ (value_keeps ray (dual_walk (without_costs v) (at ray)))))

  some_policy_prints : (policy : Option (List At)) → PrintsOnly (FitsColumns program) policy (shown_list (some_policy_test program policy))
  some_policy_prints None = prints_none (FitsColumns program) None
  some_policy_prints (Some policy) = policy_prints policy

  some_dual_prints : (dual : Option (List At)) → PrintsOnly (FitsRows program) dual (shown_list (some_dual_test program dual))
  some_dual_prints None = prints_none (FitsRows program) None
  some_dual_prints (Some dual) = dual_prints dual

  -- a feasible policy and a good dual
  abbrev PrintsFeasible : Option (List At) → Option (List At) → Type 0
  PrintsFeasible claimed printed = (values : List At) → claimed ≡ Some values → FitsColumns program values → Feasible v (at values)
      → (printed ≡ Some values) ⊎ ((o : Operation) × (policy_test program values ≡ by_cost [] (Err o)))

  abbrev PrintsGood : Option (List At) → Option (List At) → Type 0
  PrintsGood claimed printed = (values : List At) → claimed ≡ Some values → FitsRows program values → IsGood v (at values)
      → (printed ≡ Some values) ⊎ ((o : Operation) × (dual_test program values ≡ by_cost [] (Err o)))

  feasible_prints : (policy : Option (List At)) → PrintsFeasible policy (shown_list (some_policy_test program policy))
  feasible_prints policy = λ values e fits feasible.
      subst (λ (l : Option (List At)). (shown_list (some_policy_test program l) ≡ Some values)
      ⊎ ((o : Operation) × (policy_test program values ≡ by_cost [] (Err o)))) (sym e)
      (point_shown values (all_fit (content program) false values) (feasible_walk v (at values)) (cost_walk v (at values)) fits
      (λ no. feasible_is.no v (at values) no feasible))

  good_prints : (dual : Option (List At)) → PrintsGood dual (shown_list (some_dual_test program dual))
  good_prints dual = λ values e fits good.
      subst (λ (l : Option (List At)). (shown_list (some_dual_test program l) ≡ Some values)
      ⊎ ((o : Operation) × (dual_test program values ≡ by_cost [] (Err o)))) (sym e)
      (worth_shown values (all_fit (content program) true values) (dual_walk v (at values)) fits
      (λ no. dual_is.not_good v (at values) no good))

  none_feasible : (printed : Option (List At)) → PrintsFeasible None printed
  none_feasible printed = λ values e fits feasible. absurd (none_some values e)

  none_good : (printed : Option (List At)) → PrintsGood None printed
  none_good printed = λ values e fits good. absurd (none_some values e)

-- ---- the lists of reports
record HasLists (report : Report) (policy dual ray direction : Option (List At)) : Type 0 where
  policy_is : report.policy ≡ policy
  dual_is : report.dual ≡ dual
  ray_is : report.ray ≡ ray
  direction_is : report.direction ≡ direction

-- the list of a test behind another one, where that shows a list
abbrev shown_behind : Tested → Tested → Option (List At)
shown_behind (Shows number values) t = shown_list t
shown_behind Fails t = None
shown_behind (Passes o) t = None

behind_prints : (Fits : List At → Type 0) (claimed : Option (List At)) (first t : Tested) → PrintsOnly Fits claimed (shown_list t)
    → PrintsOnly Fits claimed (shown_behind first t)
behind_prints Fits claimed (Shows number values) t h = h
behind_prints Fits claimed Fails t h = prints_none Fits claimed
behind_prints Fits claimed (Passes o) t h = prints_none Fits claimed

module _ (number nodes scenarios : ℕ) (finding : Finding) where
  abbrev blank : Report
  blank = blank_report number nodes scenarios finding

  ends_lists : (upper lower : Tested) → HasLists (ends_report blank upper lower) (shown_list upper) (shown_list lower) None None
  ends_lists (Shows cost policy) (Shows value dual) = record { policy_is = refl; dual_is = refl; ray_is = refl; direction_is = refl }
  ends_lists (Shows cost policy) Fails = record { policy_is = refl; dual_is = refl; ray_is = refl; direction_is = refl }
  ends_lists (Shows cost policy) (Passes p) = record { policy_is = refl; dual_is = refl; ray_is = refl; direction_is = refl }
  ends_lists Fails (Shows value dual) = record { policy_is = refl; dual_is = refl; ray_is = refl; direction_is = refl }
  ends_lists Fails Fails = record { policy_is = refl; dual_is = refl; ray_is = refl; direction_is = refl }
  ends_lists Fails (Passes p) = record { policy_is = refl; dual_is = refl; ray_is = refl; direction_is = refl }
  ends_lists (Passes o) (Shows value dual) = record { policy_is = refl; dual_is = refl; ray_is = refl; direction_is = refl }
  ends_lists (Passes o) Fails = record { policy_is = refl; dual_is = refl; ray_is = refl; direction_is = refl }
  ends_lists (Passes o) (Passes p) = record { policy_is = refl; dual_is = refl; ray_is = refl; direction_is = refl }

  ray_lists : (shown : Tested) → HasLists (ray_report blank shown) None None (shown_list shown) None
  ray_lists (Shows number ray) = record { policy_is = refl; dual_is = refl; ray_is = refl; direction_is = refl }
  ray_lists Fails = record { policy_is = refl; dual_is = refl; ray_is = refl; direction_is = refl }
  ray_lists (Passes o) = record { policy_is = refl; dual_is = refl; ray_is = refl; direction_is = refl }

  falling_lists : (upper slope : Tested)
      → HasLists (falling_report blank upper slope) (shown_list upper) None None (shown_behind upper slope)
  falling_lists (Shows cost policy) (Shows number direction) =
      record { policy_is = refl; dual_is = refl; ray_is = refl; direction_is = refl }
  falling_lists (Shows cost policy) Fails = record { policy_is = refl; dual_is = refl; ray_is = refl; direction_is = refl }
  falling_lists (Shows cost policy) (Passes o) = record { policy_is = refl; dual_is = refl; ray_is = refl; direction_is = refl }
  falling_lists Fails slope = record { policy_is = refl; dual_is = refl; ray_is = refl; direction_is = refl }
  falling_lists (Passes o) slope = record { policy_is = refl; dual_is = refl; ray_is = refl; direction_is = refl }

-- ---- lists that are printed with a rounded number
fits_of : (b : Bool) (t : Tested) (o : Operation) → where_fits b t ≡ Passes o → b ≡ true
fits_of true t o e = refl
fits_of false t o e = absurd (cc)

rounded_prints : (Shown : ℚ → List At → Type 0) (Fits : List At → Type 0) (list : Option (List At)) (t u : Tested) → IsRounded Shown list t u
    → ((values : List At) (o : Operation) → list ≡ Some values → t ≡ Passes o → Fits values) → PrintsOnly Fits list (shown_list t) → PrintsOnly Fits list (shown_list u)
rounded_prints Shown Fits list t u (inl e) fits h = subst (λ (x : Tested). PrintsOnly Fits list (shown_list x)) (sym e) h
rounded_prints Shown Fits list t u (inr r) fits h = subst (λ (x : Tested). PrintsOnly Fits list (shown_list x)) (sym r.printed_is) (λ x e.
    let same : r.values ≡ x = same_some r.values x e in
    (r.list_is ∙ ap (λ (l : List At). Some l) same, subst Fits same (fits r.values r.operation r.list_is r.passes)))

rounded_or : (Shown : ℚ → List At → Type 0) (list : Option (List At)) (t u : Tested) (R : Type 0) (values : List At) → IsRounded Shown list t u → list ≡ Some values
    → (shown_list t ≡ Some values) ⊎ R → (shown_list u ≡ Some values) ⊎ R
rounded_or Shown list t u R values (inl e) c h = subst (λ (x : Tested). (shown_list x ≡ Some values) ⊎ R) (sym e) h
rounded_or Shown list t u R values (inr r) c h = inl (ap shown_list r.printed_is ∙ sym r.list_is ∙ c)

module _ (program : Program) where
  policy_fits : (policy : Option (List At)) (values : List At) (o : Operation) → policy ≡ Some values → some_policy_test program policy ≡ Passes o → FitsColumns program values
  policy_fits policy values o e h = fits_of (all_fit (content program) false values) _ o (ap (some_policy_test program) (sym e) ∙ h)

  dual_fits : (dual : Option (List At)) (values : List At) (o : Operation) → dual ≡ Some values → some_dual_test program dual ≡ Passes o → FitsRows program values
  dual_fits dual values o e h = fits_of (all_fit (content program) true values) _ o (ap (some_dual_test program) (sym e) ∙ h)

-- ---- claims
module _ (program : Program) (number nodes scenarios : ℕ) (place : Place) (why : Open) (solves : ℕ) (rounds : Rounds) where
  pub lists_claimed : (claim : Claim) → AreRounds program claim rounds
      → PrintsClaimed program claim (claimed_report program number nodes scenarios place why solves rounds claim)
  lists_claimed (Ends policy dual) are =
      let upper : Tested = some_policy_test program policy in
      let lower : Tested = some_dual_test program dual in
      let has = ends_lists number nodes scenarios (finding_of (or_before upper place (or_before lower Dual why)) solves) rounds.upper rounds.lower in
      record {
        policy = λ x e. rounded_prints (ShowsUpper (seen program)) (FitsColumns program) policy upper rounds.upper are.0 (policy_fits program policy) (some_policy_prints program policy) x (sym has.policy_is ∙ e);
        dual = λ x e. rounded_prints (ShowsLower (seen program)) (FitsRows program) dual lower rounds.lower are.1 (dual_fits program dual) (some_dual_prints program dual) x (sym has.dual_is ∙ e);
        ray = λ x e. prints_none (FitsRows program) None x (sym has.ray_is ∙ e);
        direction = λ x e. prints_none (FitsColumns program) None x (sym has.direction_is ∙ e);
        feasible = subst (PrintsFeasible program policy) (sym has.policy_is) (λ values e fits feasible.
            rounded_or (ShowsUpper (seen program)) policy upper rounds.upper _ values are.0 e (feasible_prints program policy values e fits feasible));
        good = subst (PrintsGood program dual) (sym has.dual_is) (λ values e fits good.
            rounded_or (ShowsLower (seen program)) dual lower rounds.lower _ values are.1 e (good_prints program dual values e fits good));
      }
  lists_claimed (Nowhere ray) are =
      let shown : Tested = ray_test program ray in
      let has = ray_lists number nodes scenarios (finding_of (or_before shown Dual why) solves) shown in
      record {
        policy = λ x e. prints_none (FitsColumns program) None x (sym has.policy_is ∙ e);
        dual = λ x e. prints_none (FitsRows program) None x (sym has.dual_is ∙ e);
        ray = λ x e. ray_prints program ray x (sym has.ray_is ∙ e);
        direction = λ x e. prints_none (FitsColumns program) None x (sym has.direction_is ∙ e);
        feasible = none_feasible program _;
        good = none_good program _;
      }
  lists_claimed (Endless policy direction) are =
      let upper : Tested = policy_test program policy in
      let slope : Tested = direction_test program direction in
      let has = falling_lists number nodes scenarios (finding_of (or_before upper place (or_before slope place why)) solves) upper slope in
      record {
        policy = λ x e. policy_prints program policy x (sym has.policy_is ∙ e);
        dual = λ x e. prints_none (FitsRows program) None x (sym has.dual_is ∙ e);
        ray = λ x e. prints_none (FitsRows program) None x (sym has.ray_is ∙ e);
        direction = λ x e. behind_prints (FitsColumns program) (Some direction) upper slope (direction_prints program direction) x
            (sym has.direction_is ∙ e);
        feasible = subst (PrintsFeasible program (Some policy)) (sym has.policy_is) (feasible_prints program (Some policy));
        good = none_good program _;
      }
