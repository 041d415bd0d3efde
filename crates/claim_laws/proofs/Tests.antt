-- What a test of a list comes to, where the list shows what is claimed: its number, or an operation that passes.
use Rattle.std.proofs.Common.{◌≡◌, Bool, true, false, List, [], Result, Ok, Err, refl, ap, ◌∙◌, inl, inr}
use Rattle.std.specs.Prelude.{◌⊎◌}
use Rattle.rationals.specs.Rational.{ℚ, zero_ℚ, ◌<ℚ◌, at_most, at_most_true, not_le_of_lt_ℚ}
use Rattle.rationals.specs.Passes.{Operation}
use Rattle.rationals.specs.Choices.{pick}
use Rattle.scen_defs.specs.declared.program.Program.{Program}
use Rattle.scen_defs.specs.Values.{At, at}
use Rattle.scen_defs.specs.Program.{View, IsTree, content}
use Rattle.scen_defs.specs.Flat.{Feasible, cost, IsGood, value, without_costs, ShowsInfeasible, IsDirection}
use Rattle.scen_model.specs.declared.stop.Stop.{Stop}
use Rattle.scen_model.specs.declared.stop.Stop.TheVariants.{Decided, Passed}
use Rattle.scen_model.specs.Derived.{all_fit}
use Rattle.scen_model.specs.Walks.{cost_walk, dual_walk, feasible_walk, direction_walk, own_end}
use Rattle.scen_model.proofs.CostEnds.{cost_is}
use Rattle.scen_model.proofs.DualEnds.{dual_is}
use Rattle.scen_model.proofs.FeasibleEnds.{feasible_is, direction_is}
use Rattle.report_defs.specs.Seen.{seen}
use Rattle.proved_report.specs.Tested.{where_fits, where_meets, where_above, by_cost, by_value}
use Rattle.proved_report.specs.Tested.{policy_test, dual_test, direction_test, ray_test}
use Rattle.claim_laws.specs.Held.{FitsColumns, FitsRows}
use Rattle.claim_laws.proofs.Passing.{EndsIn, IsWide, StopsWide, cost_ends, dual_ends, meets_ends, direction_ends}

-- a test is this one, or that of an operation that passes
abbrev pub ComesTo : {T : Type 0} → T → T → (Operation → T) → Type 0
ComesTo tested shows passes = (tested ≡ shows) ⊎ ((o : Operation) × (tested ≡ passes o) × IsWide o)

-- ---- the parts of a test
pick_second : {X : Type 0} (b : Bool) (x y : X) → b ≡ false → pick b x y ≡ y
pick_second true x y e = absurd (cc)
pick_second false x y e = refl

not_at_most : (q : ℚ) (b : Bool) → at_most q zero_ℚ ≡ b → zero_ℚ <ℚ q → b ≡ false
not_at_most q true e h = absurd (not_le_of_lt_ℚ h (at_most_true q zero_ℚ e))
not_at_most q false e h = refl

module _ (number : ℚ) (values : List At) where
  cost_comes : (w : Result ℚ Operation) → EndsIn IsWide w → ((q : ℚ) → w ≡ Ok q → q ≡ number)
      → ComesTo (by_cost values w) (by_cost values (Ok number)) (λ o. by_cost [] (Err o))
  cost_comes (Ok q) k h = inl (ap (λ (z : ℚ). by_cost values (Ok z)) (h q refl))
  cost_comes (Err o) k h = inr (o, refl, k)

  point_comes : (fits : Bool) (m : Result (Unit {0}) Stop) (w : Result ℚ Operation) → fits ≡ true → EndsIn StopsWide m
      → (m ≡ Err Decided → ⊥) → EndsIn IsWide w → ((q : ℚ) → w ≡ Ok q → q ≡ number)
      → ComesTo (where_fits fits (where_meets m (by_cost values w))) (by_cost values (Ok number)) (λ o. by_cost [] (Err o))
  point_comes true (Ok u) w f l e k h = cost_comes w k h
  point_comes true (Err Decided) w f l e k h = absurd (e refl)
  point_comes true (Err (Passed o)) w f l e k h = inr (o, refl, l)
  point_comes false m w f l e k h = absurd (cc)

  worth_comes : (fits : Bool) (w : Result ℚ Stop) → fits ≡ true → EndsIn StopsWide w → (w ≡ Err Decided → ⊥)
      → ((q : ℚ) → w ≡ Ok q → q ≡ number)
      → ComesTo (where_fits fits (by_value values w)) (by_cost values (Ok number)) (λ o. by_cost [] (Err o))
  worth_comes true (Ok q) f k e h = inl (ap (λ (z : ℚ). by_cost values (Ok z)) (h q refl))
  worth_comes true (Err Decided) f k e h = absurd (e refl)
  worth_comes true (Err (Passed o)) f k e h = inr (o, refl, k)
  worth_comes false w f k e h = absurd (cc)

  is_above : zero_ℚ <ℚ number → where_above (by_value values (Ok number)) ≡ by_cost values (Ok number)
  is_above h = pick_second (at_most number zero_ℚ) _ _ (not_at_most number (at_most number zero_ℚ) refl h)

  above_comes : (fits : Bool) (w : Result ℚ Stop) → fits ≡ true → EndsIn StopsWide w → (w ≡ Err Decided → ⊥)
      → ((q : ℚ) → w ≡ Ok q → q ≡ number) → zero_ℚ <ℚ number
      → ComesTo (where_fits fits (where_above (by_value values w))) (by_cost values (Ok number)) (λ o. by_cost [] (Err o))
  above_comes true (Ok q) f k e h a = inl (ap (λ (z : ℚ). where_above (by_value values (Ok z))) (h q refl) ∙ is_above a)
  above_comes true (Err Decided) f k e h a = absurd (e refl)
  above_comes true (Err (Passed o)) f k e h a = inr (o, refl, k)
  above_comes false w f k e h a = absurd (cc)

-- ---- the tests
module _ (program : Program) (tree : IsTree (seen program)) where
  abbrev v : View
  v = seen program

  pub policy_comes : (policy : List At) → FitsColumns program policy → Feasible v (at policy)
      → ComesTo (policy_test program policy) (by_cost policy (Ok (cost v (at policy)))) (λ o. by_cost [] (Err o))
  policy_comes policy fit h =
      point_comes (cost v (at policy)) policy (all_fit (content program) false policy) (feasible_walk v (at policy))
      (cost_walk v (at policy)) fit (meets_ends own_end v (at policy)) (λ e. feasible_is.no v (at policy) e h)
      (cost_ends v (at policy)) (λ q e. cost_is v (at policy) q tree e)

  pub direction_comes : (direction : List At) → FitsColumns program direction → IsDirection v (at direction)
      → ComesTo (direction_test program direction) (by_cost direction (Ok (cost v (at direction)))) (λ o. by_cost [] (Err o))
  direction_comes direction fit h =
      point_comes (cost v (at direction)) direction (all_fit (content program) false direction) (direction_walk v (at direction))
      (cost_walk v (at direction)) fit (direction_ends v (at direction)) (λ e. direction_is.no v (at direction) tree e h)
      (cost_ends v (at direction)) (λ q e. cost_is v (at direction) q tree e)

  pub dual_comes : (dual : List At) → FitsRows program dual → IsGood v (at dual)
      → ComesTo (dual_test program dual) (by_cost dual (Ok (value v (at dual)))) (λ o. by_cost [] (Err o))
  dual_comes dual fit h =
      worth_comes (value v (at dual)) dual (all_fit (content program) true dual) (dual_walk v (at dual)) fit
      (dual_ends v (at dual) v.cost) (λ e. dual_is.not_good v (at dual) e h) (λ q e. dual_is.value v (at dual) q e)

  pub ray_comes : (ray : List At) → FitsRows program ray → ShowsInfeasible v (at ray)
      → ComesTo (ray_test program ray) (by_cost ray (Ok (value (without_costs v) (at ray)))) (λ o. by_cost [] (Err o))
  ray_comes ray fit h =
      let w : View = without_costs v in
      above_comes (value w (at ray)) ray (all_fit (content program) true ray) (dual_walk w (at ray)) fit
      (dual_ends w (at ray) w.cost) (λ e. dual_is.not_good w (at ray) e h.good) (λ q e. dual_is.value w (at ray) q e) h.above
