-- What the tests show.
use Rattle.std.proofs.Common.{◌≡◌, ℕ, Bool, true, false, List, Option, Some, None, Result, Ok, Err, length, refl, sym, subst}
use Rattle.rationals.specs.Rational.{ℚ, zero_ℚ, ◌≤ℚ◌, ◌<ℚ◌, at_most, at_most_false, le_of_same_ℚ}
use Rattle.rationals.specs.Passes.{Operation}
use Rattle.rationals.specs.Choices.{pick}
use Rattle.scen_defs.specs.Values.{At, at}
use Rattle.scen_defs.specs.Fits.{HaveNames}
use Rattle.scen_defs.specs.Program.{View, IsTree, content}
use Rattle.scen_defs.specs.Flat.{IsDirection, cost, value, without_costs, ShowsInfeasible}
use Rattle.scen_defs.specs.declared.program.Program.{Program}
use Rattle.scen_defs.proofs.Duality.{weak_duality, infeasibility_shown}
use Rattle.scen_model.specs.declared.stop.Stop.{Stop}
use Rattle.scen_model.specs.declared.stop.Stop.TheVariants.{Decided, Passed as PassedStop}
use Rattle.scen_model.specs.Derived.{all_fit}
use Rattle.scen_model.specs.Walks.{cost_walk, dual_walk, feasible_walk, direction_walk}
use Rattle.scen_model.proofs.CostEnds.{cost_is}
use Rattle.scen_model.proofs.DualEnds.{dual_is}
use Rattle.scen_model.proofs.FeasibleEnds.{feasible_is, direction_is}
use Rattle.report_defs.specs.Seen.{seen}
use Rattle.report_defs.specs.Shows.{ShowsLower, ShowsUpper, ShowsNothing}
use Rattle.proved_report.specs.declared.tested.Tested.{Tested}
use Rattle.proved_report.specs.declared.tested.Tested.TheVariants.{Shows, Fails, Passes}
use Rattle.proved_report.specs.Tested.{where_fits, where_meets, where_above, by_cost, by_value, policy_test, dual_test, direction_test, ray_test, some_policy_test, some_dual_test}
use Rattle.proved_report.proofs.FitLemmas.{columns-have-names, rows-have-names}

-- what holds of a list and its number, where the test shows them
abbrev pub IfShown : (ℚ → List At → Type 0) → Tested → Type 0
IfShown holds (Shows number values) = holds number values
IfShown holds Fails = Unit {0}
IfShown holds (Passes p) = Unit {0}

-- it is a direction of that cost
pub record IsSlope (v : View) (slope : ℚ) (direction : List At) : Type 0 where
  pub falls : IsDirection v (at direction)
  pub costs : cost v (at direction) ≡ slope

-- ---- the parts of a test
module _ (holds : ℚ → List At → Type 0) (values : List At) where
  fits-shown : (b : Bool) (t : Tested) → (b ≡ true → IfShown holds t) → IfShown holds (where_fits b t)
  fits-shown true t h = h refl
  fits-shown false t h = tt

  meets-shown : (w : Result (Unit {0}) Stop) (t : Tested) → (w ≡ Ok tt → IfShown holds t) → IfShown holds (where_meets w t)
  meets-shown (Ok u) t h = h refl
  meets-shown (Err Decided) t h = tt
  meets-shown (Err (PassedStop p)) t h = tt

  cost-shown : (w : Result ℚ Operation) → ((q : ℚ) → w ≡ Ok q → holds q values) → IfShown holds (by_cost values w)
  cost-shown (Ok q) h = h q refl
  cost-shown (Err p) h = tt

  value-shown : (w : Result ℚ Stop) → ((q : ℚ) → w ≡ Ok q → holds q values) → IfShown holds (by_value values w)
  value-shown (Ok q) h = h q refl
  value-shown (Err Decided) h = tt
  value-shown (Err (PassedStop p)) h = tt

  above-zero : (q : ℚ) (b : Bool) → at_most q zero_ℚ ≡ b → (zero_ℚ <ℚ q → holds q values) → IfShown holds (pick b Fails (Shows q values))
  above-zero q true e h = tt
  above-zero q false e h = h (at_most_false q zero_ℚ e)

  above-shown : (w : Result ℚ Stop) → ((q : ℚ) → w ≡ Ok q → zero_ℚ <ℚ q → holds q values) → IfShown holds (where_above (by_value values w))
  above-shown (Ok q) h = above-zero q (at_most q zero_ℚ) refl (h q refl)
  above-shown (Err Decided) h = tt
  above-shown (Err (PassedStop p)) h = tt

-- ---- what is shown
module _ (program : Program) (tree : IsTree (seen program)) where
  pub policy-shown : (policy : List At) → IfShown (ShowsUpper (seen program)) (policy_test program policy)
  policy-shown policy =
      let v : View = seen program in
      fits-shown (ShowsUpper v) policy (all_fit (content program) false policy) _ (λ fit.
      meets-shown (ShowsUpper v) policy (feasible_walk v (at policy)) _ (λ met.
      cost-shown (ShowsUpper v) policy (cost_walk v (at policy)) (λ q e. record { feasible = feasible_is.yes v (at policy) met; costs = le_of_same_ℚ (sym (cost_is v (at policy) q tree e)) })))

  pub dual-shown : (dual : List At) → IfShown (ShowsLower (seen program)) (dual_test program dual)
  dual-shown dual =
      let v : View = seen program in
      fits-shown (ShowsLower v) dual (all_fit (content program) true dual) _ (λ fit.
      value-shown (ShowsLower v) dual (dual_walk v (at dual)) (λ q e.
      let worth : value v (at dual) ≡ q = sym (dual_is.value v (at dual) q e) in
      record {
        good = dual_is.good v (at dual) q e;
        worth = le_of_same_ℚ (sym worth);
        bound = λ x feasible. subst (λ (r : ℚ). r ≤ℚ cost v x) worth (weak_duality v x (at dual) tree feasible (dual_is.good v (at dual) q e));
      }))

  pub direction-shown : (direction : List At) → IfShown (IsSlope (seen program)) (direction_test program direction)
  direction-shown direction =
      let v : View = seen program in
      fits-shown (IsSlope v) direction (all_fit (content program) false direction) _ (λ fit.
      meets-shown (IsSlope v) direction (direction_walk v (at direction)) _ (λ met.
      cost-shown (IsSlope v) direction (cost_walk v (at direction)) (λ q e. record { falls = direction_is.yes v (at direction) tree met; costs = sym (cost_is v (at direction) q tree e) })))

  pub ray-shown : (ray : List At) → IfShown (ShowsNothing (seen program)) (ray_test program ray)
  ray-shown ray =
      let v : View = seen program in
      fits-shown (ShowsNothing v) ray (all_fit (content program) true ray) _ (λ fit.
      above-shown (ShowsNothing v) ray (dual_walk (without_costs v) (at ray)) (λ q e above.
      let worth : q ≡ value (without_costs v) (at ray) = dual_is.value (without_costs v) (at ray) q e in
      let certificate : ShowsInfeasible v (at ray) = record { good = dual_is.good (without_costs v) (at ray) q e; above = subst (λ (r : ℚ). zero_ℚ <ℚ r) worth above } in
      record { certificate = certificate; worth = sym worth; above = above; nothing = infeasibility_shown v (at ray) tree certificate }))

  pub some-policy-shown : (policy : Option (List At)) → IfShown (ShowsUpper (seen program)) (some_policy_test program policy)
  some-policy-shown None = tt
  some-policy-shown (Some policy) = policy-shown policy

  pub some-dual-shown : (dual : Option (List At)) → IfShown (ShowsLower (seen program)) (some_dual_test program dual)
  some-dual-shown None = tt
  some-dual-shown (Some dual) = dual-shown dual

-- ---- names
abbrev pub HasNames : ℕ → Tested → Type 0
HasNames count tested = IfShown (λ number values. HaveNames count values) tested

module _ (program : Program) where
  pub policy-names : (policy : List At) → HasNames (length program.columns.items) (policy_test program policy)
  policy-names policy =
      let holds : ℚ → List At → Type 0 = λ number values. HaveNames (length program.columns.items) values in
      fits-shown holds policy (all_fit (content program) false policy) _ (λ fit.
      meets-shown holds policy (feasible_walk (seen program) (at policy)) _ (λ met.
      cost-shown holds policy (cost_walk (seen program) (at policy)) (λ q e. columns-have-names (content program) policy fit)))

  pub direction-names : (direction : List At) → HasNames (length program.columns.items) (direction_test program direction)
  direction-names direction =
      let holds : ℚ → List At → Type 0 = λ number values. HaveNames (length program.columns.items) values in
      fits-shown holds direction (all_fit (content program) false direction) _ (λ fit.
      meets-shown holds direction (direction_walk (seen program) (at direction)) _ (λ met.
      cost-shown holds direction (cost_walk (seen program) (at direction)) (λ q e. columns-have-names (content program) direction fit)))

  pub dual-names : (dual : List At) → HasNames (length program.rows.items) (dual_test program dual)
  dual-names dual =
      let holds : ℚ → List At → Type 0 = λ number values. HaveNames (length program.rows.items) values in
      fits-shown holds dual (all_fit (content program) true dual) _ (λ fit.
      value-shown holds dual (dual_walk (seen program) (at dual)) (λ q e. rows-have-names (content program) dual fit))

  pub ray-names : (ray : List At) → HasNames (length program.rows.items) (ray_test program ray)
  ray-names ray =
      let holds : ℚ → List At → Type 0 = λ number values. HaveNames (length program.rows.items) values in
      fits-shown holds ray (all_fit (content program) true ray) _ (λ fit.
      above-shown holds ray (dual_walk (without_costs (seen program)) (at ray)) (λ q e above. rows-have-names (content program) ray fit))

  pub some-policy-names : (policy : Option (List At)) → HasNames (length program.columns.items) (some_policy_test program policy)
  some-policy-names None = tt
  some-policy-names (Some policy) = policy-names policy

  pub some-dual-names : (dual : Option (List At)) → HasNames (length program.rows.items) (some_dual_test program dual)
  some-dual-names None = tt
  some-dual-names (Some dual) = dual-names dual
