-- Ends that are rounded outward.
use Rattle.std.proofs.Common.{◌≡◌, ◌⊎◌, inl, inr, ℕ, Bool, true, false, List, Option, Some, None, Result, Ok, Err, IfSome, length, refl, sym, ap, subst, ◌∙◌}
use Rattle.rationals.specs.Rational.{ℚ, ◌≤ℚ◌, le_trans_ℚ}
use Rattle.rationals.specs.Passes.{Operation}
use Rattle.scen_defs.specs.Values.{At, at}
use Rattle.scen_defs.specs.Fits.{HaveNames}
use Rattle.scen_defs.specs.Program.{View, IsTree, content}
use Rattle.scen_defs.specs.Flat.{Feasible, cost}
use Rattle.scen_defs.specs.declared.program.Program.{Program}
use Rattle.scen_defs.specs.declared.report.Place.{Place}
use Rattle.scen_defs.specs.declared.report.Halt.{Halt}
use Rattle.scen_defs.specs.declared.report.Halt.TheVariants as halt
use Rattle.scen_defs.proofs.Duality.{weak_duality}
use Rattle.scen_model.specs.Derived.{all_fit}
use Rattle.report_defs.specs.Seen.{seen}
use Rattle.report_defs.specs.Shows.{ShowsLower, ShowsUpper}
use Rattle.rounded_sums.specs.declared.side.Side.TheVariants.{Above, Below}
use Rattle.rounded_sums.specs.Sides.{Beside}
use Rattle.rounded_ends.specs.Worths.{IsWorthAll}
use Rattle.proved_report.specs.declared.open.Open.{Open}
use Rattle.proved_report.specs.declared.tested.End.{End}
use Rattle.proved_report.specs.declared.tested.Tested.{Tested}
use Rattle.proved_report.specs.declared.tested.Tested.TheVariants.{Shows, Fails, Passes}
use Rattle.proved_report.specs.Tested.{where_fits, or_before, policy_test, dual_test, some_policy_test, some_dual_test, Gives}
use Rattle.proved_report.specs.Rounded.{passing, passed_before, rounded_test, exact_end, ByRounding, IsRounded, IsEnd}
use Rattle.proved_report.proofs.FitLemmas.{columns-have-names, rows-have-names}
use Rattle.proved_report.proofs.ShownLemmas.{IfShown, HasNames, some-policy-names, some-dual-names}

-- ---- what is printed shows what it is to show
module _ (holds : ℚ → List At → Type 0) (list : Option (List At)) where
  pub rounded-shown : (t u : Tested) → IsRounded holds list t u → IfShown holds t → IfShown holds u
  rounded-shown t u (inl e) h = subst (IfShown holds) (sym e) h
  rounded-shown t u (inr r) h = subst (IfShown holds) (sym r.printed_is) r.shows

-- ---- names
passes-fit : (b : Bool) (t : Tested) (o : Operation) → where_fits b t ≡ Passes o → b ≡ true
passes-fit true t o e = refl
passes-fit false t o e = absurd (cc)

module _ (program : Program) where
  pub policy-rounded-names : (policy : Option (List At)) (u : Tested) → IsRounded (ShowsUpper (seen program)) policy (some_policy_test program policy) u
      → HasNames (length program.columns.items) u
  policy-rounded-names policy u (inl e) = subst (HasNames (length program.columns.items)) (sym e) (some-policy-names program policy)
  policy-rounded-names policy u (inr r) =
      let o : policy_test program r.values ≡ Passes r.operation = ap (some_policy_test program) (sym r.list_is) ∙ r.passes in
      subst (HasNames (length program.columns.items)) (sym r.printed_is) (columns-have-names (content program) r.values (passes-fit (all_fit (content program) false r.values) _ r.operation o))

  pub dual-rounded-names : (dual : Option (List At)) (u : Tested) → IsRounded (ShowsLower (seen program)) dual (some_dual_test program dual) u
      → HasNames (length program.rows.items) u
  dual-rounded-names dual u (inl e) = subst (HasNames (length program.rows.items)) (sym e) (some-dual-names program dual)
  dual-rounded-names dual u (inr r) =
      let o : dual_test program r.values ≡ Passes r.operation = ap (some_dual_test program) (sym r.list_is) ∙ r.passes in
      subst (HasNames (length program.rows.items)) (sym r.printed_is) (rows-have-names (content program) r.values (passes-fit (all_fit (content program) true r.values) _ r.operation o))

-- ---- the operation that is told
pub before_is : (t : Tested) (p : Option Operation) (place : Place) (why : Open) → p ≡ passing t → passed_before p place why ≡ or_before t place why
before_is t p place why e = ap (λ (q : Option Operation). passed_before q place why) e ∙ go t
  where
    go : (t : Tested) → passed_before (passing t) place why ≡ or_before t place why
    go (Shows number values) = refl
    go Fails = refl
    go (Passes o) = refl

-- ---- the ends of lists
module _ (holds : ℚ → List At → Type 0) (values : List At) (tested : Tested) where
  pub end_exact : (computed : Option ℚ) (end : End) → Gives values tested (Ok computed) → end ≡ exact_end values computed → IsEnd holds (Some values) tested end
  end_exact None end g e = subst (IsEnd holds (Some values) tested) (sym e) (record { passed = ap passing (sym g); rounded = inl (sym g) })
  end_exact (Some number) end g e = subst (IsEnd holds (Some values) tested) (sym e) (record { passed = ap passing (sym g); rounded = inl (sym g) })

  rounds : (number : Option ℚ) (p : Operation) → tested ≡ Passes p → IfSome number (λ q. holds q values) → IsRounded holds (Some values) tested (rounded_test values number p)
  rounds None p e h = inl (sym e)
  rounds (Some q) p e h = inr (record { operation = p; passes = e; values = values; list_is = refl; number = q; shows = h; printed_is = refl })

  pub end_rounded : (h : Halt) (p : Operation) (number : Option ℚ) (printed : Tested) → Gives values tested (Err h) → ((place : Place) × (h ≡ halt.Passed place p))
      → IfSome number (λ q. holds q values) → printed ≡ rounded_test values number p → IsEnd holds (Some values) tested (record { printed = printed; passed = Some p })
  end_rounded h p number printed g at shows e =
      let is : tested ≡ Passes p = subst (λ (k : Halt). Gives values tested (Err k)) at.1 g in
      record { passed = ap passing (sym is); rounded = subst (IsRounded holds (Some values) tested) (sym e) (rounds number p is shows) }

pub no_end : (holds : ℚ → List At → Type 0) → IsEnd holds None Fails (record { printed = Fails; passed = None })
no_end holds = record { passed = refl; rounded = inl refl }

-- ---- what rounding shows
pub upper_rounded : (v : View) (policy : List At) (found : Option ℚ) → Feasible v (at policy) → IfSome found (Beside Above (cost v (at policy))) → IfSome found (λ q. ShowsUpper v q policy)
upper_rounded v policy None f h = tt
upper_rounded v policy (Some q) f h = record { feasible = f; costs = h }

pub lower_rounded : (v : View) (dual : List At) (found : Option ℚ) → IsTree v → IfSome found (IsWorthAll Below v (at dual)) → IfSome found (λ q. ShowsLower v q dual)
lower_rounded v dual None t h = tt
lower_rounded v dual (Some q) t h = record { good = h.good; worth = h.beside; bound = λ x feasible. le_trans_ℚ h.beside (weak_duality v x (at dual) t feasible h.good) }
