-- The findings of reports of ends.
use Rattle.std.proofs.Common.{◌≡◌, ◌⊎◌, inl, inr, Bool, true, false, List, Option, Some, None, refl, ◌∙◌}
use Rattle.rationals.specs.Rational.{ℚ}
use Rattle.rationals.specs.Order.{same}
use Rattle.rationals.specs.Passes.{Operation}
use Rattle.rationals.specs.Choices.{pick}
use Rattle.scen_defs.specs.Values.{At}
use Rattle.scen_defs.specs.declared.report.Finding.{Finding}
use Rattle.scen_defs.specs.declared.report.Finding.TheVariants.{Optimal}
use Rattle.scen_defs.specs.declared.report.Report.{Report}
use Rattle.proved_report.specs.declared.tested.Tested.{Tested}
use Rattle.proved_report.specs.declared.tested.Tested.TheVariants.{Shows, Fails, Passes}
use Rattle.proved_report.specs.Tested.{shown_number}
use Rattle.proved_report.specs.Rounded.{IsRounded}
use Rattle.proved_report.specs.Reports.{ends_finding, upper_report, lower_report, ends_report}

-- ---- the findings of reports
-- ends are OPTIMAL where they are equal
pub ends_from : (lower upper : Option ℚ) (finding : Finding)
    → (ends_finding lower upper finding ≡ Optimal) ⊎ (ends_finding lower upper finding ≡ finding)
ends_from None upper finding = inr refl
ends_from (Some lower) None finding = inr refl
ends_from (Some lower) (Some upper) finding = go (same lower upper)
  where
    go : (b : Bool) → (pick b Optimal finding ≡ Optimal) ⊎ (pick b Optimal finding ≡ finding)
    go true = inl refl
    go false = inr refl

upper_finding : (report : Report) (t : Tested) → (upper_report report t).finding ≡ report.finding
upper_finding report (Shows cost policy) = refl
upper_finding report Fails = refl
upper_finding report (Passes o) = refl

lower_finding : (report : Report) (t : Tested) → (lower_report report t).finding ≡ report.finding
lower_finding report (Shows value dual) = refl
lower_finding report Fails = refl
lower_finding report (Passes o) = refl

pub ends_is : (blank : Report) (upper lower : Tested)
    → (ends_report blank upper lower).finding ≡ ends_finding (shown_number lower) (shown_number upper) blank.finding
ends_is blank upper lower =
    let told : Finding = ends_finding (shown_number lower) (shown_number upper) blank.finding in
    lower_finding (upper_report (record blank { finding = told }) upper) lower ∙ upper_finding (record blank { finding = told }) upper

-- OPTIMAL, or as the report was left
pub found_from : (blank : Report) (upper lower : Tested) → ((ends_report blank upper lower).finding ≡ Optimal) ⊎ ((ends_report blank upper lower).finding ≡ blank.finding)
found_from blank upper lower = go (ends_from (shown_number lower) (shown_number upper) blank.finding)
  where
    go : (ends_finding (shown_number lower) (shown_number upper) blank.finding ≡ Optimal) ⊎ (ends_finding (shown_number lower) (shown_number upper) blank.finding ≡ blank.finding)
        → ((ends_report blank upper lower).finding ≡ Optimal) ⊎ ((ends_report blank upper lower).finding ≡ blank.finding)
    go (inl x) = inl (ends_is blank upper lower ∙ x)
    go (inr x) = inr (ends_is blank upper lower ∙ x)

-- where no operation of a test passes, it is printed as it is
pub kept_test : (Shown : ℚ → List At → Type 0) (list : Option (List At)) (t u : Tested) → ((o : Operation) → t ≡ Passes o → ⊥) → IsRounded Shown list t u → u ≡ t
kept_test Shown list t u none (inl e) = e
kept_test Shown list t u none (inr r) = absurd (none r.operation r.passes)
