use Rattle.std.proofs.Common.{◌≡◌, sym, ap, ap₂, subst, ◌∙◌}
use Rattle.report_defs.specs.Blank.{blank_report}
use Rattle.scen_defs.specs.declared.report.Finding.{Finding}
use Rattle.scen_defs.specs.declared.report.Place.TheVariants.{Dual}
use Rattle.proved_report.specs.declared.open.Open.{Open}
use Rattle.proved_report.specs.declared.tested.Tested.{Tested}
use Rattle.proved_report.specs.Open.{finding_of}
use Rattle.proved_report.specs.Tested.{or_before, some_policy_test, some_dual_test}
use Rattle.proved_report.specs.Reports.{IsFilled, ends_report}
use Rattle.proved_report.proofs.ReportLemmas.{ends_filled}
use Rattle.proved_report.proofs.ClaimLemmas.{ends_claimed}
use Rattle.proved_report.proofs.RoundLemmas.{before_is}
use Rattle.proved_report.proofs.reports.ends.Goals as goal

pub returns-clause-filled : goal.returns-clause-filled
returns-clause-filled c = subst (IsFilled c.args.program.now c.args.number) (sym c.with_ends.ensures) (ends_filled c.args.program.now c.args.number c.blank-blank.result c.blank-blank.ensures.filled c.in_ok-upper.upper.printed c.in_ok-lower.lower.printed)

pub returns-clause-exact : goal.returns-clause-exact
returns-clause-exact c =
    let upper : Tested = some_policy_test c.args.program.now c.args.policy in
    let lower : Tested = some_dual_test c.args.program.now c.args.dual in
    let inner : c.or_before.result ≡ or_before lower Dual c.args.why = c.or_before.ensures ∙ before_is lower c.in_ok-lower.lower.passed Dual c.args.why c.in_ok-lower.ensures.passed in
    let why_is : c.or_before-left.result ≡ or_before upper c.args.place (or_before lower Dual c.args.why) =
    c.or_before-left.ensures ∙ before_is upper c.in_ok-upper.upper.passed c.args.place c.or_before.result c.in_ok-upper.ensures.passed ∙ ap (λ (w : Open). or_before upper c.args.place w) inner in
    ends_claimed c.args.program.now c.args.number c.args.policy c.args.dual c.args.place c.args.why c.args.solves c.in_ok-upper.upper.printed c.in_ok-lower.lower.printed c.blank-blank.result c.with_ends.result
    c.in_ok-upper.ensures.rounded c.in_ok-lower.ensures.rounded c.blank-blank.ensures.filled
    (c.blank-blank.ensures.is ∙ ap (λ (f : Finding). blank_report c.blank-blank.result.number c.blank-blank.result.nodes c.blank-blank.result.scenarios f) (c.open_finding.ensures ∙ ap (λ (w : Open). finding_of w c.args.solves) why_is))
    c.with_ends.ensures
