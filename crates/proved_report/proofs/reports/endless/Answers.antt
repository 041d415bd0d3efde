use Rattle.std.proofs.Common.{◌≡◌, sym, ap, ap₂, subst, ◌∙◌}
use Rattle.report_defs.specs.Blank.{blank_report}
use Rattle.scen_defs.specs.declared.report.Finding.{Finding}
use Rattle.proved_report.specs.declared.open.Open.{Open}
use Rattle.proved_report.specs.declared.tested.Tested.{Tested}
use Rattle.proved_report.specs.Open.{finding_of}
use Rattle.proved_report.specs.Tested.{or_before, policy_test, direction_test}
use Rattle.proved_report.specs.Reports.{IsFilled, falling_report}
use Rattle.proved_report.proofs.ReportLemmas.{endless_filled}
use Rattle.proved_report.proofs.ClaimLemmas.{endless_claimed}
use Rattle.proved_report.proofs.reports.endless.Goals as goal

pub returns-clause-filled : goal.returns-clause-filled
returns-clause-filled c = subst (IsFilled c.args.program.now c.args.number) (sym c.with_slope.ensures) (endless_filled c.args.program.now c.args.number c.blank-blank.result c.blank-blank.ensures.filled c.in_ok-upper.upper c.in_ok-slope.slope)

pub returns-clause-exact : goal.returns-clause-exact
returns-clause-exact c =
    let inner : c.or_before.result ≡ or_before (direction_test c.args.program.now c.args.direction) c.args.place c.args.why = c.or_before.ensures ∙ ap (λ (t : Tested). or_before t c.args.place c.args.why) c.in_ok-slope.ensures in
    let why_is : c.or_before-left.result ≡ (or_before (policy_test c.args.program.now c.args.policy) c.args.place (or_before (direction_test c.args.program.now c.args.direction) c.args.place c.args.why)) = c.or_before-left.ensures ∙ ap₂ (λ (t : Tested) (w : Open). or_before t c.args.place w) c.in_ok-upper.ensures inner in
    endless_claimed c.args.program.now c.args.number c.args.policy c.args.direction c.args.place c.args.why c.args.solves c.blank-blank.result c.with_slope.result c.blank-blank.ensures.filled
    (c.blank-blank.ensures.is ∙ ap (λ (f : Finding). blank_report c.blank-blank.result.number c.blank-blank.result.nodes c.blank-blank.result.scenarios f) (c.open_finding.ensures ∙ ap (λ (w : Open). finding_of w c.args.solves) why_is))
    (c.with_slope.ensures ∙ ap₂ (λ (s t : Tested). falling_report c.blank-blank.result s t) c.in_ok-upper.ensures c.in_ok-slope.ensures)
