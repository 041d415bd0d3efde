use Rattle.std.proofs.Common.{◌≡◌, sym, ap, subst, ◌∙◌}
use Rattle.report_defs.specs.Blank.{blank_report}
use Rattle.scen_defs.specs.declared.report.Finding.{Finding}
use Rattle.scen_defs.specs.declared.report.Place.TheVariants.{Dual}
use Rattle.proved_report.specs.declared.open.Open.{Open}
use Rattle.proved_report.specs.declared.tested.Tested.{Tested}
use Rattle.proved_report.specs.Open.{finding_of}
use Rattle.proved_report.specs.Tested.{or_before, ray_test}
use Rattle.proved_report.specs.Reports.{IsFilled, ray_report}
use Rattle.proved_report.proofs.ReportLemmas.{nowhere_filled}
use Rattle.proved_report.proofs.ClaimLemmas.{nowhere_claimed}
use Rattle.proved_report.proofs.reports.nowhere.Goals as goal

pub returns-clause-filled : goal.returns-clause-filled
returns-clause-filled c = subst (IsFilled c.args.program.now c.args.number) (sym c.with_ray.ensures) (nowhere_filled c.args.program.now c.args.number c.blank-blank.result c.blank-blank.ensures.filled c.in_ok-ray.ray)

pub returns-clause-exact : goal.returns-clause-exact
returns-clause-exact c =
    let why_is : c.or_before-left.result ≡ (or_before (ray_test c.args.program.now c.args.ray) Dual c.args.why) = c.or_before-left.ensures ∙ ap (λ (t : Tested). or_before t Dual c.args.why) c.in_ok-ray.ensures in
    nowhere_claimed c.args.program.now c.args.number c.args.ray c.args.why c.args.solves c.blank-blank.result c.with_ray.result c.blank-blank.ensures.filled
    (c.blank-blank.ensures.is ∙ ap (λ (f : Finding). blank_report c.blank-blank.result.number c.blank-blank.result.nodes c.blank-blank.result.scenarios f) (c.open_finding.ensures ∙ ap (λ (w : Open). finding_of w c.args.solves) why_is))
    (c.with_ray.ensures ∙ ap (λ (t : Tested). ray_report c.blank-blank.result t) c.in_ok-ray.ensures)
