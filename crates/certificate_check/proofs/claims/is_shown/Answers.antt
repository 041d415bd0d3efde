use Rattle.std.proofs.Common.{◌≡◌, IsTrue, Ok, sym, ◌∙◌}
use Rattle.std.proofs.lemmas.Result.{IfOk-weaker}
use Rattle.scen_defs.proofs.Valid.{programs_are_trees}
use Rattle.scen_defs.specs.Program.{content}
use Rattle.report_defs.specs.Seen.{seen}
use Rattle.certificate_check.specs.declared.verdict.Verdict.TheVariants.{Holds}
use Rattle.certificate_check.specs.Verdicts.{late_verdict}
use Rattle.certificate_check.specs.Shown.{IsShown}
use Rattle.certificate_check.proofs.HoldsLemmas.{shown_by}
use Rattle.certificate_check.proofs.claims.is_shown.Goals as goal

pub returns : goal.returns
returns c =
    let program = c.args.program.now in
    let report = c.args.report.now in
    IfOk-weaker c.is_late_held.result (λ held. IsTrue held → late_verdict program report ≡ Ok Holds) (λ held. IsTrue held → IsShown (seen program) report)
    (λ held h t. shown_by program report (programs_are_trees (content program) program.keeps).0 (sym c.has_shape.ensures ∙ c.if-not-has_shape.false)
    (sym c.has_ends.ensures ∙ c.if-not-has_ends.false) (c.in_ok-is_upper_shown.ensures c.if-not-branch.false) (c.in_ok-is_lower_shown.ensures c.if-not-branch-2.false) (h t))
    c.is_late_held.ensures
