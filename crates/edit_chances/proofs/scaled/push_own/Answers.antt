use Rattle.std.proofs.Common.{◌++◌, ◌∷◌, [], Option, ap, sym, ◌∙◌}
use Rattle.rationals.specs.Rational.{ℚ}
use Rattle.scen_defs.specs.Program.{Scenario, scenario_content, scenarios_content}
use Rattle.edit_chances.specs.Scaled.{own_part}
use Rattle.scen_defs.proofs.Contents.{scenarios_push}
use Rattle.edit_chances.proofs.scaled.push_own.Goals as goal

pub returns-in_ok-push-in-Some : goal.returns-in_ok-push-in-Some
returns-in_ok-push-in-Some c =
    ap scenarios_content c.in_ok-push-in-Some.ensures.items ∙ scenarios_push c.args.made.now.items c.in_ok-copy-in-Some.copy
    ∙ ap (λ (x : Scenario). scenarios_content c.args.made.now.items ++ x ∷ []) c.in_ok-copy-in-Some.ensures
    ∙ ap (λ (q : Option ℚ). scenarios_content c.args.made.now.items ++ own_part q (scenario_content c.args.scenario.now)) (sym c.in-Some.is)
