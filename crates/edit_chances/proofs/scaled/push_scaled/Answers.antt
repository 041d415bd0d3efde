use Rattle.std.proofs.Common.{◌++◌, ◌∷◌, [], Ok, ap, sym, ◌∙◌}
use Rattle.rationals.specs.Passes.{then_value}
use Rattle.scen_defs.specs.Program.{Scenario, scenario_content, scenarios_content}
use Rattle.edit_chances.specs.Scaled.{with_chance}
use Rattle.scen_defs.proofs.Contents.{scenarios_push}
use Rattle.edit_chances.proofs.scaled.push_scaled.Goals as goal

pub returns : goal.returns
returns c =
    ap (then_value (λ q. scenarios_content c.args.made.now.items ++ with_chance (scenario_content c.args.scenario.now) q ∷ [])) (sym c.scaled.ensures ∙ c.in_ok-probability.was)
    ∙ ap Ok (sym (ap scenarios_content c.in_ok-push.ensures.items ∙ scenarios_push c.args.made.now.items c.in_ok-copy.copy
    ∙ ap (λ (x : Scenario). scenarios_content c.args.made.now.items ++ x ∷ []) c.in_ok-copy.ensures))
