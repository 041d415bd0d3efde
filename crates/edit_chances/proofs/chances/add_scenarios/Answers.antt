use Rattle.std.proofs.Common.{◌++◌, ◌∷◌, [], None, Ok, ap, sym, ◌∙◌}
use Rattle.rationals.specs.Passes.{sub_walk, then_value, then_walk}
use Rattle.scen_defs.specs.Program.{scenario_content, scenarios_content}
use Rattle.edit_chances.specs.declared.scaled.Scale.TheVariants.{Times}
use Rattle.edit_chances.specs.Scaled.{rescaled_from}
use Rattle.scen_defs.proofs.Contents.{scenarios_push}
use Rattle.edit_chances.proofs.chances.add_scenarios.Goals as goal

pub returns : goal.returns
returns c =
    ap (then_value (λ all. all ++ scenario_content c.args.new ∷ []))
    (ap (λ w. then_walk w (λ left. rescaled_from c.args.new.name None (Times left) [] (scenarios_content c.args.scenarios.now)))
    (ap (λ o. sub_walk o c.args.new.probability) (sym c.one.ensures) ∙ sym c.sub.ensures ∙ c.in_ok-left.was) ∙ c.in_ok-all.ensures)
    ∙ ap Ok (sym (ap scenarios_content c.in_ok-push.ensures.items ∙ scenarios_push c.in_ok-all.all.items c.args.new))
