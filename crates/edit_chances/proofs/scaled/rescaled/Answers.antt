-- A scenario more, and none left.
use Rattle.std.proofs.Common.{◌≡◌, ◌∙◌, ◌+◌, [], ap, sym, subst, drop, drop_of_length-le}
use Rattle.rationals.specs.Passes.{then_walk}
use Rattle.scen_defs.specs.Program.{scenarios_content}
use Rattle.scen_defs.proofs.NodeReads.{drop_read}
use Rattle.edit_chances.specs.Scaled.{rescaled_from}
use Rattle.edit_chances.proofs.scaled.rescaled.Goals as goal

pub loop-scenario-preserved : goal.loop-scenario-preserved
loop-scenario-preserved c =
    let name = c.args.name.now in
    let own = c.args.own in
    let scale = c.args.scale in
    let all = c.args.scenarios.now in
    let i = c.loop-scenario.scenario-index in
    let made = scenarios_content c.loop-scenario.made.items in
    sym (ap (λ part. then_walk part (λ more. rescaled_from name own scale more (scenarios_content (drop (i + 1) all)))) c.in_ok-push_part.ensures)
    ∙ sym (ap (λ left. rescaled_from name own scale made (scenarios_content left)) (drop_read all i c.scenario-item.result c.loop-scenario-test.true c.scenario-item.is))
    ∙ c.loop-scenario.invariant

pub returns : goal.returns
returns c =
    let made = scenarios_content c.loop-scenario.made.items in
    sym (subst (λ left. rescaled_from c.args.name.now c.args.own c.args.scale made (scenarios_content left) ≡ rescaled_from c.args.name.now c.args.own c.args.scale [] (scenarios_content c.args.scenarios.now))
    (drop_of_length-le c.args.scenarios.now c.loop-scenario-test.false) c.loop-scenario.invariant)
