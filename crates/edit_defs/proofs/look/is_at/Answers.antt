use Rattle.std.proofs.Common.{sym, ap, ◌∙◌}
use Rattle.smps_words.specs.Names.{same_name}
use Rattle.scen_defs.specs.declared.program.Scenario.{Scenario as ScenarioOf}
use Rattle.edit_defs.proofs.Finds.{name_there, name_past}
use Rattle.edit_defs.proofs.look.is_at.Goals as goal

pub returns-then-place-scenarios : goal.returns-then-place-scenarios
returns-then-place-scenarios c = sym (name_past c.args.name.now c.args.scenarios.now c.args.place c.if-place-scenarios.true)

pub returns : goal.returns
returns c = c.eq.ensures ∙ ap (same_name c.args.name.now) c.as_bytes.ensures ∙ ap (λ (x : ScenarioOf). same_name c.args.name.now x.name) (sym c.index-scenarios-place.is)
    ∙ sym (name_there c.args.name.now c.args.scenarios.now c.args.place c.index-scenarios-place.result c.if-place-scenarios.false c.index-scenarios-place.is)
