use Rattle.std.proofs.Common.{◌≡◌, true, false, List, ℕ, sym, subst, ◌∙◌}
use Rattle.scen_defs.specs.Lists.{passes_at}
use Rattle.scen_defs.specs.Program.{scenarios_content}
use Rattle.edit_defs.specs.After.{is_known, is_named}
use Rattle.edit_defs.proofs.Finds.{name_there, named_there, unknown_none}
use Rattle.edit_defs.proofs.look.find_near.Goals as goal

pub returns-in-Some-clause-scenario : goal.returns-in-Some-clause-scenario
returns-in-Some-clause-scenario c =
    let here : passes_at (is_named c.args.name.now) c.in-Some.place (scenarios_content c.args.scenarios.now) ≡ true =
    subst (λ (name : List ℕ). passes_at (is_named name) c.in-Some.place (scenarios_content c.args.scenarios.now) ≡ true) c.as_bytes.ensures c.in-Some.ensures.here in
    named_there c.args.name.now c.args.scenarios.now c.in-Some.place c.index-scenarios-place.result c.requires c.in-Some.ensures.within c.index-scenarios-place.is
    (sym (name_there c.args.name.now c.args.scenarios.now c.in-Some.place c.index-scenarios-place.result c.in-Some.ensures.within c.index-scenarios-place.is) ∙ here)

pub returns-in-None-clause-none : goal.returns-in-None-clause-none
returns-in-None-clause-none c = unknown_none c.args.name.now (scenarios_content c.args.scenarios.now)
    (subst (λ (name : List ℕ). is_known name (scenarios_content c.args.scenarios.now) ≡ false) c.as_bytes.ensures (sym c.in-None.ensures.known))
