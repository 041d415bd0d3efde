use Rattle.std.proofs.Common.{◌≡◌, ◌+◌, false, List, length, Option, Ok, ap, ap₂, sym, ◌∙◌}
use Rattle.scen_defs.specs.declared.program.Node.{Node as NodeOf}
use Rattle.scen_defs.specs.declared.program.Scenario.{Scenario as ScenarioOf}
use Rattle.scen_defs.specs.Program.{Node, Scenario, Program, content, nodes_content, scenario_content, scenarios_content}
use Rattle.edit_defs.specs.declared.counts.Counts.{Counts}
use Rattle.edit_defs.specs.Limits.{counts, is_above, plus}
use Rattle.edit_apply.specs.Told.{add_told}
use Rattle.edit_apply.proofs.Counting.{counts_append}
use Rattle.edit_apply.proofs.Ends.{rest_none}
use Rattle.edit_apply.proofs.apply_add.add.Goals as goal

pub returns-in_ok-extend-in-Ok-clause-counted : goal.returns-in_ok-extend-in-Ok-clause-counted
returns-in_ok-extend-in-Ok-clause-counted c =
    c.in_ok-all.ensures ∙ ap₂ plus c.requires.counted (c.in_ok-more.ensures ∙ ap (λ (ns : List (Option NodeOf)). counts (nodes_content ns)) c.deref.ensures.value)
    ∙ sym (counts_append (content c.args.program.now).nodes (nodes_content c.args.nodes.items))
    ∙ ap (λ (p : Program). counts p.nodes) (sym c.in_ok-extend-in-Ok.ensures.ok)

pub extend-requires : goal.extend-requires
extend-requires c =
    let p : Program = content c.args.program.now in
    let nodes : List (Option Node) = nodes_content c.args.nodes.items in
    let ss : List Scenario = scenarios_content c.in-Ok.scenarios.items in
    let above : is_above (length p.scenarios + 1) (plus (counts p.nodes) (counts nodes)) ≡ false =
    sym (c.if-is_above.ensures ∙ ap₂ (λ (ts : List ScenarioOf) (k : Counts). is_above (length (scenarios_content ts) + 1) k) c.deref-2.ensures.value
    (c.in_ok-all.ensures ∙ ap₂ plus c.requires.counted (c.in_ok-more.ensures ∙ ap (λ (ns : List (Option NodeOf)). counts (nodes_content ns)) c.deref.ensures.value))) in
    let told : add_told p (scenario_content c.args.new) nodes ≡ Ok ss =
    ap (λ (ns : List (Option NodeOf)). add_told p (scenario_content c.args.new) (nodes_content ns)) (sym c.deref-3.ensures.value) ∙ c.in-Ok.ensures in
    c.requires.keeps ss (rest_none p (scenario_content c.args.new) nodes ss above told) told
